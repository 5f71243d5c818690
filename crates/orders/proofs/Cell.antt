-- Whether a cell is single, and what it holds then, follows from the shingles that lie in it: one alone is read back, and where none lies the
-- cell is not single.
use mathlib.Core.Bool.{Bool, true, false, cond, ◌&&◌, ◌||◌}
use mathlib.Core.List.{List, [], ◌∷◌}
use mathlib.Core.Path.{◌≡◌, refl, sym, ap, ◌∙◌}
use Prim.Native.Nat.{ℕ, ◌+◌, ◌*◌, ◌-◌, ◌/◌, ◌%◌, ◌^◌, ◌≤◌, ◌<◌}
use native.Mathlib.Omega.{arith}
use borrow.Author.Tests.{eq-eqb, lt-ltb, le-leb}
use lib.Dec.{eqb}
use lib.ListN.{get_or}
use Rattle.fnv.proofs.Fnv.{hash_small}
use Rattle.sort.specs.Shell.{total}
use Rattle.shingle.specs.declared.Shingle.{Shingle}
use Rattle.sketch.specs.Sums.{neg, with_sign}
use Rattle.sketch.specs.Cells.{tail_of, tag_of, shingle_bytes}
use Rattle.sketch.specs.Opening.{Signed, signed, signed_cells, is_negative, value_in, shingle_in, lies_in, fits, single, held_by}
use Rattle.orders.specs.Left.{lying_in}
use Rattle.orders.specs.Limits.{Limited}
use Rattle.orders.proofs.Rows.{pick, row_of, row_lying}

-- Whether a cell is single, by its five values.
abbrev value_from : ℕ → ℕ → ℕ
value_from number x = cond (eqb number (2 ^ 64 - 1)) (neg x) x

abbrev shingle_from : (number previous own tail : ℕ) → Shingle
shingle_from number previous own tail =
    record {
      previous = value_from number previous;
      own = value_from number own;
      level = value_from number tail / 65536;
      count = value_from number tail % 65536;
    }

abbrev single_from : (q levels i number previous own tail tag : ℕ) → Bool
single_from q levels i number previous own tail tag =
    (eqb number 1 || eqb number (2 ^ 64 - 1))
    && (fits levels (value_from number tail) (value_from number tag) (shingle_from number previous own tail)
    && lies_in q i (shingle_from number previous own tail))

single_from_lem : (q levels : ℕ) (cells : List ℕ) (i : ℕ) → single q levels cells i
    ≡ single_from q levels i (get_or cells (i * 5) 0) (get_or cells (i * 5 + 1) 0) (get_or cells (i * 5 + 2) 0) (get_or cells (i * 5 + 3) 0) (get_or cells (i * 5 + 4) 0)
unfolding single is_negative value_in shingle_in
single_from_lem q levels cells i = refl

held_from : (cells : List ℕ) (i : ℕ) → held_by cells i
    ≡ signed (eqb (get_or cells (i * 5) 0) (2 ^ 64 - 1)) (shingle_from (get_or cells (i * 5) 0) (get_or cells (i * 5 + 1) 0) (get_or cells (i * 5 + 2) 0) (get_or cells (i * 5 + 3) 0))
unfolding held_by is_negative value_in shingle_in
held_from cells i = refl

plus_none : (n : ℕ) → n + 0 ≡ n
plus_none n = omega arith

-- A value with its sign, read back from a cell that holds it alone.
one_number : (t : Bool) → eqb ((with_sign t 1 + 0) % 2 ^ 64) (2 ^ 64 - 1) ≡ t
unfolding with_sign neg
one_number true = refl
one_number false = refl

one_or_other : (t : Bool) → (eqb ((with_sign t 1 + 0) % 2 ^ 64) 1 || eqb ((with_sign t 1 + 0) % 2 ^ 64) (2 ^ 64 - 1)) ≡ true
unfolding with_sign neg
one_or_other true = refl
one_or_other false = refl

read_back : (t : Bool) (v : ℕ) → v < 18446744073709551616 → value_from ((with_sign t 1 + 0) % 18446744073709551616) ((with_sign t v + 0) % 18446744073709551616) ≡ v
unfolding with_sign neg
read_back true v h = omega arith
read_back false v h = omega arith

tag_small : (j : ℕ) (s : Shingle) → tag_of j s < 18446744073709551616
unfolding tag_of
tag_small j s = hash_small 14695981039346656037 (j ∷ shingle_bytes s) (omega arith)

-- The shingle of a value with its tail.
level_again : (l c : ℕ) → c ≤ 4096 → (l * 65536 + c) / 65536 ≡ l
level_again l c h = omega arith

count_again : (l c : ℕ) → c ≤ 4096 → (l * 65536 + c) % 65536 ≡ c
count_again l c h = omega arith

module _ (levels : ℕ) (low : levels ≤ 4) (s : Shingle) (limited : Limited levels s) where
  tail_small : tail_of s < 4294967296
  tail_small = omega (arith, limited.level_high, limited.count_high)

  -- "the tail is below 2^32 with level 0 to L and count 1 to 4,096, F(3) fits"
  limited_fits : fits levels (tail_of s) (tag_of 3 s) s ≡ true
  unfolding fits
  limited_fits =
      rw (
        lt-ltb (tail_of s) 4294967296 tail_small,
        le-leb s.level levels limited.level_high,
        le-leb 1 s.count limited.count_low,
        le-leb s.count 4096 limited.count_high,
        eq-eqb (tag_of 3 s) (tag_of 3 s) refl,
      ) refl

  pub from_values : (t : Bool) → shingle_from ((with_sign t 1 + 0) % 2 ^ 64) ((with_sign t s.previous + 0) % 2 ^ 64) ((with_sign t s.own + 0) % 2 ^ 64) ((with_sign t (tail_of s) + 0) % 2 ^ 64) ≡ s
  from_values t =
      let p = read_back t s.previous limited.previous_id in
      let o = read_back t s.own limited.own_id in
      let w = read_back t (tail_of s) (omega (arith, tail_small)) in
      let l = ap (λ (n : ℕ). n / 65536) w ∙ level_again s.level s.count limited.count_high in
      let c = ap (λ (n : ℕ). n % 65536) w ∙ count_again s.level s.count limited.count_high in
      λ j. record { previous = p j; own = o j; level = l j; count = c j }

  pub single_values : (q i : ℕ) (t : Bool) → lies_in q i s ≡ true
      → single_from q levels i ((with_sign t 1 + 0) % 2 ^ 64) ((with_sign t s.previous + 0) % 2 ^ 64) ((with_sign t s.own + 0) % 2 ^ 64)
      ((with_sign t (tail_of s) + 0) % 2 ^ 64) ((with_sign t (tag_of 3 s) + 0) % 2 ^ 64) ≡ true
  single_values q i t lies =
      rw (one_or_other t, from_values t, read_back t (tail_of s) (omega (arith, tail_small)), read_back t (tag_of 3 s) (tag_small 3 s), limited_fits, lies) refl

-- The five values of cell i in the cells of signed shingles.
module _ (q i : ℕ) (some : 1 ≤ q) (in-range : i < q * 3) where
  row : (zs : List Signed) (m : ℕ) → m < 5 → get_or (signed_cells q zs) (i * 5 + m) 0 ≡ total (row_of m) (lying_in q i zs) % 2 ^ 64
  row zs m low = row_lying q i some zs m low in-range

  row_first : (zs : List Signed) → get_or (signed_cells q zs) (i * 5) 0 ≡ total (row_of 0) (lying_in q i zs) % 2 ^ 64
  row_first zs = ap (λ (k : ℕ). get_or (signed_cells q zs) k 0) (sym (plus_none (i * 5))) ∙ row zs 0 (omega arith)

  abbrev sum : ℕ → List Signed → ℕ
  sum m zs = total (row_of m) zs % 2 ^ 64

  -- They depend on those that lie in it, and on nothing else.
  pub single_lying : (levels : ℕ) (zs : List Signed) → single q levels (signed_cells q zs) i
      ≡ single_from q levels i (sum 0 (lying_in q i zs)) (sum 1 (lying_in q i zs)) (sum 2 (lying_in q i zs)) (sum 3 (lying_in q i zs)) (sum 4 (lying_in q i zs))
  single_lying levels zs =
      single_from_lem q levels (signed_cells q zs) i
      ∙ rw (row_first zs, row zs 1 (omega arith), row zs 2 (omega arith), row zs 3 (omega arith), row zs 4 (omega arith)) refl

  pub held_lying : (zs : List Signed) → held_by (signed_cells q zs) i
      ≡ signed (eqb (sum 0 (lying_in q i zs)) (2 ^ 64 - 1)) (shingle_from (sum 0 (lying_in q i zs)) (sum 1 (lying_in q i zs)) (sum 2 (lying_in q i zs)) (sum 3 (lying_in q i zs)))
  held_lying zs =
      held_from (signed_cells q zs) i ∙ rw (row_first zs, row zs 1 (omega arith), row zs 2 (omega arith), row zs 3 (omega arith)) refl

  -- A cell in which none lies is not single.
  pub none_single : (levels : ℕ) (zs : List Signed) → lying_in q i zs ≡ [] → single q levels (signed_cells q zs) i ≡ false
  unfolding total
  none_single levels zs e = single_lying levels zs ∙ rw e refl

  -- A cell in which the same lie is single in both, or in neither.
  pub same_single : (levels : ℕ) (zs ws : List Signed) → lying_in q i zs ≡ lying_in q i ws → single q levels (signed_cells q zs) i ≡ single q levels (signed_cells q ws) i
  same_single levels zs ws e = single_lying levels zs ∙ (rw e refl ∙ sym (single_lying levels ws))

  -- A cell in which one lies alone is single, and holds that one.
  module _ (levels : ℕ) (low : levels ≤ 4) (z : Signed) (limited : Limited levels z.shingle) (zs : List Signed) (alone : lying_in q i zs ≡ z ∷ []) where
    pub one_held : held_by (signed_cells q zs) i ≡ z
    unfolding total pick
    one_held =
        held_lying zs ∙ rw alone (λ j. signed (one_number z.negative j) (from_values levels low z.shingle limited z.negative j))

    pub one_single : lies_in q i z.shingle ≡ true → single q levels (signed_cells q zs) i ≡ true
    unfolding total pick
    one_single lies = single_lying levels zs ∙ rw alone (single_values levels low z.shingle limited q i z.negative lies)
