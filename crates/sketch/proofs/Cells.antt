-- Adding shingles to their cells: five summands a cell, three cells a shingle, shingle after shingle.
use Rattle.std.proofs.Common.{◌≡◌, ℕ, zero, suc, ◌+◌, ◌*◌, ◌%◌, ◌^◌, ◌<◌, ◌≤◌, Bool, true, false, cond, eqb, List, [], ◌∷◌, ◌++◌, length, get_or, take, sym, refl, ap, ◌∙◌, append_assoc, append-nil, mod-lt, add-zero, add-one, arith, take_all, take-suc}
use native.Mathlib.Nat.{mod-add-mod, mul-le-mul}
use Rattle.shingle.specs.declared.Shingle.{Shingle}
use Rattle.shingle.specs.Table.{shingle_in_table, shingles_in}
use Rattle.shingle.proofs.Reading.{listed_at}
use Rattle.sketch.specs.Sums.{Part, part, parts_from, sum_at, neg, negated, with_sign, Added}
use Rattle.sketch.specs.Cells.{tail_of, tag_of, cell_of, five_parts, in_cell, parts_of, all_parts, CellOf}
use Rattle.sketch.specs.Opening.{signed, signed_parts}
use Rattle.sketch.proofs.Difference.{negated-append}
use Rattle.sketch.proofs.Sums.{added_none, added_then, added_same}

-- One row more of those that follow one another.
parts_more : (k m : ℕ) (xs : List ℕ) → m < length xs → parts_from k (take (suc m) xs) ≡ parts_from k (take m xs) ++ (part (k + m) (get_or xs m 0) ∷ [])
unfolding parts_from
parts_more k m [] h = absurd (omega arith)
parts_more k zero (x ∷ xs) h = ap (λ (n : ℕ). part n x ∷ []) (sym (add-zero k))
parts_more k (suc m) (x ∷ xs) h =
    ap (λ (l : List Part). part k x ∷ l)
    (parts_more (k + 1) m xs (omega arith)
    ∙ ap (λ (n : ℕ). parts_from (k + 1) (take m xs) ++ (part n (get_or xs m 0) ∷ [])) {x = k + 1 + m} {y = k + suc m} (omega arith))

pub rows_start : (a : List ℕ) (k : ℕ) (xs : List ℕ) → Added a a (parts_from k (take 0 xs))
unfolding parts_from
rows_start a k xs = added_none a

pub rows_next : {a b c : List ℕ} (k m : ℕ) (xs : List ℕ) → m < length xs → Added a b (parts_from k (take m xs))
    → Added b c (part (k + m) (get_or xs m 0) ∷ []) → Added a c (parts_from k (take (m + 1) xs))
rows_next k m xs h f g = rw (add-one m, parts_more k m xs h) (added_then f g)

pub rows_end : {a b : List ℕ} (k m : ℕ) (xs : List ℕ) → length xs ≤ m → Added a b (parts_from k (take m xs)) → Added a b (parts_from k xs)
rows_end k m xs h f = rw (take_all m xs h) at f

-- The rows of a cell.
five_from : (i a b c d e : ℕ) → parts_from (i * 5) (a ∷ b ∷ c ∷ d ∷ e ∷ []) ≡ five_parts i a b c d e
unfolding parts_from five_parts
five_from i a b c d e =
    let second : i * 5 + 1 + 1 ≡ i * 5 + 2 = omega arith in
    let third : i * 5 + 1 + 1 + 1 ≡ i * 5 + 3 = omega arith in
    let fourth : i * 5 + 1 + 1 + 1 + 1 ≡ i * 5 + 4 = omega arith in
    λ t. part (i * 5) a ∷ part (i * 5 + 1) b ∷ part (second t) c ∷ part (third t) d ∷ part (fourth t) e ∷ []

-- The place of a cell.
pub cell_is : (q j hash : ℕ) (s : Shingle) → 1 ≤ q → q ≤ 64 → j < 3 → hash ≡ tag_of j s → CellOf q j s (j * q + hash % q)
unfolding cell_of
cell_is q j hash s low high third h =
    record {
      is = ap (λ (n : ℕ). j * q + n % q) h;
      low =
          let second : j ≤ 2 = omega arith in
          let before : j * q ≤ 2 * 64 = mul-le-mul second high in
          omega (arith, before, mod-lt hash low);
    }

-- A tail modulo 2^64 adds the same as the tail.
tail_low : (b : Bool) (x y z t u : ℕ) → (x + (y + (z + (cond b (t % 2 ^ 64) 0 + u)))) % 2 ^ 64 ≡ (x + (y + (z + (cond b t 0 + u)))) % 2 ^ 64
tail_low true x y z t u =
    ap (λ (n : ℕ). n % 2 ^ 64) {x = x + (y + (z + (t % 2 ^ 64 + u)))} {y = t % 2 ^ 64 + (x + (y + (z + u)))} (omega arith)
    ∙ (mod-add-mod t (2 ^ 64) (x + (y + (z + u)))
    ∙ ap (λ (n : ℕ). n % 2 ^ 64) {x = t + (x + (y + (z + u)))} {y = x + (y + (z + (t + u)))} (omega arith))
tail_low false x y z t u = refl

five_low : (k i number previous own tail tag : ℕ)
    → sum_at k (five_parts i number previous own (tail % 2 ^ 64) tag) % 2 ^ 64 ≡ sum_at k (five_parts i number previous own tail tag) % 2 ^ 64
unfolding sum_at five_parts
five_low k i number previous own tail tag = tail_low (eqb (i * 5 + 3) k) _ _ _ tail _

-- Values with a sign.
pub plain_value : (b : Bool) (x : ℕ) → b ≡ false → x ≡ with_sign b x
unfolding with_sign
plain_value b x e = rw e

pub negative_only : (r x : ℕ) → r < 18446744073709551616 → (r + x) % 18446744073709551616 ≡ 0 → r ≡ neg x
unfolding neg
negative_only r x h e = omega arith

pub negative_value : (b : Bool) (r x : ℕ) → b ≡ true → r < 2 ^ 64 → (r + x) % 2 ^ 64 ≡ 0 → r ≡ with_sign b x
unfolding with_sign
negative_value b r x e h z = rw e (negative_only r x h z)

neg_low : (x : ℕ) → neg (x % 18446744073709551616) ≡ neg x
unfolding neg
neg_low x = omega arith

-- What a shingle adds to cell i with a sign.
abbrev signed_cell : Bool → ℕ → Shingle → List Part
signed_cell b i s = cond b (negated (in_cell i s)) (in_cell i s)

-- The five values of a shingle with a sign.
pub record FiveOf (b : Bool) (s : Shingle) (number previous own tail tag : ℕ) : Type 0 where
  pub one : number ≡ with_sign b 1
  pub before : previous ≡ with_sign b s.previous
  pub self : own ≡ with_sign b s.own
  pub low : tail ≡ with_sign b (tail_of s % 2 ^ 64)
  pub check : tag ≡ with_sign b (tag_of 3 s)

pub five_of : {b : Bool} {s : Shingle} {number previous own t tail g tag : ℕ} → number ≡ with_sign b 1 → previous ≡ with_sign b s.previous
    → own ≡ with_sign b s.own → t ≡ tail_of s % 2 ^ 64 → tail ≡ with_sign b t → g ≡ tag_of 3 s → tag ≡ with_sign b g
    → FiveOf b s number previous own tail tag
five_of {b} n p o e t f g = record { one = n; before = p; self = o; low = t ∙ ap (with_sign b) e; check = g ∙ ap (with_sign b) f }

five_signed : {a c : List ℕ} (b : Bool) (i : ℕ) (s : Shingle)
    → Added a c (five_parts i (with_sign b 1) (with_sign b s.previous) (with_sign b s.own) (with_sign b (tail_of s % 2 ^ 64)) (with_sign b (tag_of 3 s)))
    → Added a c (signed_cell b i s)
unfolding with_sign in_cell negated five_parts
five_signed true i s f = rw (neg_low (tail_of s)) at f
five_signed false i s f = added_same _ _ (λ k. five_low k i 1 s.previous s.own (tail_of s) (tag_of 3 s)) f

-- What a shingle adds to the first j of its cells.
unfoldable pub first_cells : Bool → ℕ → Shingle → ℕ → List Part
first_cells b q s zero = []
first_cells b q s (suc j) = first_cells b q s j ++ signed_cell b (cell_of q j s) s

pub no_cell : (a : List ℕ) (b : Bool) (q : ℕ) (s : Shingle) → Added a a (first_cells b q s 0)
unfolding first_cells
no_cell a b q s = added_none a

pub one_cell : {a c d : List ℕ} (q j i : ℕ) (b : Bool) (s : Shingle) {number previous own tail tag : ℕ}
    → CellOf q j s i → FiveOf b s number previous own tail tag → Added a c (first_cells b q s j)
    → Added c d (parts_from (i * 5) (number ∷ previous ∷ own ∷ tail ∷ tag ∷ [])) → Added a d (first_cells b q s (j + 1))
unfolding first_cells
one_cell q j i b s {number} {previous} {own} {tail} {tag} place five e f =
    let g = rw (five_from i number previous own tail tag, place.is, five.one, five.before, five.self, five.low, five.check) at f in
    rw (add-one j) (added_then e (five_signed b (cell_of q j s) s g))

pub three_cells : {a e : List ℕ} (q : ℕ) (b : Bool) (s : Shingle) → Added a e (first_cells b q s 3) → Added a e (signed_parts q (signed b s))
unfolding signed_parts parts_of first_cells
three_cells q true s f =
    let x = in_cell (cell_of q 0 s) s in
    let y = in_cell (cell_of q 1 s) s in
    let z = in_cell (cell_of q 2 s) s in
    rw (negated-append x (y ++ z), negated-append y z, ← append_assoc (negated x) (negated y) (negated z)) f
three_cells q false s f =
    rw (← append_assoc (in_cell (cell_of q 0 s) s) (in_cell (cell_of q 1 s) s) (in_cell (cell_of q 2 s) s)) f

-- Building is a sum over the list.
pub parts_append : (q : ℕ) (a b : List Shingle) → all_parts q (a ++ b) ≡ all_parts q a ++ all_parts q b
unfolding all_parts
parts_append q [] b = refl
parts_append q (s ∷ a) b = ap (λ (l : List Part). parts_of q s ++ l) (parts_append q a b) ∙ sym (append_assoc (parts_of q s) (all_parts q a) (all_parts q b))

abbrev nothing : Shingle
nothing = record { previous = 0; own = 0; level = 0; count = 0 }

one_shingle : (q : ℕ) (t : List ℕ) (k : ℕ) (s : Shingle) → k < length (shingles_in t) → s ≡ shingle_in_table t k
    → all_parts q (take (k + 1) (shingles_in t)) ≡ all_parts q (take k (shingles_in t)) ++ parts_of q s
unfolding all_parts
one_shingle q t k s h e =
    ap (all_parts q) (
    ap (λ (n : ℕ). take n (shingles_in t)) (add-one k)
    ∙ (take-suc (shingles_in t) k nothing h ∙ ap (λ (x : Shingle). take k (shingles_in t) ++ (x ∷ [])) (listed_at t k h ∙ sym e)))
    ∙ (parts_append q (take k (shingles_in t)) (s ∷ []) ∙ ap (λ (l : List Part). all_parts q (take k (shingles_in t)) ++ l) (append-nil (parts_of q s)))

pub list_start : (a : List ℕ) (q : ℕ) (t : List ℕ) → Added a a (all_parts q (take 0 (shingles_in t)))
unfolding all_parts
list_start a q t = added_none a

pub list_next : (a b c : List ℕ) (q : ℕ) (t : List ℕ) (k : ℕ) (s : Shingle) → k < length (shingles_in t) → s ≡ shingle_in_table t k
    → Added a b (all_parts q (take k (shingles_in t))) → Added b c (signed_parts q (signed false s)) → Added a c (all_parts q (take (k + 1) (shingles_in t)))
unfolding signed_parts
list_next a b c q t k s h e f g = rw (one_shingle q t k s h e) (added_then f g)

pub list_end : (a b : List ℕ) (q : ℕ) (t : List ℕ) (k : ℕ) → length (shingles_in t) ≤ k → Added a b (all_parts q (take k (shingles_in t))) → Added a b (all_parts q (shingles_in t))
list_end a b q t k h f = rw (take_all k (shingles_in t) h) at f
