-- What stands in the rows of a cell: the sums over the shingles that lie in it, each counted once, since a shingle's three cells differ.
use mathlib.Core.Bool.{Bool, true, false, cond, ◌&&◌, ◌||◌}
use mathlib.Core.List.{List, [], ◌∷◌, ◌++◌}
use mathlib.Core.Path.{◌≡◌, refl, ap, ◌∙◌}
use Prim.Native.Nat.{ℕ, zero, suc, ◌+◌, ◌*◌, ◌%◌, ◌^◌, ◌≤◌, ◌<◌}
use native.Mathlib.Decide.{ℕ_discrete}
use native.Mathlib.Nat.{mod-lt}
use native.Mathlib.Omega.{arith}
use borrow.Author.Tests.{eqb-true, eq-eqb, ne_eqb}
use lib.Dec.{eqb}
use lib.ListN.{get_or}
use Rattle.sort.specs.Shell.{total}
use Rattle.shingle.specs.declared.Shingle.{Shingle}
use Rattle.sketch.specs.Sums.{sum_at, neg, negated, with_sign}
use Rattle.sketch.specs.Cells.{tail_of, tag_of, cell_of, five_parts, in_cell, parts_of}
use Rattle.sketch.specs.Opening.{Signed, signed_parts, all_signed, signed_cells, lies_in}
use Rattle.sketch.proofs.Sums.{sum_append, sum_row}
use Rattle.orders.specs.Left.{keep, lying_in}

-- One of five values.
unfoldable pub pick : ℕ → (a b c d e : ℕ) → ℕ
pick zero a b c d e = a
pick (suc zero) a b c d e = b
pick (suc (suc zero)) a b c d e = c
pick (suc (suc (suc zero))) a b c d e = d
pick (suc (suc (suc (suc m)))) a b c d e = e

-- Value m of a shingle.
abbrev pub value_of : ℕ → Shingle → ℕ
value_of m s = pick m 1 s.previous s.own (tail_of s) (tag_of 3 s)

-- What a signed shingle adds to row m of a cell that it lies in.
abbrev pub row_of : ℕ → Signed → ℕ
row_of m z = with_sign z.negative (value_of m z.shingle)

pick-neg : (m a b c d e : ℕ) → pick m (neg a) (neg b) (neg c) (neg d) (neg e) ≡ neg (pick m a b c d e)
unfolding pick
pick-neg zero a b c d e = refl
pick-neg (suc zero) a b c d e = refl
pick-neg (suc (suc zero)) a b c d e = refl
pick-neg (suc (suc (suc zero))) a b c d e = refl
pick-neg (suc (suc (suc (suc m)))) a b c d e = refl

-- Row m of cell i, from five summands of cell c: nothing, if it is another cell.
place : (i c m j row : ℕ) → m < 5 → j < 5 → row ≡ c * 5 + j → eqb row (i * 5 + m) ≡ (eqb i c && eqb m j)
place i c m j row low low' e =
    elim (ℕ_discrete i c) [
      | yes f ↦ elim (ℕ_discrete m j) [
        | yes g ↦ eq-eqb row (i * 5 + m) (omega arith) ∙ rw (eq-eqb i c f, eq-eqb m j g) refl
        | no g ↦ ne_eqb row (i * 5 + m) (λ h. g (omega arith)) ∙ rw (eq-eqb i c f, ne_eqb m j g) refl
      ]
      | no f ↦ ne_eqb row (i * 5 + m) (λ h. f (omega arith)) ∙ rw (ne_eqb i c f) refl
    ]

picked : (t : Bool) (m a b c d e : ℕ) → m < 5
    → cond (t && eqb m 0) a 0 + (cond (t && eqb m 1) b 0 + (cond (t && eqb m 2) c 0 + (cond (t && eqb m 3) d 0 + (cond (t && eqb m 4) e 0 + 0))))
    ≡ cond t (pick m a b c d e) 0
unfolding pick
picked false m a b c d e low = refl
picked true zero a b c d e low = omega arith
picked true (suc zero) a b c d e low = omega arith
picked true (suc (suc zero)) a b c d e low = omega arith
picked true (suc (suc (suc zero))) a b c d e low = omega arith
picked true (suc (suc (suc (suc zero)))) a b c d e low = omega arith
picked true (suc (suc (suc (suc (suc m))))) a b c d e low = absurd (omega arith)

five_row : (c i a₀ a₁ a₂ a₃ a₄ m : ℕ) → m < 5 → sum_at (i * 5 + m) (five_parts c a₀ a₁ a₂ a₃ a₄) ≡ cond (eqb i c) (pick m a₀ a₁ a₂ a₃ a₄) 0
unfolding sum_at five_parts
five_row c i a₀ a₁ a₂ a₃ a₄ m low =
    rw (
      place i c m 0 (c * 5) low (omega arith) (omega arith),
      place i c m 1 (c * 5 + 1) low (omega arith) refl,
      place i c m 2 (c * 5 + 2) low (omega arith) refl,
      place i c m 3 (c * 5 + 3) low (omega arith) refl,
      place i c m 4 (c * 5 + 4) low (omega arith) refl,
    ) (picked (eqb i c) m a₀ a₁ a₂ a₃ a₄ low)

-- The three cells of a shingle differ: the j-th lies among the q cells from j × q on.
three : (a b c : Bool) (x : ℕ) → (a ≡ true → b ≡ false) → (a ≡ true → c ≡ false) → (b ≡ true → c ≡ false)
    → cond a x 0 + (cond b x 0 + cond c x 0) ≡ cond (a || (b || c)) x 0
three true b c x p q r = rw (p refl, q refl) (omega arith)
three false true c x p q r = rw (r refl) (omega arith)
three false false true x p q r = omega arith
three false false false x p q r = refl

module _ (q i : ℕ) (some : 1 ≤ q) where
  later : (a b x y : ℕ) → x < q → a + q ≤ b → eqb i (a + x) ≡ true → eqb i (b + y) ≡ false
  later a b x y low far e = let here = eqb-true i (a + x) e in ne_eqb i (b + y) (λ f. omega (arith, here, f))

  -- Row m of cell i, from the values of a shingle in its three cells.
  three_cells : (s : Shingle) (a b c d e m : ℕ) → m < 5
      → sum_at (i * 5 + m) (five_parts (cell_of q 0 s) a b c d e ++ (five_parts (cell_of q 1 s) a b c d e ++ five_parts (cell_of q 2 s) a b c d e))
      ≡ cond (lies_in q i s) (pick m a b c d e) 0
  unfolding lies_in
  three_cells s a b c d e m low =
      let x = five_parts (cell_of q 0 s) a b c d e in
      let y = five_parts (cell_of q 1 s) a b c d e in
      let z = five_parts (cell_of q 2 s) a b c d e in
      let k = i * 5 + m in
      sum_append k x (y ++ z)
      ∙ (ap (λ (n : ℕ). sum_at k x + n) (sum_append k y z)
      ∙ (rw (five_row (cell_of q 0 s) i a b c d e m low, five_row (cell_of q 1 s) i a b c d e m low, five_row (cell_of q 2 s) i a b c d e m low)
      (three (eqb i (cell_of q 0 s)) (eqb i (cell_of q 1 s)) (eqb i (cell_of q 2 s)) (pick m a b c d e)
      (unfold cell_of in later (0 * q) (1 * q) (tag_of 0 s % q) (tag_of 1 s % q) (mod-lt (tag_of 0 s) some) (omega arith))
      (unfold cell_of in later (0 * q) (2 * q) (tag_of 0 s % q) (tag_of 2 s % q) (mod-lt (tag_of 0 s) some) (omega arith))
      (unfold cell_of in later (1 * q) (2 * q) (tag_of 1 s % q) (tag_of 2 s % q) (mod-lt (tag_of 1 s) some) (omega arith)))))

  signed_row : (z : Signed) (m : ℕ) → m < 5 → sum_at (i * 5 + m) (signed_parts q z) ≡ cond (lies_in q i z.shingle) (row_of m z) 0
  unfolding signed_parts with_sign
  signed_row z m low = go z.negative
    where
      s : Shingle
      s = z.shingle

      go : (t : Bool) → sum_at (i * 5 + m) (cond t (negated (parts_of q s)) (parts_of q s)) ≡ cond (lies_in q i s) (cond t (neg (value_of m s)) (value_of m s)) 0
      go true =
          let turned : sum_at (i * 5 + m) (negated (parts_of q s)) ≡ cond (lies_in q i s) (pick m (neg 1) (neg s.previous) (neg s.own) (neg (tail_of s)) (neg (tag_of 3 s))) 0 =
          unfold negated parts_of in_cell five_parts in three_cells s (neg 1) (neg s.previous) (neg s.own) (neg (tail_of s)) (neg (tag_of 3 s)) m low in
          turned ∙ ap (λ (n : ℕ). cond (lies_in q i s) n 0) (pick-neg m 1 s.previous s.own (tail_of s) (tag_of 3 s))
      go false = unfold parts_of in_cell in three_cells s 1 s.previous s.own (tail_of s) (tag_of 3 s) m low

  sum_lying : (zs : List Signed) (m : ℕ) → m < 5 → sum_at (i * 5 + m) (all_signed q zs) ≡ total (row_of m) (lying_in q i zs)
  unfolding all_signed keep total sum_at
  sum_lying [] m low = refl
  sum_lying (z ∷ zs) m low =
      sum_append (i * 5 + m) (signed_parts q z) (all_signed q zs)
      ∙ (ap (λ (n : ℕ). n + sum_at (i * 5 + m) (all_signed q zs)) (signed_row z m low) ∙ go (lies_in q i z.shingle) (sum_lying zs m low))
    where
      go : (t : Bool) → sum_at (i * 5 + m) (all_signed q zs) ≡ total (row_of m) (lying_in q i zs)
          → cond t (row_of m z) 0 + sum_at (i * 5 + m) (all_signed q zs) ≡ total (row_of m) (cond t (z ∷ lying_in q i zs) (lying_in q i zs))
      go true ih = ap (λ (n : ℕ). row_of m z + n) ih
      go false ih = omega (arith, ih)

  pub row_lying : (zs : List Signed) (m : ℕ) → m < 5 → i < q * 3 → get_or (signed_cells q zs) (i * 5 + m) 0 ≡ total (row_of m) (lying_in q i zs) % 2 ^ 64
  unfolding signed_cells
  row_lying zs m low in-range = sum_row (q * 15) (i * 5 + m) (all_signed q zs) (omega arith) ∙ ap (λ (n : ℕ). n % 2 ^ 64) (sum_lying zs m low)
