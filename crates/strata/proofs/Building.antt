-- One shingle more at the end of a list changes the cells of its own stratum, and no others.
use mathlib.Core.Bool.{Bool, true, false, cond}
use mathlib.Core.List.{List, [], ◌∷◌, ◌++◌, append-nil, append_assoc}
use mathlib.Core.Path.{◌≡◌, refl, sym, ap, ◌∙◌}
use Prim.Native.Nat.{ℕ, zero, suc, ◌+◌, ◌*◌, ◌≤◌, ◌<◌}
use native.Mathlib.Omega.{arith}
use borrow.Author.Tests.{eq-eqb, ne_eqb}
use lib.Dec.{eqb}
use Rattle.shingle.specs.declared.Shingle.{Shingle}
use Rattle.sketch.specs.Sums.{Part, plus, sums}
use Rattle.sketch.specs.Cells.{parts_of, all_parts, cells_of}
use Rattle.sketch.proofs.Difference.{plus-sums}
use Rattle.sketch.proofs.Cells.{parts_append}
use Rattle.strata.specs.Strata.{stratum_of, of_stratum, strata_from}

of_append : (i : ℕ) (a b : List Shingle) → of_stratum i (a ++ b) ≡ of_stratum i a ++ of_stratum i b
unfolding of_stratum
of_append i [] b = refl
of_append i (s ∷ a) b = go (eqb (stratum_of s) i) (of_append i a b)
  where
    go : (t : Bool) → of_stratum i (a ++ b) ≡ of_stratum i a ++ of_stratum i b
        → cond t (s ∷ of_stratum i (a ++ b)) (of_stratum i (a ++ b)) ≡ cond t (s ∷ of_stratum i a) (of_stratum i a) ++ of_stratum i b
    go true e = ap (λ (l : List Shingle). s ∷ l) e
    go false e = e

-- A list with one shingle more.
abbrev longer : List Shingle → Shingle → List Shingle
longer ss s = ss ++ (s ∷ [])

of_other : (i : ℕ) (ss : List Shingle) (s : Shingle) → (stratum_of s ≡ i → ⊥) → of_stratum i (longer ss s) ≡ of_stratum i ss
unfolding of_stratum
of_other i ss s h = of_append i ss (s ∷ []) ∙ rw (ne_eqb (stratum_of s) i h) (append-nil (of_stratum i ss))

of_own : (ss : List Shingle) (s : Shingle) → of_stratum (stratum_of s) (longer ss s) ≡ longer (of_stratum (stratum_of s) ss) s
unfolding of_stratum
of_own ss s = of_append (stratum_of s) ss (s ∷ []) ∙ rw (eq-eqb (stratum_of s) (stratum_of s) refl)

cells_more : (q : ℕ) (ss : List Shingle) (s : Shingle) → cells_of q (longer ss s) ≡ plus (cells_of q ss) (parts_of q s)
unfolding cells_of all_parts
cells_more q ss s =
    ap (sums (q * 15)) (parts_append q ss (s ∷ []) ∙ ap (λ (l : List Part). all_parts q ss ++ l) (append-nil (parts_of q s)))
    ∙ sym (plus-sums (q * 15) (all_parts q ss) (parts_of q s))

-- Strata to which it does not go are as they were.
strata_other : (count i : ℕ) (ss : List Shingle) (s : Shingle) → ((j : ℕ) → i ≤ j → j < i + count → stratum_of s ≡ j → ⊥)
    → strata_from count i (longer ss s) ≡ strata_from count i ss
unfolding strata_from
strata_other zero i ss s h = refl
strata_other (suc count) i ss s h =
    let first = of_other i ss s (h i (omega arith) (omega arith)) in
    let rest = strata_other count (suc i) ss s (λ j a b. h j (omega arith) (omega arith)) in
    λ t. cells_of 4 (first t) ++ rest t

-- Strata in three parts: so many from stratum i on, the next one, and so many after it.
pub strata_split : (a b i : ℕ) (ss : List Shingle)
    → strata_from (a + suc b) i ss ≡ strata_from a i ss ++ (cells_of 4 (of_stratum (i + a) ss) ++ strata_from b (suc (i + a)) ss)
unfolding strata_from
strata_split zero b i ss =
    let same : i ≡ i + 0 = omega arith in
    ap (λ (n : ℕ). strata_from n i ss) {x = 0 + suc b} {y = suc b} (omega arith)
    ∙ (λ t. cells_of 4 (of_stratum (same t) ss) ++ strata_from b (suc (same t)) ss)
strata_split (suc a) b i ss =
    let same : suc i + a ≡ i + suc a = omega arith in
    let first = cells_of 4 (of_stratum i ss) in
    ap (λ (n : ℕ). strata_from n i ss) {x = suc a + suc b} {y = suc (a + suc b)} (omega arith)
    ∙ (ap (λ (l : List ℕ). first ++ l) (strata_split a b (suc i) ss)
    ∙ (sym (append_assoc first (strata_from a (suc i) ss) _)
    ∙ (λ t. (first ++ strata_from a (suc i) ss) ++ (cells_of 4 (of_stratum (same t) ss) ++ strata_from b (suc (same t)) ss))))

pub one_more : (b : ℕ) (ss : List Shingle) (s : Shingle) → stratum_of s + suc b ≡ 16
    → strata_from 16 0 (longer ss s)
    ≡ strata_from (stratum_of s) 0 ss ++ (plus (cells_of 4 (of_stratum (stratum_of s) ss)) (parts_of 4 s) ++ strata_from b (suc (stratum_of s)) ss)
one_more b ss s e =
    let none : 0 + stratum_of s ≡ stratum_of s = omega arith in
    let before = strata_other (stratum_of s) 0 ss s (λ j h k f. omega (arith, h, k, f)) in
    let own = ap (cells_of 4) (of_own ss s) ∙ cells_more 4 (of_stratum (stratum_of s) ss) s in
    let after = strata_other b (suc (stratum_of s)) ss s (λ j h k f. omega (arith, h, k, f)) in
    ap (λ (n : ℕ). strata_from n 0 (longer ss s)) (sym e)
    ∙ (strata_split (stratum_of s) b 0 (longer ss s)
    ∙ ((λ t. strata_from (stratum_of s) 0 (longer ss s)
    ++ (cells_of 4 (of_stratum (none t) (longer ss s)) ++ strata_from b (suc (none t)) (longer ss s)))
    ∙ (λ t. before t ++ (own t ++ after t))))
