-- Whether a stratum opens, asked of the shingles taken with each sign apart, and how many were taken.
use mathlib.Core.Bool.{Bool, true, false, cond, ◌&&◌}
use mathlib.Core.List.{List, [], ◌∷◌}
use mathlib.Core.Path.{◌≡◌, refl, sym, ap, ap₂, ◌∙◌}
use Prim.Native.Nat.{ℕ, zero, suc, ◌+◌, ◌*◌, ◌≤◌}
use native.Mathlib.Omega.{arith}
use lib.Dec.{ltb}
use lib.ListN.{length}
use Rattle.shingle.specs.declared.Shingle.{Shingle}
use Rattle.shingle.specs.Table.{shingles_in}
use Rattle.sketch.specs.Sums.{difference_of}
use Rattle.sketch.specs.Opening.{Signed, Peeled, positives, negatives, shingles_of, no_shingle_twice, all_held, none_held, all_zero}
use Rattle.sketch.specs.Opening.{after, take_one, lowest, held_by, without, peel, taken_of}
use Rattle.sketch.proofs.NewList.{and_not}
use Rattle.single.specs.Peeling.{rows_in, Taken}
use Rattle.opening.proofs.Verdict.{signs_apart}
use Rattle.strata.specs.Strata.{of_stratum, stratum_opens}
use Rattle.strata.specs.Steps.{each_held, opens_with}

-- The second of four tests comes last, where the others tell it.
moved : (z t i o u : Bool) → (i ≡ true → o ≡ true → t ≡ u) → (z && (t && (i && o))) ≡ (z && (i && (o && u)))
moved z t true true u e = ap (λ (b : Bool). z && b) (and_yes t ∙ e refl refl)
  where
    and_yes : (b : Bool) → (b && true) ≡ b
    and_yes true = refl
    and_yes false = refl
moved z t true false u e = ap (λ (b : Bool). z && b) (and_not t)
moved z t false o u e = ap (λ (b : Bool). z && b) (and_not t)

opens_apart : (own : List Shingle) (p : Peeled) → opens_with (all_zero p.left) (positives p.taken) (negatives p.taken) own ≡ stratum_opens own p
unfolding stratum_opens opens_with each_held
opens_apart own p =
    sym (moved (all_zero p.left) (no_shingle_twice (shingles_of p.taken)) (all_held own (negatives p.taken)) (none_held own (positives p.taken)) _
    (λ i o. signs_apart own p.taken i o))

-- What was taken has one sign or the other.
pub taken_count : (zs : List Signed) → length (positives zs) + length (negatives zs) ≡ length zs
unfolding positives negatives
taken_count [] = refl
taken_count (z ∷ zs) = go z.negative (taken_count zs)
  where
    go : (t : Bool) → length (positives zs) + length (negatives zs) ≡ length zs
        → length (cond t (positives zs) (z.shingle ∷ positives zs)) + length (cond t (z.shingle ∷ negatives zs) (negatives zs)) ≡ suc (length zs)
    go true e = omega arith
    go false e = omega arith

-- At most so many are taken.
taken_few : (q levels n : ℕ) (cells : List ℕ) → length (peel q levels n cells).taken ≤ n
unfolding peel take_one after
taken_few q levels zero cells = omega arith
taken_few q levels (suc n) cells = go (ltb (lowest q levels cells) (q * 3)) (taken_few q levels n (without q (held_by cells (lowest q levels cells)) cells))
  where
    go : (t : Bool) → length (peel q levels n (without q (held_by cells (lowest q levels cells)) cells)).taken ≤ n
        → length (take_one q (λ (rest : List ℕ). peel q levels n rest) cells (lowest q levels cells) t).taken ≤ suc n
    go true h = omega arith
    go false h = omega arith

pub twelve : (levels : ℕ) (theirs own : List ℕ) → length (taken_of 4 levels theirs own).taken ≤ 12
unfolding taken_of
twelve levels theirs own = taken_few 4 levels 12 (difference_of theirs own)

-- Whether a stratum opens, told by what was taken from its cells.
pub told : {levels : ℕ} {theirs own new gone : List ℕ} {empty : Bool} → Taken levels 4 theirs own new gone empty
    → (i : ℕ) (shingles : List ℕ) (opens : Bool) → opens ≡ opens_with empty (shingles_in new) (shingles_in gone) (of_stratum i (shingles_in shingles))
    → stratum_opens (of_stratum i (shingles_in shingles)) (taken_of 4 levels (rows_in 4 theirs) (rows_in 4 own)) ≡ opens
told {levels} {theirs} {own} t i shingles opens is =
    sym (is ∙ ((λ x. opens_with (t.all x) ((t.positive refl).list x) ((t.negative refl).list x) (of_stratum i (shingles_in shingles)))
    ∙ opens_apart (of_stratum i (shingles_in shingles)) (taken_of 4 levels (rows_in 4 theirs) (rows_in 4 own))))

-- What is taken from a stratum's cells, in its two tables.
module _ {levels : ℕ} {theirs own new gone : List ℕ} {empty : Bool} (t : Taken levels 4 theirs own new gone empty)
    (n m : ℕ) (e : n ≡ length (shingles_in new)) (f : m ≡ length (shingles_in gone)) where
  pub number : n + m ≡ length (taken_of 4 levels (rows_in 4 theirs) (rows_in 4 own)).taken
  number =
      ap₂ (λ (a b : ℕ). a + b) (e ∙ ap length (t.positive refl).list) (f ∙ ap length (t.negative refl).list)
      ∙ taken_count (taken_of 4 levels (rows_in 4 theirs) (rows_in 4 own)).taken

  pub count_few : n + m ≤ 12
  count_few = omega (arith, number, twelve levels (rows_in 4 theirs) (rows_in 4 own))
