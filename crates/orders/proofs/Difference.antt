-- The true difference of two lists within document 01's limits, in any order: its cells, its members, and that it has no shingle twice.
use mathlib.Core.Bool.{Bool, true, false, not, ◌&&◌}
use mathlib.Core.List.{List, [], ◌∷◌}
use mathlib.Core.Path.{◌≡◌, refl, sym, ap, subst, ◌∙◌}
use Prim.Native.Nat.{ℕ, ◌*◌, ◌<◌}
use Rattle.shingle.specs.declared.Shingle.{Shingle}
use Rattle.shingle.specs.Table.{agree, holds}
use Rattle.shingle.proofs.PairOrder.{and_true}
use Rattle.sketch.specs.Opening.{signed, signed_cells, single, shingles_of, no_shingle_twice, all_held, none_held, kept, true_difference}
use Rattle.sketch.proofs.Difference.{difference}
use Rattle.sketch.proofs.NewList.{or_right, not_true, holds_first, holds_kept, kept_once, positive_ones, negative_ones, true_difference_lem}
use Rattle.opening.proofs.Apart.{once_pairs}
use Rattle.opening.proofs.Verdict.{signs_apart}
use Rattle.orders.specs.Taking.{taken_along, left_along, Singly}
use Rattle.orders.specs.Left.{among, not_taken, HoldsOne}
use Rattle.orders.specs.Limits.{Limited, Lists}
use Rattle.orders.specs.Orders.{start_of, Truthful}
use Rattle.orders.proofs.Along.{AllWithin, TruthfulFrom}
use Rattle.orders.proofs.Signs.{holds-positives, holds-negatives}

-- Tests of a whole list, from its members.
pub all_in : (own ss : List Shingle) → ((x : Shingle) → holds x ss ≡ true → holds x own ≡ true) → all_held own ss ≡ true
unfolding all_held holds
all_in own [] h = refl
all_in own (s ∷ ss) h = rw (h s (holds_first s ss), all_in own ss (λ x e. h x (or_right (agree x s) e))) refl

pub none_in : (own ss : List Shingle) → ((x : Shingle) → holds x ss ≡ true → holds x own ≡ false) → none_held own ss ≡ true
unfolding none_held holds
none_in own [] h = refl
none_in own (s ∷ ss) h = rw (h s (holds_first s ss), none_in own ss (λ x e. h x (or_right (agree x s) e))) refl

module _ (q levels : ℕ) (theirs own : List Shingle) (lists : Lists q levels theirs own) where
  pub once_theirs : no_shingle_twice theirs ≡ true
  once_theirs = once_pairs theirs lists.sender.once

  pub once_own : no_shingle_twice own ≡ true
  once_own = once_pairs own lists.receiver.once

  pub starts : start_of q theirs own ≡ signed_cells q (true_difference theirs own)
  starts = difference q theirs own once_theirs once_own

  -- Those of one list that the other lacks.
  pub positive_member : (s : Shingle) → among (signed false s) (true_difference theirs own) ≡ (holds s theirs && not (holds s own))
  positive_member s = sym (holds-positives s (true_difference theirs own)) ∙ (true_difference_lem theirs own once_theirs).positive s

  pub negative_member : (s : Shingle) → among (signed true s) (true_difference theirs own) ≡ (holds s own && not (holds s theirs))
  negative_member s = sym (holds-negatives s (true_difference theirs own)) ∙ (true_difference_lem theirs own once_theirs).negative s

  pub difference_within : AllWithin levels (true_difference theirs own)
  difference_within z e = go z.negative e
    where
      go : (t : Bool) → among (signed t z.shingle) (true_difference theirs own) ≡ true → Limited levels z.shingle
      go true f = lists.receiver.each z.shingle (and_true (holds z.shingle own) _ (sym (negative_member z.shingle) ∙ f)).0
      go false f = lists.sender.each z.shingle (and_true (holds z.shingle theirs) _ (sym (positive_member z.shingle) ∙ f)).0

  pub difference_once : no_shingle_twice (shingles_of (true_difference theirs own)) ≡ true
  difference_once =
      signs_apart own (true_difference theirs own)
      (ap (all_held own) (negative_ones theirs own) ∙ all_in own (kept theirs own) (λ x h. (and_true (holds x own) _ (sym (holds_kept x theirs own) ∙ h)).0))
      (ap (none_held own) (positive_ones theirs own)
      ∙ none_in own (kept own theirs) (λ x h. not_true (holds x own) (and_true (holds x theirs) _ (sym (holds_kept x own theirs) ∙ h)).1))
      ∙ rw (positive_ones theirs own, negative_ones theirs own, kept_once own theirs once_theirs, kept_once theirs own once_own) refl

  -- The premise, said of the cells of the true difference.
  abbrev TrulyAt : List ℕ → Type 0
  TrulyAt c = (order : List ℕ) → Singly q levels c order → (i : ℕ) → i < q * 3 → single q levels (left_along q c order) i ≡ true
      → HoldsOne q i (not_taken (taken_along q c order) (true_difference theirs own))

  pub truthful_from : Truthful q levels theirs own → TruthfulFrom q levels (true_difference theirs own)
  truthful_from t = record { truly = subst TrulyAt starts t.truly }

  pub from_truthful : TruthfulFrom q levels (true_difference theirs own) → Truthful q levels theirs own
  from_truthful t = record { truly = subst TrulyAt (sym starts) t.truly }
