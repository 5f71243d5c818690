-- What a sketch opens to, where what was taken is of the true difference, none twice: three of the six conditions hold then, and the new list
-- depends on the set alone.
use mathlib.Core.Bool.{Bool, true, false, not, ◌&&◌, ◌||◌}
use mathlib.Core.List.{List, ◌++◌}
use mathlib.Core.Path.{◌≡◌, refl, sym, ap, ap₂, ◌∙◌}
use Prim.Native.Nat.{ℕ}
use borrow.Author.Tests.{le-leb}
use lib.Dec.{leb}
use lib.ListN.{length}
use Rattle.entries.proofs.Linear.{both}
use Rattle.sort.specs.Sort.{sort_of}
use Rattle.sort.proofs.Ordered.{sort_length}
use Rattle.shingle.specs.declared.Shingle.{Shingle}
use Rattle.shingle.specs.Table.{holds}
use Rattle.shingle.proofs.PairOrder.{and_true}
use Rattle.sketch.specs.Opening.{Signed, signed, Peeled, peeled, positives, negatives, shingles_of, true_difference, IsDifference}
use Rattle.sketch.specs.Opening.{opens_to, all_zero, no_shingle_twice, kept, before, renewed, new_list, no_pair_twice}
use Rattle.sketch.proofs.NewList.{not_true, holds-append, holds_kept, kept_once, once_append, new_sorted}
use Rattle.sketch.proofs.Once.{same_sorted}
use Rattle.sketch.proofs.Takings.{positives_once}
use Rattle.pairs.proofs.Twice.{twice_sort}
use Rattle.orders.specs.Left.{among}
use Rattle.orders.specs.Limits.{Lists}
use Rattle.orders.specs.Orders.{SameEnd, SameOpening}
use Rattle.orders.proofs.Signs.{holds-positives, holds-negatives}
use Rattle.orders.proofs.Difference.{all_in, none_in, once_theirs, once_own, positive_member, negative_member}

module _ (q levels : ℕ) (theirs own : List Shingle) (lists : Lists q levels theirs own) where
  -- These are of the true difference, none twice.
  pub record Part (zs : List Signed) : Type 0 where
    pub once : no_shingle_twice (shingles_of zs) ≡ true
    pub there : (z : Signed) → among z zs ≡ true → among z (true_difference theirs own) ≡ true

  module _ (zs : List Signed) (part : Part zs) where
    negatives_own : (x : Shingle) → holds x (negatives zs) ≡ true → holds x own ≡ true
    negatives_own x h =
        (and_true (holds x own) _ (sym (negative_member q levels theirs own lists x) ∙ part.there (signed true x) (sym (holds-negatives x zs) ∙ h))).0

    positives_new : (x : Shingle) → holds x (positives zs) ≡ true → holds x own ≡ false
    positives_new x h =
        not_true (holds x own) (and_true (holds x theirs) _
        (sym (positive_member q levels theirs own lists x) ∙ part.there (signed false x) (sym (holds-positives x zs) ∙ h))).1

    pub part_opens : (left : List ℕ) → opens_to own (peeled zs left) ≡ (all_zero left && (leb (length (new_list own zs)) 4096 && no_pair_twice (new_list own zs)))
    unfolding opens_to
    part_opens left = rw (part.once, all_in own (negatives zs) negatives_own, none_in own (positives zs) positives_new) refl

    pub part_once : no_shingle_twice (kept (negatives zs) own ++ positives zs) ≡ true
    part_once =
        once_append (kept (negatives zs) own) (positives zs) (kept_once (negatives zs) own (once_own q levels theirs own lists)) (positives_once zs part.once)
        (λ x h. apart x (holds x (positives zs)) refl (and_true (holds x own) _ (sym (holds_kept x (negatives zs) own) ∙ h)).0)
      where
        apart : (x : Shingle) (t : Bool) → holds x (positives zs) ≡ t → holds x own ≡ true → t ≡ false
        apart x true e h = absurd (both h (positives_new x e))
        apart x false e h = refl

  -- The same set gives the same new list.
  same_listed : (a b : List Signed) → ((z : Signed) → among z a ≡ among z b) → (x : Shingle)
      → holds x (kept (negatives a) own ++ positives a) ≡ holds x (kept (negatives b) own ++ positives b)
  same_listed a b set x = listed a ∙ (ap₂ (λ (t u : Bool). (holds x own && not t) || u) (set (signed true x)) (set (signed false x)) ∙ sym (listed b))
    where
      listed : (zs : List Signed) → holds x (kept (negatives zs) own ++ positives zs) ≡ ((holds x own && not (among (signed true x) zs)) || among (signed false x) zs)
      listed zs =
          holds-append x (kept (negatives zs) own) (positives zs)
          ∙ ap₂ (λ (t u : Bool). t || u) (holds_kept x (negatives zs) own ∙ ap (λ (t : Bool). holds x own && not t) (holds-negatives x zs)) (holds-positives x zs)

  same_new : (a b : List Signed) → Part a → Part b → ((z : Signed) → among z a ≡ among z b) → new_list own a ≡ new_list own b
  unfolding new_list renewed
  same_new a b p r set =
      same_sorted (kept (negatives a) own ++ positives a) (kept (negatives b) own ++ positives b) (part_once a p) (part_once b r) (same_listed a b set)

  pub same_opening : (p p' : Peeled) → Part p.taken → Part p'.taken → SameEnd p p' → SameOpening own p p'
  same_opening p p' one two end =
      let new = same_new p.taken p'.taken one two end.set in
      record {
        opens = part_opens p.taken one p.left
            ∙ ((λ i. all_zero (end.cells i) && (leb (length (new i)) 4096 && no_pair_twice (new i))) ∙ sym (part_opens p'.taken two p'.left));
        list = new;
      }

  -- Where all of it was taken, the new list is the sender's, sorted.
  module _ (zs : List Signed) (part : Part zs) (set : (z : Signed) → among z zs ≡ among z (true_difference theirs own)) where
    pub is_difference : IsDifference theirs own zs
    is_difference =
        record {
          positive = λ s. holds-positives s zs ∙ (set (signed false s) ∙ positive_member q levels theirs own lists s);
          negative = λ s. holds-negatives s zs ∙ (set (signed true s) ∙ negative_member q levels theirs own lists s);
          once = positives_once zs part.once;
        }

    pub new_is_theirs : new_list own zs ≡ sort_of before theirs
    new_is_theirs = new_sorted theirs own zs (once_theirs q levels theirs own lists) (once_own q levels theirs own lists) is_difference

    pub all_opens : (left : List ℕ) → all_zero left ≡ true → opens_to own (peeled zs left) ≡ true
    all_opens left zeros =
        part_opens zs part left
        ∙ rw (zeros, new_is_theirs, sort_length before theirs, le-leb (length theirs) 4096 lists.sender.few, twice_sort theirs) lists.sender.once
