-- The theorems of document 02, request 13.
use mathlib.Core.Bool.{Bool, true, false, not, ◌&&◌}
use mathlib.Core.List.{List, [], ◌∷◌}
use mathlib.Core.Path.{◌≡◌, refl, sym, ap, subst, ◌∙◌}
use Prim.Native.Nat.{ℕ, zero, suc, ◌*◌, ◌%◌, ◌^◌, ◌≤◌}
use native.Mathlib.Omega.{arith}
use lib.ListN.{length}
use Rattle.shingle.specs.declared.Shingle.{Shingle}
use Rattle.shingle.proofs.PairOrder.{and_true}
use Rattle.sketch.specs.Sums.{sum_at, along, sums}
use Rattle.sketch.specs.Cells.{cells_of}
use Rattle.sketch.specs.Opening.{Signed, all_signed, signed_cells, single, peeled, taken_of, all_zero, true_difference}
use Rattle.orders.specs.Taking.{taken_along, left_along, peeled_along, Singly, NoneSingle, Whole}
use Rattle.orders.specs.Left.{among, not_taken, LinedUp}
use Rattle.orders.specs.Limits.{Lists}
use Rattle.orders.specs.Orders.{start_of, Truthful, SameEnd, AnyOrder, LowestFirst, LowestIsWhole, Turns, FewTurns, SameOpening, SameList, OpensExactly, LinedUpOpens, OneOpens}
use Rattle.orders.proofs.Kept.{among_first, among-keep}
use Rattle.orders.proofs.Along.{within_keep, TruthfulFrom, Run, run}
use Rattle.orders.proofs.Ends.{taken_there, same_end}
use Rattle.orders.proofs.Bound.{few, enough}
use Rattle.orders.proofs.Lowest.{lowest_order, peels, own_whole}
use Rattle.orders.proofs.Signs.{once_keep, taken_once}
use Rattle.orders.proofs.Lined.{lined_empty}
use Rattle.orders.proofs.Difference.{starts, difference_within, difference_once, truthful_from, from_truthful}
use Rattle.orders.proofs.Opened.{Part, same_opening, is_difference, new_is_theirs, all_opens}
use Rattle.orders.proofs.One.{one_truthful, one_alone}

zero_rows : (n i : ℕ) → all_zero (along n i (λ (k : ℕ). sum_at k [] % 2 ^ 64)) ≡ true
unfolding along all_zero sum_at
zero_rows zero i = refl
zero_rows (suc n) i = zero_rows n (suc i)

zero_cells : (q : ℕ) → all_zero (signed_cells q []) ≡ true
unfolding signed_cells sums all_signed
zero_cells q = zero_rows (q * 15) 0

module _ (q levels : ℕ) (theirs own : List Shingle) (lists : Lists q levels theirs own) (truthful : Truthful q levels theirs own) where
  abbrev start : List ℕ
  start = start_of q theirs own

  abbrev difference : List Signed
  difference = true_difference theirs own

  -- Any row of takings, over the cells of the true difference.
  along_difference : (order : List ℕ) → Singly q levels start order → Run q difference order
  along_difference order turn =
      run q levels lists.some lists.low difference order (difference_within q levels theirs own lists) (truthful_from q levels theirs own lists truthful)
      (subst (λ (c : List ℕ). Singly q levels c order) (starts q levels theirs own lists) turn)

  taken_is : (order : List ℕ) → taken_along q start order ≡ taken_along q (signed_cells q difference) order
  taken_is order = ap (λ (c : List ℕ). taken_along q c order) (starts q levels theirs own lists)

  taken_part : (order : List ℕ) → Singly q levels start order → Part q levels theirs own lists (taken_along q start order)
  taken_part order turn =
      let run = (along_difference order turn).truly in
      subst (Part q levels theirs own lists) (sym (taken_is order))
      (record {
        once = taken_once q difference order (taken_along q (signed_cells q difference) order) run (difference_once q levels theirs own lists);
        there = taken_there q difference order (taken_along q (signed_cells q difference) order) run;
      })

  turns : (order : List ℕ) → Singly q levels start order → Turns q levels start order
  turns order turn =
      let taking = along_difference order turn in
      record {
        few = few q levels lists.some difference order taking;
        enough = subst (λ (c : List ℕ). length order ≡ q * 3 → NoneSingle q levels (left_along q c order)) (sym (starts q levels theirs own lists))
            (enough q levels lists.some difference order taking);
        once = (taken_part order turn).once;
      }

  all_alike : (order other : List ℕ) → Whole q levels start order → Whole q levels start other → SameEnd (peeled_along q start order) (peeled_along q start other)
  all_alike =
      subst (λ (c : List ℕ). (order other : List ℕ) → Whole q levels c order → Whole q levels c other → SameEnd (peeled_along q c order) (peeled_along q c other))
      (sym (starts q levels theirs own lists))
      (same_end q levels lists.some lists.low difference (difference_within q levels theirs own lists) (truthful_from q levels theirs own lists truthful))

  lowest_first : LowestFirst q levels theirs own
  unfolding taken_of
  lowest_first =
      let by = peels q levels (q * 3) start in
      record {
        order = lowest_order q levels (q * 3) start;
        whole = subst (λ (c : List ℕ). Whole q levels c (lowest_order q levels (q * 3) c)) (sym (starts q levels theirs own lists))
            (own_whole q levels lists.some lists.low difference (difference_within q levels theirs own lists) (truthful_from q levels theirs own lists truthful));
        is = λ i. peeled (by.taken i) (by.left i);
      }

  -- Where nothing is left of the difference, all of it was taken.
  all_taken : (d a : Bool) → (a ≡ true → d ≡ true) → (d && not a) ≡ false → a ≡ d
  all_taken true true p e = refl
  all_taken true false p e = sym e
  all_taken false true p e = sym (p refl)
  all_taken false false p e = refl

  module _ (order : List ℕ) (turn : Singly q levels start order) where
    abbrev taken : List Signed
    taken = taken_along q (signed_cells q difference) order

    whole_set : not_taken taken difference ≡ [] → (z : Signed) → among z (taken_along q start order) ≡ among z difference
    whole_set empty z =
        ap (among z) (taken_is order)
        ∙ all_taken (among z difference) (among z taken) (taken_there q difference order taken (along_difference order turn).truly z)
        (sym (among-keep z (λ (x : Signed). not (among x taken)) difference) ∙ (ap (among z) empty ∙ (unfold among in refl)))

    zeros : not_taken taken difference ≡ [] → all_zero (left_along q start order) ≡ true
    zeros empty =
        ap (λ (c : List ℕ). all_zero (left_along q c order)) (starts q levels theirs own lists)
        ∙ (ap all_zero ((along_difference order turn).left ∙ ap (signed_cells q) empty) ∙ zero_cells q)

    opens_exactly : not_taken taken difference ≡ [] → OpensExactly theirs own (peeled_along q start order)
    opens_exactly empty =
        let part = taken_part order turn in
        let set = whole_set empty in
        record {
          opens = all_opens q levels theirs own lists (taken_along q start order) part set (left_along q start order) (zeros empty);
          difference = is_difference q levels theirs own lists (taken_along q start order) part set;
          list = new_is_theirs q levels theirs own lists (taken_along q start order) part set;
        }

  -- Of a difference that can be lined up nothing is left.
  lined_left : LinedUp q difference → (order : List ℕ) → Whole q levels start order → not_taken (taken_along q (signed_cells q difference) order) difference ≡ []
  lined_left lined order whole =
      let gone : Signed → Bool = λ (x : Signed). not (among x (taken_along q (signed_cells q difference) order)) in
      lined_empty q levels lists.some lists.low lined.line (not_taken (taken_along q (signed_cells q difference) order) difference) lined.each
      (once_keep gone difference (difference_once q levels theirs own lists)) (within_keep gone difference (difference_within q levels theirs own lists))
      (λ i h.
      ap (λ (c : List ℕ). single q levels c i) (sym (along_difference order whole.singly).left)
      ∙ (ap (λ (c : List ℕ). single q levels (left_along q c order) i) (sym (starts q levels theirs own lists)) ∙ whole.ended i h))
      (λ x e. sym (lined.members x) ∙ (and_true (among x difference) (gone x) (sym (among-keep x gone difference) ∙ e)).0)

  lined_opens : LinedUp q difference → OpensExactly theirs own (taken_of q levels (cells_of q theirs) (cells_of q own))
  lined_opens lined =
      let by = lowest_first in
      subst (OpensExactly theirs own) (sym by.is) (opens_exactly by.order by.whole.singly (lined_left lined by.order by.whole))

  same_as_lowest : (order : List ℕ) → Whole q levels start order → SameOpening own (peeled_along q start order) (taken_of q levels (cells_of q theirs) (cells_of q own))
  same_as_lowest order whole =
      let by = lowest_first in
      subst (SameOpening own (peeled_along q start order)) (sym by.is)
      (same_opening q levels theirs own lists (peeled_along q start order) (peeled_along q start by.order)
      (taken_part order whole.singly) (taken_part by.order by.whole.singly) (all_alike order by.order whole by.whole))

pub any_order : AnyOrder
any_order = all_alike

pub lowest_is_whole : LowestIsWhole
lowest_is_whole = lowest_first

pub few_turns : FewTurns
few_turns = turns

pub same_list : SameList
same_list = same_as_lowest

pub lined_up_opens : LinedUpOpens
lined_up_opens = lined_opens

-- The premise can hold: it does of every difference of one shingle.
pub one_is_truthful : (q levels : ℕ) (theirs own : List Shingle) → Lists q levels theirs own → (z : Signed) → true_difference theirs own ≡ z ∷ []
    → Truthful q levels theirs own
one_is_truthful q levels theirs own lists z e =
    let there : among z (true_difference theirs own) ≡ true = ap (among z) e ∙ among_first z [] in
    let limited = difference_within q levels theirs own lists z there in
    from_truthful q levels theirs own lists (subst (TruthfulFrom q levels) (sym e) (one_truthful q levels lists.some lists.low z limited))

pub one_opens : OneOpens
one_opens q levels theirs own lists z e =
    let limited = difference_within q levels theirs own lists z (ap (among z) e ∙ among_first z []) in
    lined_up_opens q levels theirs own lists (one_is_truthful q levels theirs own lists z e)
    (record { line = z ∷ []; members = λ x. ap (among x) e; each = one_alone q levels lists.some lists.low z limited })
