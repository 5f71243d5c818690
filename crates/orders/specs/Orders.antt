-- What document 02, request 13, asks to be shown.
use Rattle.std.specs.Prelude.{true, List, [], ◌∷◌, ◌≡◌, ℕ, ◌*◌, ◌≤◌, ◌<◌, length}
use Rattle.sort.specs.Sort.{sort_of}
use Rattle.shingle.specs.declared.Shingle.{Shingle}
use Rattle.sketch.specs.Sums.{difference_of}
use Rattle.sketch.specs.Cells.{cells_of}
use Rattle.sketch.specs.Opening.{Signed, single, Peeled, opens_to, taken_of, new_list, shingles_of, no_shingle_twice, before, true_difference, IsDifference}
use Rattle.orders.specs.Taking.{taken_along, left_along, peeled_along, Singly, NoneSingle, Whole}
use Rattle.orders.specs.Left.{among, not_taken, HoldsOne, LinedUp}
use Rattle.orders.specs.Limits.{Lists}

-- The cells that opening starts with: "subtract own cells from the sender's".
abbrev pub start_of : ℕ → (theirs own : List Shingle) → List ℕ
start_of q theirs own = difference_of (cells_of q theirs) (cells_of q own)

-- "at every state reachable by taking single cells each single cell truly holds one shingle"
pub record Truthful (q levels : ℕ) (theirs own : List Shingle) : Type 0 where
  pub truly : (order : List ℕ) → Singly q levels (start_of q theirs own) order
      → (i : ℕ) → i < q * 3 → single q levels (left_along q (start_of q theirs own) order) i ≡ true
      → HoldsOne q i (not_taken (taken_along q (start_of q theirs own) order) (true_difference theirs own))

-- "the same cells and the same set taken"
pub record SameEnd (p p' : Peeled) : Type 0 where
  pub cells : p.left ≡ p'.left
  pub set : (z : Signed) → among z p.taken ≡ among z p'.taken

-- "every order of taking that goes on until no single cell is left ends with the same cells and the same set taken"
abbrev pub AnyOrder : Type 0
AnyOrder =
    (q levels : ℕ) (theirs own : List Shingle) → Lists q levels theirs own → Truthful q levels theirs own
    → (order other : List ℕ) → Whole q levels (start_of q theirs own) order → Whole q levels (start_of q theirs own) other
    → SameEnd (peeled_along q (start_of q theirs own) order) (peeled_along q (start_of q theirs own) other)

-- Document 01's own, "the single cell of lowest index .., at most 3q times", is such an order.
pub record LowestFirst (q levels : ℕ) (theirs own : List Shingle) : Type 0 where
  pub order : List ℕ
  pub whole : Whole q levels (start_of q theirs own) order
  pub is : taken_of q levels (cells_of q theirs) (cells_of q own) ≡ peeled_along q (start_of q theirs own) order

abbrev pub LowestIsWhole : Type 0
LowestIsWhole = (q levels : ℕ) (theirs own : List Shingle) → Lists q levels theirs own → Truthful q levels theirs own → LowestFirst q levels theirs own

-- No order takes more than 3q times or a shingle twice, and after 3q takings no single cell is left: 3q turns are enough, whichever single cell
-- each of them takes.
pub record Turns (q levels : ℕ) (cells order : List ℕ) : Type 0 where
  pub few : length order ≤ q * 3
  pub enough : length order ≡ q * 3 → NoneSingle q levels (left_along q cells order)
  pub once : no_shingle_twice (shingles_of (taken_along q cells order)) ≡ true

abbrev pub FewTurns : Type 0
FewTurns =
    (q levels : ℕ) (theirs own : List Shingle) → Lists q levels theirs own → Truthful q levels theirs own
    → (order : List ℕ) → Singly q levels (start_of q theirs own) order → Turns q levels (start_of q theirs own) order

-- "wants to know the list is the same": whether the sketch opens, and the new list, are those of document 01's order.
pub record SameOpening (own : List Shingle) (p p' : Peeled) : Type 0 where
  pub opens : opens_to own p ≡ opens_to own p'
  pub list : new_list own p.taken ≡ new_list own p'.taken

abbrev pub SameList : Type 0
SameList =
    (q levels : ℕ) (theirs own : List Shingle) → Lists q levels theirs own → Truthful q levels theirs own
    → (order : List ℕ) → Whole q levels (start_of q theirs own) order
    → SameOpening own (peeled_along q (start_of q theirs own) order) (taken_of q levels (cells_of q theirs) (cells_of q own))

-- "the sketch opens to exactly that difference"; the new list is then the sender's, sorted.
pub record OpensExactly (theirs own : List Shingle) (p : Peeled) : Type 0 where
  pub opens : opens_to own p ≡ true
  pub difference : IsDifference theirs own p.taken
  pub list : new_list own p.taken ≡ sort_of before theirs

-- "If moreover the true difference can be lined up so that each shingle is alone in some cell once those before it are gone"
abbrev pub LinedUpOpens : Type 0
LinedUpOpens =
    (q levels : ℕ) (theirs own : List Shingle) → Lists q levels theirs own → Truthful q levels theirs own
    → LinedUp q (true_difference theirs own) → OpensExactly theirs own (taken_of q levels (cells_of q theirs) (cells_of q own))

-- "a difference of exactly one shingle always opens"
abbrev pub OneOpens : Type 0
OneOpens =
    (q levels : ℕ) (theirs own : List Shingle) → Lists q levels theirs own → (z : Signed) → true_difference theirs own ≡ z ∷ []
    → OpensExactly theirs own (taken_of q levels (cells_of q theirs) (cells_of q own))
