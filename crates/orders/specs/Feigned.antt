-- Why the premise is asked: a cell can feign a shingle.
use Rattle.std.specs.Prelude.{true, List, ◌≡◌, ℕ}
use Rattle.sort.specs.Sort.{sort_of}
use Rattle.shingle.specs.declared.Shingle.{Shingle}
use Rattle.sketch.specs.Cells.{cells_of}
use Rattle.sketch.specs.Opening.{opens_to, taken_of, new_list, before}
use Rattle.orders.specs.Taking.{peeled_along, Whole}
use Rattle.orders.specs.Limits.{Lists}
use Rattle.orders.specs.Orders.{start_of, SameEnd}

-- Two lists within the limits, and two orders that go on until no single cell is left and do not end alike.
pub record EndApart : Type 0 where
  pub q : ℕ
  pub levels : ℕ
  pub theirs : List Shingle
  pub own : List Shingle
  pub lists : Lists q levels theirs own
  pub order : List ℕ
  pub other : List ℕ
  pub one : Whole q levels (start_of q theirs own) order
  pub two : Whole q levels (start_of q theirs own) other
  pub apart : SameEnd (peeled_along q (start_of q theirs own) order) (peeled_along q (start_of q theirs own) other) → ⊥

-- Two lists within the limits whose sketch opens to a list that is not the sender's.
pub record OpenWrongly : Type 0 where
  pub q : ℕ
  pub levels : ℕ
  pub theirs : List Shingle
  pub own : List Shingle
  pub lists : Lists q levels theirs own
  pub opens : opens_to own (taken_of q levels (cells_of q theirs) (cells_of q own)) ≡ true
  pub wrong : new_list own (taken_of q levels (cells_of q theirs) (cells_of q own)).taken ≡ sort_of before theirs → ⊥
