-- What writing nodes to the table leaves, in a form that holds of one node after the other: the table has room for 4,096
-- entries, and there is no answer if they did not fit.
use Rattle.std.specs.Prelude.{Option, None, Some, List, ◌≡◌, ℕ, ◌+◌, ◌*◌, ◌^◌, ◌≤◌, ◌<◌, length}
use Rattle.rows.specs.Rows.{clear_from, put}
use Rattle.tree.specs.Places.{Placed}
use Rattle.tree.specs.Table.{entries_of}

pub record Wrote (before after : List ℕ) (used : ℕ) (nodes : List Placed) (r : Option ℕ) : Type 0 where
  pub fit : used + length nodes ≤ 4096 → (r ≡ Some (used + length nodes)) × (after ≡ put before (used * 16) (entries_of nodes))
  pub full : 4096 < used + length nodes → r ≡ None

-- What is left of a table of which so many entries are used: zeros after them, or zeros alone where they did not fit.
pub record Finished (before after : List ℕ) (used : Option ℕ) (r : ℕ) : Type 0 where
  pub many : used ≡ None → (r ≡ 8) × (after ≡ clear_from before 0)
  pub few : (n : ℕ) → used ≡ Some n → (r ≡ 2 ^ 32 + n) × (after ≡ clear_from before (n * 16))
