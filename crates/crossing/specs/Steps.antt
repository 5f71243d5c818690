-- What the crate's own function `note` promises.
use Rattle.std.specs.Prelude.{cond, List, ◌≡◌, ℕ, ◌+◌, ◌*◌}
use Rattle.rows.specs.Rows.{store_of}
use Rattle.node_table.specs.Entries.{entry_at, parent_at}
use Rattle.crossing.specs.Crossing.{crosses}

-- Where the range crosses entry k, its pair is pair number `at` of the table, and there is one more; else nothing is changed.
pub record Noted (n start size : ℕ) (nodes : List ℕ) (k : ℕ) (before after : List ℕ) (at r : ℕ) : Type 0 where
  pub count : r ≡ cond (crosses n start size (entry_at nodes k)) (at + 1) at
  pub table :
      after ≡ cond (crosses n start size (entry_at nodes k)) (store_of (store_of before (at * 2) k) (at * 2 + 1) (parent_at nodes k)) before
