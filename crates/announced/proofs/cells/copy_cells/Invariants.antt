-- The rows before k hold the message's values, the rest of the table is as it was: the laws of `Tables`.
use mathlib.Core.Path.{◌≡◌}
use Prim.Native.Nat.{◌≤◌}
use lib.ListN.{length}
use Rattle.announced.specs.Cells.{Copied}
use Rattle.announced.proofs.cells.copy_cells.Given as goal

abbrev pub invariant-loop-k : goal.invariant-loop-k
invariant-loop-k l = (length l.table ≡ length l.initial.table) × ((l.k ≤ l.values) × Copied l.message l.k l.initial.table l.table)
