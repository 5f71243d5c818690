-- The rows read, followed by the column's rows from the next place on, are the column.
use Rattle.std.proofs.Common.{◌++◌, ◌≡◌, ◌+◌, ◌*◌, ◌-◌, length, take}
use Rattle.rows.specs.Rows.{words_of}
use Rattle.rcds.specs.Trails.{column}
use Rattle.rcds.proofs.ids.read_column.Given as goal

abbrev pub invariant-loop-i : goal.invariant-loop-i
invariant-loop-i l = (length l.rows ≡ 32) × (take l.i l.rows ++ column (32 - l.i) l.step (l.place + l.step * l.i) (words_of l.table) ≡ column 32 l.step l.place (words_of l.table))
