-- A row is read by its eight bytes: the laws `load_row` and `no_row`.
use Rattle.std.proofs.Common.{arith}
use Rattle.rows.proofs.Rows.{load_row, no_row}
use Rattle.rows.proofs.load.Goals as goal

pub returns-then-table-k : goal.returns-then-table-k
returns-then-table-k c = no_row _ _ c.if-table-k.true

pub returns : goal.returns
returns c = omega (arith, load_row c.args.table.now c.args.k (omega arith))
