-- The values are copied to the front of a table of zeros: the law `whole_table`.
use native.Mathlib.Omega.{arith}
use Rattle.announced.proofs.Tables.{count_room, whole_table}
use Rattle.announced.proofs.cells.cells_of.Goals as goal

pub copy_cells-requires : goal.copy_cells-requires
copy_cells-requires c = omega (arith, c.count-values.ensures, count_room c.args.q)

pub returns : goal.returns
returns c = whole_table _ _ _ _ c.count-values.ensures c.copy_cells.ensures
