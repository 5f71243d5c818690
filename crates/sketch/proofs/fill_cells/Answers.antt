-- Refused, or a table of zeros to which the list's shingles are added: the laws of `Filling`.
use Rattle.std.proofs.Common.{arith}
use Rattle.sketch.proofs.Filling.{no_width, short_table, filled}
use Rattle.sketch.proofs.fill_cells.Goals as goal

pub returns-in_default : goal.returns-in_default
returns-in_default c = no_width _ _ _ c.in_default.ensures

pub returns-then-cells-size : goal.returns-then-cells-size
returns-then-cells-size c =
    let width = c.in-Some.width in
    short_table _ _ _ (omega (arith, c.in-Some.ensures, width.some)) (omega (arith, c.in-Some.ensures, width.few)) (omega (arith, c.in-Some.ensures))

pub returns : goal.returns
returns c =
    let width = c.in-Some.width in
    rw (← c.in-Some.ensures, c.bytes-size.ensures)
    (filled _ _ _ _ _ width.some width.few (omega arith) c.clear.ensures (rw c.bytes-size.ensures at c.add_all.ensures))
