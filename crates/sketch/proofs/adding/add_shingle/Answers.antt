-- Five values with a sign, then three cells, one after the other: the law `three_cells`.
use Rattle.std.proofs.Common.{◌≡◌, arith}
use Rattle.sketch.proofs.Cells.{five_of, no_cell, one_cell, three_cells}
use Rattle.sketch.proofs.adding.add_shingle.Goals as goal

pub loop-j-init : goal.loop-j-init
loop-j-init c = no_cell _ _ _ _

pub loop-j-preserved : goal.loop-j-preserved
loop-j-preserved c =
    let five = five_of c.with_sign.ensures c.with_sign-2.ensures c.with_sign-3.ensures c.tail.ensures c.with_sign-4.ensures c.tag.ensures c.with_sign-5.ensures in
    one_cell _ _ _ _ _ c.cell-i.ensures five c.loop-j.invariant c.add_cell.ensures

pub returns : goal.returns
returns c =
    let e : c.loop-j.j ≡ 3 = omega arith in
    three_cells _ _ _ (rw e at c.loop-j.invariant)
