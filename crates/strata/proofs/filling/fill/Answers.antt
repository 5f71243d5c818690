use mathlib.Core.Path.{sym, ◌∙◌}
use native.Mathlib.Omega.{arith}
use Rattle.strata.proofs.Capped.{below_sixteen}
use Rattle.strata.proofs.Turns.{filling_long, filling_start, filling_next, filling_end}
use Rattle.strata.proofs.filling.fill.Goals as goal

pub loop-k-init : goal.loop-k-init
loop-k-init c = filling_start _ _ _ _ c.requires c.clear.ensures c.size-n.ensures

pub overflow_mul-from : goal.overflow_mul-from
overflow_mul-from c = omega (arith, below_sixteen _ _ c.stratum-from.ensures)

pub overflow_add-from : goal.overflow_add-from
overflow_add-from c = omega (arith, below_sixteen _ _ c.stratum-from.ensures)

pub slice_bounds-put-end : goal.slice_bounds-put-end
slice_bounds-put-end c = omega (arith, below_sixteen _ _ c.stratum-from.ensures, filling_long c.loop-k.invariant)

pub loop-k-preserved : goal.loop-k-preserved
loop-k-preserved c =
    filling_next _ _ _ _ c.loop-k.invariant c.loop-k-test.true _ c.shingle_at-s.ensures _ _
    c.stratum-from.ensures c.put.ensures

pub shape_of-strata : goal.shape_of-strata
shape_of-strata c = filling_long c.loop-k.invariant ∙ sym c.requires

pub returns : goal.returns
returns c = filling_end _ _ _ _ c.loop-k.invariant c.loop-k-test.false
