use native.Mathlib.Omega.{arith}
use Rattle.strata.proofs.Summing.{sum_start, sum_stop, sum_next, sum_end, sum_fits}
use Rattle.strata.proofs.estimating.sum.Goals as goal

pub loop-i-init : goal.loop-i-init
loop-i-init c = sum_start _ _ _ _

pub returns-in_default : goal.returns-in_default
returns-in_default c = sum_stop _ _ _ _ _ _ c.loop-i.invariant c.loop-i-test.true c.in_default.ensures _ (omega arith)

pub overflow_add-sum : goal.overflow_add-sum
overflow_add-sum c = omega (arith, sum_fits _ _ _ _ _ _ c.loop-i.invariant c.loop-i-test.true _ c.in-Some.ensures)

pub loop-i-preserved : goal.loop-i-preserved
loop-i-preserved c = sum_next _ _ _ _ _ _ c.loop-i.invariant c.loop-i-test.true _ c.in-Some.ensures

pub returns : goal.returns
returns c = sum_end _ _ _ _ _ _ c.loop-i.invariant c.loop-i-test.false
