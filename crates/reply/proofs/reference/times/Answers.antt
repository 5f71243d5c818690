use mathlib.Core.Path.{refl}
use native.Mathlib.Omega.{arith}
use Rattle.reply.proofs.Referring.{once_few, count_start, count_next, count_end}
use Rattle.reply.proofs.reference.times.Goals as goal

pub loop-own-init : goal.loop-own-init
loop-own-init c = count_start _ _ _

pub overflow_add-sum : goal.overflow_add-sum
overflow_add-sum c = omega (arith, c.loop-own.invariant.bound, c.loop-own-test.true, once_few _ _ _ c.once-sum.ensures)

pub loop-own-preserved : goal.loop-own-preserved
loop-own-preserved c = count_next _ _ _ _ _ _ _ _ c.loop-own-test.true refl c.once-sum.ensures c.loop-own.invariant

pub returns : goal.returns
returns c = count_end _ _ _ _ _ _ c.loop-own-test.false c.loop-own.invariant
