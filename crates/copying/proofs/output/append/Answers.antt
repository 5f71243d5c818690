use Rattle.std.proofs.Common.{refl, arith, rules}
use Rattle.copying.proofs.Appending.{appending_start, appending_next, appending_end}
use Rattle.copying.proofs.output.append.Goals as goal

pub loop-j-init : goal.loop-j-init
loop-j-init c = appending_start _ _ (search rules)

pub bounds-part-j : goal.bounds-part-j
bounds-part-j c = let inv = c.loop-j.invariant in omega (arith, inv.size, inv.fits, inv.long, c.loop-j-test.true)

pub loop-j-preserved : goal.loop-j-preserved
loop-j-preserved c = appending_next _ _ _ _ _ _ c.loop-j.invariant c.loop-j-test.true refl

pub shape_of-part : goal.shape_of-part
shape_of-part c = c.loop-j.invariant.long

pub returns : goal.returns
returns c = record { is = appending_end _ _ _ _ _ c.loop-j.invariant c.loop-j-test.false }
