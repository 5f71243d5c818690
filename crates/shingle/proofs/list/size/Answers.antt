use Rattle.shingle.proofs.Reading.{size_start, size_zero, size_next, size_end}
use Rattle.shingle.proofs.list.size.Goals as goal

pub loop-k-init : goal.loop-k-init
loop-k-init c = size_start _

pub returns-then-e-eq0 : goal.returns-then-e-eq0
returns-then-e-eq0 c = size_zero _ _ _ c.get-e.ensures c.loop-k-test.true c.if-e-eq0.true c.loop-k.invariant

pub loop-k-preserved : goal.loop-k-preserved
loop-k-preserved c =
    size_next _ _ _ c.get-e.ensures c.loop-k-test.true c.if-e-eq0.false c.loop-k.invariant

pub returns : goal.returns
returns c = size_end _ _ c.loop-k.auto.k-end c.loop-k-test.false c.loop-k.invariant
