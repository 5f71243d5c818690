use borrow.Author.Rules.{rules}
use Rattle.opening.proofs.Keeping.{appending_start, appending_next, appending_end}
use Rattle.opening.proofs.list.append.Goals as goal

pub loop-k-init : goal.loop-k-init
loop-k-init c = appending_start _ _ _ _ c.size-n.ensures (search rules)

pub loop-k-preserved : goal.loop-k-preserved
loop-k-preserved c = appending_next _ _ _ _ _ _ _ c.loop-k.invariant c.loop-k-test.true _ c.get-e.ensures c.put.ensures

pub returns : goal.returns
returns c = appending_end _ _ _ _ _ _ c.loop-k.invariant c.loop-k-test.false
