use Rattle.trail.proofs.Fill.{chain_start, chain_next, chain_end}
use Rattle.trail.proofs.rank.chain.Goals as goal

pub loop-i-init : goal.loop-i-init
loop-i-init c = chain_start c.args.ids.now

pub loop-i-preserved : goal.loop-i-preserved
loop-i-preserved c = chain_next c.requires c.loop-i-test.true c.loop-i.invariant

pub returns : goal.returns
returns c = chain_end c.loop-i-test.false c.loop-i.invariant
