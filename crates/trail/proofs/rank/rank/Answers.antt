use Rattle.std.proofs.Common.{arith}
use Rattle.trail.proofs.Ranking.{total_first, count_start, count_next, count_over, count_end}
use Rattle.trail.proofs.rank.rank.Goals as goal

pub narrow-unused-requires : goal.narrow-unused-requires
narrow-unused-requires c = omega (arith, total_first _ _ _ _ c.requires, c.requires.few)

pub loop-i-init : goal.loop-i-init
loop-i-init c = count_start c.requires c.narrow-unused.ensures

pub overflow_sub-id : goal.overflow_sub-id
overflow_sub-id c = omega (arith, c.requires.nonzero c.loop-i.i c.loop-i-test.true)

pub search-requires : goal.search-requires
search-requires c = record { size = c.loop-i.invariant.size; few = omega (arith, c.requires.few); leaves = c.leaving-from.ensures }

pub returns-in-Ok : goal.returns-in-Ok
returns-in-Ok c = count_over c.requires c.loop-i.invariant c.loop-i-test.true c.in-Ok.ensures.there

pub loop-i-preserved : goal.loop-i-preserved
loop-i-preserved c = count_next c.requires c.loop-i.invariant c.loop-i-test.true c.in-Err.ensures

pub overflow_sub-result : goal.overflow_sub-result
overflow_sub-result c = c.loop-i.invariant.cap

pub returns : goal.returns
returns c = count_end c.loop-i-test.false c.loop-i.invariant
