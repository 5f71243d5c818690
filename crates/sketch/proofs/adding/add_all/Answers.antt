use Rattle.std.proofs.Common.{arith}
use Rattle.sketch.proofs.Cells.{list_start, list_next, list_end}
use Rattle.sketch.proofs.adding.add_all.Goals as goal

pub loop-k-init : goal.loop-k-init
loop-k-init c = list_start _ _ c.args.shingles.now

pub loop-k-preserved : goal.loop-k-preserved
loop-k-preserved c = list_next _ _ _ _ _ _ _ (omega arith) c.shingle_at-s.ensures c.loop-k.invariant c.add_shingle.ensures

pub returns : goal.returns
returns c = list_end _ _ _ _ c.loop-k.k (omega arith) c.loop-k.invariant
