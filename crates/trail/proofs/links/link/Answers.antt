use Rattle.std.proofs.Common.{arith, refl}
use Rattle.trail.proofs.Linking.{firsts_more, afters_more}
use Rattle.trail.proofs.links.link.Goals as goal

pub loop-row-init : goal.loop-row-init
loop-row-init c = (record { long = refl; each = λ j h. absurd (omega arith) }, record { long = refl; each = λ j h. absurd (omega arith) })

pub loop-row-preserved : goal.loop-row-preserved
loop-row-preserved c = (firsts_more _ _ _ _ _ (omega arith) c.loop-row.invariant.0 c.leaving.ensures, afters_more _ _ _ _ (omega arith) c.loop-row.invariant.1 c.leaving-in-loop-row.ensures)
