-- The one trail with no id is the numbered one, or it is skipped.
use Rattle.std.proofs.Common.{arith}
use Rattle.trail.proofs.Linking.{led_long}
use Rattle.trail.proofs.Search.{leaf_found}
use Rattle.trail.proofs.walk.complete.Goals as goal

pub returns-then-skip-eq0 : goal.returns-then-skip-eq0
returns-then-skip-eq0 c = λ owns. leaf_found _ _ c.if-skip-eq0.true (led_long _ _)

pub returns : goal.returns
returns c = λ owns. omega (arith, c.if-skip-eq0.false)
