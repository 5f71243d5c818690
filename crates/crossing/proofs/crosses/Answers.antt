-- The later first byte and the earlier end: the laws `apart` and `meeting`.
use Rattle.std.proofs.Common.{arith}
use Rattle.crossing.proofs.Crossing.{apart, meeting}
use Rattle.crossing.proofs.crosses.Goals as goal

pub returns-then-high-low : goal.returns-then-high-low
returns-then-high-low c = apart _ _ _ _ _ _ _ (omega arith) (omega arith) c.if-high-low.true

pub returns : goal.returns
returns c = meeting _ _ _ _ _ _ _ (omega arith) (omega arith) _ c.if-high-low.false c.lies_inside.ensures
