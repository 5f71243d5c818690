-- The value, or the number that gives 0 with it: the laws `plain_value` and `negative_value`.
use Rattle.sketch.proofs.Cells.{plain_value, negative_value}
use Rattle.sketch.proofs.adding.with_sign.Goals as goal

pub returns-then-negative : goal.returns-then-negative
returns-then-negative c = negative_value _ _ _ c.if-negative.true c.wrapping_neg.type_inv c.wrapping_neg.ensures

pub returns-else-negative : goal.returns-else-negative
returns-else-negative c = plain_value _ _ c.if-negative.false
