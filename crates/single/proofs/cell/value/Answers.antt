-- The number that gives 0 with the sum: the law `value_negative`.
use Rattle.single.proofs.Values.{value_negative}
use Rattle.single.proofs.cell.value.Goals as goal

pub returns-then-is_negative : goal.returns-then-is_negative
returns-then-is_negative c =
    value_negative _ _ _ _ _ _ c.load-sum.ensures c.is_negative.ensures c.if-is_negative.true c.wrapping_neg.type_inv c.wrapping_neg.ensures
