-- Each way out is a case of the definition: the laws of `Planning`.
use Rattle.reply.proofs.Planning.{children_unnumbered, children_above, children_unreferable, children_composed}
use Rattle.reply.proofs.plan.plan_children.Goals as goal

pub returns-in_err-order : goal.returns-in_err-order
returns-in_err-order c = rw c.from_residual.ensures (children_unnumbered _ _ _ _ c.number.ensures c.in_err-order.ensures.value)

pub returns-then-order-gt-LAST_NUMBER : goal.returns-then-order-gt-LAST_NUMBER
returns-then-order-gt-LAST_NUMBER c =
    children_above _ _ _ _ c.number.ensures _ c.in_ok-order.ensures.value c.if-order-gt-LAST_NUMBER.true

pub returns-in_err-references : goal.returns-in_err-references
returns-in_err-references c =
    rw c.from_residual-in_err-references.ensures (children_unreferable _ _ _ _ c.number.ensures c.in_err-references.ensures)

pub returns : goal.returns
returns c =
    children_composed _ _ _ _ c.number.ensures _ c.in_ok-order.ensures.value _ c.in_ok-references.ensures
    c.if-order-gt-LAST_NUMBER.false _ c.then_some.ensures
