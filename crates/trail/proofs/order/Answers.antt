-- A refusal is owed to one of the four questions; the trail is the search's, moved to the front, and that it was found is what `only` asks.
use Rattle.std.proofs.Common.{arith, refl, rules}
use Rattle.trail.proofs.Answers.{order_refused, order_found, unbalanced_answer}
use Rattle.trail.proofs.order.Goals as goal

pub returns-then-sum-eq0 : goal.returns-then-sum-eq0
returns-then-sum-eq0 c = order_refused _ _ _ refl (λ p q s t. omega (arith, c.size-sum.ensures, c.then-sum-eq0.either))

pub returns-then-not-balanced : goal.returns-then-not-balanced
returns-then-not-balanced c =
    let none = unbalanced_answer _ _ _ c.args.number (record { previous = search rules; own = search rules; count = search rules }) (c.balanced.ensures c.if-not-balanced.true) in
    order_refused _ _ _ refl (λ p q s t. omega (arith, none))

pub returns-in-Ok : goal.returns-in-Ok
returns-in-Ok c =
    let same = c.link-table.ensures in
    order_found _ _ _ _ _ c.size-sum.ensures c.if-sum-eq0.false c.if-sum-gt32.false (omega (arith, c.if-number-ge-CAP.false))
    (rw (same.0, same.1) at c.in-Ok.ensures) refl refl (rw same.1 at c.front.ensures) (rw (same.0, same.1) at c.only.ensures)

pub returns-in-Err : goal.returns-in-Err
returns-in-Err c =
    let same = c.link-table.ensures in
    let past = rw (same.0, same.1) at c.in-Err.ensures in
    order_refused _ _ _ refl (λ p q s t. omega (arith, past))
