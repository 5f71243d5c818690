use Rattle.std.proofs.Common.{refl, arith}
use borrow.Author.Rules.{rules}
use Rattle.copying.proofs.Settling.{turning_start, none_pending, not_there, too_much, copied, zeroed}
use Rattle.copying.proofs.turns.copy_known.Goals as goal

pub loop-below-init : goal.loop-below-init
loop-below-init c = turning_start _ _ _ _ _ _ _ (search rules) (search rules) (search rules)

pub returns-in_default : goal.returns-in_default
returns-in_default c =
    not_there _ _ _ _ _ _ _ _ _ _ c.loop-below.invariant c.loop-below-test.true _ refl c.in_default.ensures _ (omega arith)

pub returns-then-size-at : goal.returns-then-size-at
returns-then-size-at c =
    let inv = c.loop-below.invariant in
    zeroed _ _ _ _ _ _ _ _ _ _
    (too_much _ _ _ _ _ _ _ _ _ _ inv c.loop-below-test.true _ refl _ c.in-Some.ensures c.if-size-at.true)
    inv.long c.too_long.ensures

pub loop-below-preserved : goal.loop-below-preserved
loop-below-preserved c =
    copied _ _ _ _ _ _ _ _ _ _ c.loop-below.invariant c.loop-below-test.true _ refl _ c.in-Some.ensures c.if-size-at.false _ _ _ _
    c.append.ensures refl refl refl

pub returns : goal.returns
returns c = none_pending _ _ _ _ _ _ _ _ _ _ c.loop-below.invariant c.loop-below-test.false
