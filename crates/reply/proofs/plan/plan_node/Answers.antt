-- Each way out is a case of the definition: the laws of `Planning`.
use mathlib.Core.Path.{sym}
use native.Mathlib.Omega.{arith}
use lib.Seq.{length-take-le}
use Rattle.reply.specs.Parts.{Listing}
use Rattle.reply.proofs.Planning.{level_too_low, too_many_children, planned_below}
use Rattle.reply.proofs.plan.plan_node.Goals as goal

pub returns-then-settings-level : goal.returns-then-settings-level
returns-then-settings-level c = level_too_low _ _ _ _ _ _ c.if-settings-level.true

pub returns-in_err-found : goal.returns-in_err-found
returns-in_err-found c = rw c.from_residual.ensures (too_many_children _ _ _ _ _ _ c.in_err-found.ensures)

pub slice_bounds-ids-end : goal.slice_bounds-ids-end
slice_bounds-ids-end c = let found : Listing _ _ = c.in_ok-found.ensures in omega (arith, found.few, found.room)

pub slice_bounds-plan_children-end : goal.slice_bounds-plan_children-end
slice_bounds-plan_children-end c =
    let found : Listing _ _ = c.in_ok-found.ensures in sym (length-take-le _ _ (omega (arith, found.few, found.room)))

pub returns : goal.returns
returns c = planned_below _ _ _ _ _ _ _ c.in_ok-found.ensures c.if-settings-level.false _ c.plan_children.ensures
