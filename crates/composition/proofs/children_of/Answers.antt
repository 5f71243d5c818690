-- Each way out is a case of the definition: the laws of `Answering`.
use Rattle.std.proofs.Common.{◌≡◌, ◌+◌, Ok, Some, inl, inr, ap, sym, ◌∙◌, arith}
use Rattle.std.specs.Option.{is_some}
use Rattle.shingle.specs.Table.{shingles_in}
use Rattle.message.specs.Reading.{stated_by, references_at}
use Rattle.protocol.specs.Numbers.{meant_by}
use Rattle.trail.specs.Calls.{ordered, order_answer}
use Rattle.composition.specs.Composition.{refs_in}
use Rattle.composition.specs.Table.{Filled}
use Rattle.composition.proofs.Filling.{length_refs}
use Rattle.composition.proofs.Answering.{order_is, level_or_count, one_unnamed, no_trail, trail_short, carried_or_high, composed}
use Rattle.composition.proofs.children_of.Goals as goal
use Rattle.composition.proofs.children_of.Goals.{In_ok-pairs, In_ok-order, then-not-carried_rightly-via-then-not-carried_rightly, then-not-carried_rightly-via-else-not-carried_rightly+then-order-rest}

pub returns-then-settings-level : goal.returns-then-settings-level
returns-then-settings-level c = level_or_count _ _ _ _ _ _ _ (length_refs _ _ _) c.then-settings-level.either

pub returns-in_err-pairs : goal.returns-in_err-pairs
returns-in_err-pairs c = rw c.from_residual.ensures (one_unnamed _ _ _ _ _ _ (rw c.references_from-references.ensures at c.in_err-pairs.ensures))

-- What filling the table gives, at the references' place.
filled : (c : In_ok-pairs)
    → Filled (shingles_in c.args.shingles.now) (c.args.level + 1) (refs_in c.args.message.now (references_at (is_some c.args.trail)) c.args.count)
    (Some c.in_ok-pairs.pairs)
filled c = rw c.references_from-references.ensures at c.in_ok-pairs.ensures

-- The trail of the number that is meant.
trail_is : (c : In_ok-order) → ordered (Ok c.in_ok-order.order) ≡ order_answer c.in_ok-pairs.pairs (meant_by (stated_by c.args.trail))
trail_is c = order_is _ (c.order.ensures ∙ ap (order_answer _) c.meant.ensures) c.in_ok-order.ensures.value

pub returns-in_err-order : goal.returns-in_err-order
returns-in_err-order c =
    rw c.from_residual-in_err-order.ensures
    (no_trail _ _ _ _ _ _ _ (filled (goal.at.returns-in_err-order c).In_ok-pairs) _
    (c.order.ensures ∙ ap (order_answer _) c.meant.ensures) c.in_err-order.ensures.value)

pub overflow_sub-order : goal.overflow_sub-order
overflow_sub-order c =
    let place = goal.at.overflow_sub-order c in
    omega (arith, trail_short _ _ _ _ _ (filled place.In_ok-pairs) _ (trail_is place.In_ok-order))

pub returns-then-not-carried_rightly : goal.returns-then-not-carried_rightly
returns-then-not-carried_rightly c =
    let place = goal.at.returns-then-not-carried_rightly c in
    carried_or_high _ _ _ _ _ _ _ (filled place.In_ok-pairs) _ (trail_is place.In_ok-order)
    (elim c.then-not-carried_rightly.branch [
      | then-not-carried_rightly-via-then-not-carried_rightly w ↦ inl (sym c.carried_rightly.ensures ∙ w.if-not-carried_rightly.true)
      | then-not-carried_rightly-via-else-not-carried_rightly+then-order-rest w ↦ inr w.if-order-rest.true
    ])

pub returns : goal.returns
returns c =
    let place = goal.at.returns c in
    composed _ _ _ _ _ _ _ (filled place.In_ok-pairs) _ (trail_is place.In_ok-order) _ (length_refs _ _ _) c.if-count-gt32.false
    c.if-settings-level.false (sym c.carried_rightly.ensures ∙ c.if-not-carried_rightly.false) c.if-order-rest.false
