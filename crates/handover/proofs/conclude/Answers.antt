-- Each way out, by what copying leaves: the laws of `Concluding`.
use Rattle.std.proofs.Common.{sym, ◌∙◌, inl, inr, rules}
use Rattle.std.proofs.Math.Seq.{length-take-le}
use Rattle.copying.proofs.Settling.{cleared_all}
use Rattle.handover.proofs.Concluding.{room, too_long_lem, goes_on, other_string, handing}
use Rattle.handover.proofs.conclude.Goals as goal
use Rattle.handover.proofs.conclude.Goals.{then-end-size-via-then-end-size, then-end-size-via-else-end-size+then-block_id-root}

pub returns-in_default : goal.returns-in_default
returns-in_default c = too_long_lem _ _ _ _ _ _ _ c.in_default.ensures.0 c.in_default.ensures.1

pub returns-then-copied-gt0 : goal.returns-then-copied-gt0
returns-then-copied-gt0 c = goes_on _ _ _ _ _ _ _ c.in-Some.ensures (search rules) c.if-copied-gt0.true

pub slice_bounds-block_id-end : goal.slice_bounds-block_id-end
slice_bounds-block_id-end c =
    let fits = room _ _ _ _ _ _ _ c.in-Some.ensures in
    let end = c.in-Some.ensures.within.0 in
    search rules

pub slice_bounds-block_id-end-else-end-size : goal.slice_bounds-block_id-end-else-end-size
slice_bounds-block_id-end-else-end-size c =
    let fits = room _ _ _ _ _ _ _ c.in-Some.ensures in
    let end = c.in-Some.ensures.within.0 in
    sym (length-take-le _ _ (search rules))

pub returns-then-end-size : goal.returns-then-end-size
returns-then-end-size c =
    other_string _ _ _ _ _ _ _ c.in-Some.ensures (search rules) c.if-copied-gt0.false
    (elim c.then-end-size.branch [
      | then-end-size-via-then-end-size w ↦ inl w.if-end-size.true
      | then-end-size-via-else-end-size+then-block_id-root w ↦ inr (w.if-end-size.false, λ e. w.if-block_id-root.true (w.block_id.ensures ∙ e))
    ])
    (c.clear.ensures ∙ cleared_all _)

pub returns : goal.returns
returns c =
    handing _ _ _ _ _ _ _ c.in-Some.ensures (search rules) c.if-copied-gt0.false c.if-end-size.false (sym c.block_id.ensures ∙ c.if-block_id-root.false)
