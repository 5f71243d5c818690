-- Each return is one of the laws `composition_..`.
use Rattle.std.proofs.Common.{◌∙◌, sym}
use Rattle.message.proofs.Answers.{composition_falls, composition_no_end, composition_read}
use Rattle.message.proofs.reader.composition.Goals as goal

pub returns-in_err-end : goal.returns-in_err-end
returns-in_err-end c =
    rw c.from_residual-in_err-end.ensures
    (composition_falls _ c.args.session _ _ c.in_ok-level.ensures _ c.number-trail.ensures _ c.references_from-at.ensures c.in_err-end.ensures)

pub returns-then-not-is_end : goal.returns-then-not-is_end
returns-then-not-is_end c =
    composition_no_end _ c.args.session _ _ c.in_ok-level.ensures _ c.number-trail.ensures _ c.references_from-at.ensures _ c.in_ok-end.ensures
    (sym c.is_end.ensures ∙ c.if-not-is_end.true)

pub returns : goal.returns
returns c =
    composition_read _ c.args.session _ _ c.in_ok-level.ensures _ c.number-trail.ensures _ c.references_from-at.ensures _ c.in_ok-end.ensures
    (sym c.is_end.ensures ∙ c.if-not-is_end.false)
