-- Each return is one of the laws `literal-..`.
use Rattle.std.proofs.Common.{◌∙◌, sym}
use Rattle.message.proofs.Answers.{literal_no_end, literal_read}
use Rattle.message.proofs.reader.literal.Goals as goal

pub returns-then-not-is_end : goal.returns-then-not-is_end
returns-then-not-is_end c = literal_no_end _ c.args.session _ _ c.in_ok-level.ensures _ _ c.text_run-text.ensures (sym c.is_end.ensures ∙ c.if-not-is_end.true)

pub returns : goal.returns
returns c = literal_read _ c.args.session _ _ c.in_ok-level.ensures _ _ c.text_run-text.ensures (sym c.is_end.ensures ∙ c.if-not-is_end.false)
