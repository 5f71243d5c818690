use Rattle.std.proofs.Common.{ℕ, ◌+◌, ◌*◌, ◌∷◌, drop, ◌∙◌, ap, arith}
use Rattle.message.specs.Fields.{text_to}
use Rattle.message_writer.proofs.Writing.{filled_first, filled_more, filled_done, no_text}
use Rattle.message_writer.proofs.put.put_text.Goals as goal

pub loop-k-init : goal.loop-k-init
loop-k-init c = filled_first _ _ _

pub loop-k-preserved : goal.loop-k-preserved
loop-k-preserved c =
    filled_more _
    (c.text_word-w.ensures
    ∙ ap (λ (n : ℕ). c.text_word-w.result ∷ text_to (drop n c.args.text.now)) {x = c.loop-k.k * 3 + 3} {y = (c.loop-k.k + 1) * 3} (omega arith))
    (omega arith) c.loop-k.invariant c.put_word.ensures

pub shape_of-buffer : goal.shape_of-buffer
shape_of-buffer c = c.loop-k.invariant.same

pub returns : goal.returns
returns c = filled_done (no_text c.args.text.now (c.loop-k.k * 3) (omega arith)) c.loop-k.invariant
