-- Each way out is an outcome of the definition. The first 65,536 bytes of the table are lent to be written.
use mathlib.Core.Path.{sym, ◌∙◌}
use borrow.Author.Tests.{leb-true, leb-false}
use lib.Seq.{length-take-le, length_front}
use Rattle.std.proofs.lemmas.Result.{err_from_is_err_and}
use Rattle.refusal.proofs.Numbers.{number_nonzero}
use Rattle.tree.proofs.Questions.{first_cutting}
use Rattle.tree.proofs.Outcome.{refused_settings, refused_room, finished, used_inside}
use Rattle.tree.proofs.cut_string.Goals as goal

pub returns-in_err-question : goal.returns-in_err-question
returns-in_err-question c =
    let p = err_from_is_err_and c.from_residual.result c.from_residual.ensures.1 in
    rw (p.1, p.2) (refused_settings _ _ _ _ c.in_err-question.ensures (number_nonzero _))

pub returns-then-not-has_room : goal.returns-then-not-has_room
returns-then-not-has_room c = refused_room _ _ _ (sym c.in_ok-question.ensures) (leb-false 65536 _ (sym c.has_room.ensures ∙ c.if-not-has_room.true))

pub slice_bounds-cut_node-end : goal.slice_bounds-cut_node-end
slice_bounds-cut_node-end c = (leb-true 65536 _ (sym c.has_room.ensures ∙ c.if-not-has_room.false))

pub slice_bounds-cut_node-end-2 : goal.slice_bounds-cut_node-end-2
slice_bounds-cut_node-end-2 c = sym (length-take-le 65536 c.args.nodes.now (leb-true 65536 _ (sym c.has_room.ensures ∙ c.if-not-has_room.false)))

pub cut_node-used-requires : goal.cut_node-used-requires
cut_node-used-requires c = first_cutting _ _ _ (sym c.in_ok-question.ensures) (length-take-le 65536 c.args.nodes.now (leb-true 65536 _ (sym c.has_room.ensures ∙ c.if-not-has_room.false)))

pub finish-requires : goal.finish-requires
finish-requires c = used_inside _ _ _ _ _ c.cut_node-used.ensures

pub shape_of-nodes : goal.shape_of-nodes
shape_of-nodes c = c.finish.auto.nodes ∙ (length_front c.args.nodes.now c.cut_node-used.new.table 65536 (c.cut_node-used.auto.table))

pub returns : goal.returns
returns c =
    let a = c.args in
    finished a.settings a.string.now a.nodes.now (sym c.in_ok-question.ensures) (leb-true 65536 _ (sym c.has_room.ensures ∙ c.if-not-has_room.false)) _
    (c.cut_node-used.auto.table) _ c.cut_node-used.ensures _ _ c.finish.ensures
