-- The words stored one after the other are the message: the law `composition_stored`.
use Rattle.std.proofs.Common.{arith}
use Rattle.std.specs.Option.{is_some}
use Rattle.message_writer.proofs.Writing.{written_full, written_fit, references_low, composed, composition_size, composition_stored}
use Rattle.message_writer.proofs.write_composition.Goals as goal

pub overflow_add-size : goal.overflow_add-size
overflow_add-size c =
    let from = c.references_from-from.ensures in
    let a = c.args in
    omega (arith, c.min-words.ensures, from, references_low (is_some a.trail))

pub overflow_add-size-2 : goal.overflow_add-size-2
overflow_add-size-2 c =
    let from = c.references_from-from.ensures in
    let a = c.args in
    omega (arith, c.min-words.ensures, from, references_low (is_some a.trail))

pub returns-then-buffer-size : goal.returns-then-buffer-size
returns-then-buffer-size c =
    let a = c.args in
    written_full (composed a.session a.level a.id a.indexes.now a.counts.now a.trail) _
    (omega (arith, c.if-buffer-size.true, c.min-words.ensures, c.references_from-from.ensures, composition_size a.session a.level a.id a.indexes.now a.counts.now a.trail))

pub put_references-requires : goal.put_references-requires
put_references-requires c =
    let a = c.args in
    omega (arith, c.references_from-from.ensures, references_low (is_some a.trail))

pub returns : goal.returns
returns c =
    let a = c.args in
    written_fit (composed a.session a.level a.id a.indexes.now a.counts.now a.trail) _ _ _
    (omega (arith, c.min-words.ensures, c.references_from-from.ensures, composition_size a.session a.level a.id a.indexes.now a.counts.now a.trail)) c.if-buffer-size.false
    (composition_stored a.session a.level a.id a.indexes.now a.counts.now a.trail _ _ c.references_from-from.ensures
    c.min-words.ensures c.put_pair.ensures c.put_trail_number.ensures c.put_references.ensures
    c.put_end.ensures)
