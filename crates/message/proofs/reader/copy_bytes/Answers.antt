use Rattle.std.proofs.Common.{drop, arith}
use Rattle.message.specs.Words.{link_words}
use Rattle.message.specs.Parts.{three_each}
use Rattle.message.proofs.Parts.{copy_none, copy_more, copy_end, copied}
use Rattle.message.proofs.reader.copy_bytes.Goals as goal

pub loop-j-init : goal.loop-j-init
loop-j-init c = copy_none (three_each (drop c.args.at (link_words c.args.message.now))) _

pub loop-j-preserved : goal.loop-j-preserved
loop-j-preserved c =
    copy_more (three_each (drop c.args.at (link_words c.args.message.now))) _ _ _ _ (omega (arith, c.min.ensures, c.min-end.ensures))
    (omega (arith, c.room.ensures, c.min-end.ensures)) c.loop-j.invariant c.byte_at.ensures

pub returns : goal.returns
returns c =
    let bytes = three_each (drop c.args.at (link_words c.args.message.now)) in
    copied _ _ _ _ _ (copy_end bytes c.args.part.now _ c.args.count c.loop-j.j (omega (arith, c.min.ensures, c.min-end.ensures, c.room.ensures)) c.loop-j.invariant)
