use Rattle.std.proofs.Common.{refl, arith}
use Rattle.rows.specs.Rows.{words_of}
use Rattle.rows.proofs.Rows.{length_words}
use Rattle.single.proofs.First.{zeros_broken, zeros_next, zeros_end}
use Rattle.single.proofs.cell.all_zero.Goals as goal

pub loop-k-init : goal.loop-k-init
loop-k-init c = refl

pub returns-then-load-ne0 : goal.returns-then-load-ne0
returns-then-load-ne0 c =
    let cells = c.args.cells.now in
    zeros_broken (words_of cells) c.loop-k.k _ c.load.ensures (omega (arith, length_words cells)) c.loop-k.invariant c.if-load-ne0.true

pub loop-k-preserved : goal.loop-k-preserved
loop-k-preserved c =
    let cells = c.args.cells.now in
    zeros_next (words_of cells) c.loop-k.k _ c.load.ensures (omega (arith, length_words cells)) c.loop-k.invariant c.if-load-ne0.false

pub returns : goal.returns
returns c =
    let cells = c.args.cells.now in
    zeros_end (words_of cells) c.loop-k.k (omega (arith, length_words cells)) c.loop-k.invariant
