-- No cell before i is single: the record `Searching`.
use Rattle.std.proofs.Common.{◌*◌}
use Rattle.rows.specs.Rows.{words_of}
use Rattle.sketch.specs.Opening.{single}
use Rattle.single.proofs.First.{Searching}
use Rattle.single.proofs.cell.lowest.Given as goal

abbrev pub invariant-loop-i : goal.invariant-loop-i
invariant-loop-i l = Searching (single l.width.q l.levels (words_of l.cells)) (l.width.q * 3) l.i
