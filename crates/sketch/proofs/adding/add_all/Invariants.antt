-- The first k shingles of the list have been added.
use Rattle.std.proofs.Common.{take}
use Rattle.shingle.specs.Table.{shingles_in}
use Rattle.sketch.specs.Sums.{Added}
use Rattle.sketch.specs.Cells.{all_parts}
use Rattle.sketch.proofs.adding.add_all.Given as goal

abbrev pub invariant-loop-k : goal.invariant-loop-k
invariant-loop-k l = Added l.initial.table l.table (all_parts l.width.q (take l.k (shingles_in l.shingles)))
