-- The first j cells have the shingle.
use Rattle.sketch.specs.Sums.{Added}
use Rattle.sketch.proofs.Cells.{first_cells}
use Rattle.sketch.proofs.adding.add_shingle.Given as goal

abbrev pub invariant-loop-j : goal.invariant-loop-j
invariant-loop-j l = Added l.initial.table l.table (first_cells l.negative l.width.q l.s l.j)
