-- The first m values have been added.
use Rattle.std.proofs.Common.{◌*◌, take}
use Rattle.sketch.specs.Sums.{parts_from, Added}
use Rattle.sketch.proofs.adding.add_cell.Given as goal

abbrev pub invariant-loop-m : goal.invariant-loop-m
invariant-loop-m l = Added l.initial.table l.table (parts_from (l.i * 5) (take l.m l.values))
