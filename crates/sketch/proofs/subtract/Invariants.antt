-- The rows before k hold differences, the rest of the table is as it was: the laws of `Subtracting`.
use Rattle.std.proofs.Common.{◌≡◌, ◌*◌, ◌++◌, drop}
use Rattle.sketch.specs.Sums.{along, row_bytes, row_less}
use Rattle.sketch.proofs.subtract.Given as goal

abbrev pub invariant-loop-k : goal.invariant-loop-k
invariant-loop-k l = l.cells ≡ row_bytes (along l.k 0 (row_less l.theirs l.own)) ++ drop (l.k * 8) l.initial.cells
