-- The rows before k are 0: the laws `zeros_next` and `zeros_end`.
use Rattle.std.proofs.Common.{◌≡◌, drop}
use Rattle.rows.specs.Rows.{words_of}
use Rattle.sketch.specs.Opening.{all_zero}
use Rattle.single.proofs.cell.all_zero.Given as goal

abbrev pub invariant-loop-k : goal.invariant-loop-k
invariant-loop-k l = all_zero (drop l.k (words_of l.cells)) ≡ all_zero (words_of l.cells)
