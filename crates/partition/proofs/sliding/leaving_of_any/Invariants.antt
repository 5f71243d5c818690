-- `leaving_of_any` meets its contract. The invariant: x is the number for a window of so many bytes.
use Rattle.std.proofs.Common.{◌≡◌, ◌%◌}
use Rattle.partition.specs.Sliding.{leaving_of}
use Rattle.partition.proofs.sliding.leaving_of_any.Given as goal

abbrev pub invariant-loop-place : goal.invariant-loop-place
invariant-loop-place l = l.x ≡ leaving_of l._place % 65521
