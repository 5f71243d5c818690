-- Of the places passed, each has a lower pair than the next: the laws of `Differing`.
use Rattle.std.proofs.Common.{length}
use Rattle.pairs.specs.Both.{both}
use Rattle.pairs.proofs.Differing.{Differing}
use Rattle.pairs.proofs.places.Tables.differ.Given as goal

abbrev pub invariant-loop-k : goal.invariant-loop-k
invariant-loop-k l = Differing (both l.self) l.noted (length l.noted) l.k
