-- The first j bytes are copied.
use Rattle.std.proofs.Common.{length}
use Rattle.copying.proofs.Appending.{Appending}
use Rattle.copying.proofs.output.append.Given as goal

abbrev pub invariant-loop-j : goal.invariant-loop-j
invariant-loop-j l = Appending l.bytes l.initial.part l.part (length l.bytes) l.j
