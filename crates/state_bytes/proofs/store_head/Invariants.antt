-- The rows before k are written: the laws of `Storing`.
use Rattle.state_bytes.proofs.Storing.{Rowing}
use Rattle.state_bytes.proofs.store_head.Given as goal

abbrev pub invariant-loop-k : goal.invariant-loop-k
invariant-loop-k l = Rowing l.fn.head 12 l.initial.bytes l.bytes l.k
