-- The rows of the places before k are written: the laws of `Storing`.
use Rattle.std.proofs.Common.{◌*◌}
use Rattle.state_bytes.specs.Bytes.{place_rows}
use Rattle.state_bytes.proofs.Storing.{Rowing}
use Rattle.state_bytes.proofs.store_places.Given as goal

abbrev pub invariant-loop-k : goal.invariant-loop-k
invariant-loop-k l = Rowing (place_rows l.fn.pile) 256 l.initial.part l.part (l.k * 2)
