-- The places read and those still to come are all: the laws of `Loading`.
use Rattle.rows.specs.Rows.{words_of}
use Rattle.state_bytes.proofs.Loading.{Reading}
use Rattle.state_bytes.proofs.load_places.Given as goal

abbrev pub invariant-loop-k : goal.invariant-loop-k
invariant-loop-k l = Reading (words_of l.bytes) l.pile l.k
