-- The struct is the definition's, which stands for the state by computing.
use mathlib.Core.Path.{ap}
use Rattle.copying.specs.Copying.{pile_of}
use Rattle.protocol.specs.State.{over}
use Rattle.state.specs.Receivers.{phase_of, state_of, phase_number, places_of, receiver_of}
use Rattle.state.proofs.over.Goals as goal

pub returns : goal.returns
unfolding state_of phase_of phase_number pile_of places_of receiver_of over
returns c = record { whole = c.idle.ensures; state = ap state_of c.idle.ensures }
