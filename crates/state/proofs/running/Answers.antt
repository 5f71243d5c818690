-- Question 9 of the state is that of its numbers and places.
use Rattle.protocol.specs.State.{running}
use Rattle.state.specs.Receivers.{state_of, runs}
use Rattle.state.proofs.running.Goals as goal

pub returns : goal.returns
unfolding running state_of runs
returns c = c.still_running.ensures
