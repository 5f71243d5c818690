-- The state that was loaded is the one that the bytes hold.
use Rattle.held.proofs.Outcome.{asked_held}
use Rattle.held.proofs.query.Goals as goal

pub returns : goal.returns
returns c = asked_held c.load-held.ensures c.query.ensures
