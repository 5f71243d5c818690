-- Decided, and written.
use Rattle.std.proofs.Common.{refl}
use Rattle.opening.proofs.Opened.{opened}
use Rattle.opening.proofs.open.Goals as goal

pub returns-in-Ok : goal.returns-in-Ok
returns-in-Ok c = opened _ _ _ _ _ _ _ _ (rw c.in-Ok.is at c.decide.ensures) refl _ _ c.renew.ensures
