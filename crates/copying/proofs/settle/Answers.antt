-- Too long from the start, and else the turns.
use Rattle.std.proofs.Common.{refl}
use Rattle.copying.proofs.Settling.{zeroed, no_room}
use Rattle.copying.proofs.settle.Goals as goal

pub returns-then-output-size : goal.returns-then-output-size
returns-then-output-size c = zeroed _ _ _ _ _ _ _ _ _ _ (no_room _ _ _ _ _ _ _ c.then-output-size.either) refl c.too_long.ensures
