-- The output is cleared from its start on.
use mathlib.Core.Path.{refl, ◌∙◌}
use Rattle.copying.proofs.Settling.{cleared_all}
use Rattle.copying.proofs.turns.too_long.Goals as goal

pub returns : goal.returns
returns c = record { answer = refl; zeros = c.clear.ensures ∙ cleared_all _ }
