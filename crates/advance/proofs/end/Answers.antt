-- The output is cleared from its start on.
use mathlib.Core.Path.{refl, ◌∙◌}
use Rattle.copying.proofs.Settling.{cleared_all}
use Rattle.advance.proofs.end.Goals as goal

pub returns : goal.returns
returns c = record { answer = refl; state = c.over-ended.ensures; zeros = c.clear.ensures ∙ cleared_all _ }
