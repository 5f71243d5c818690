-- Where there is a trail, it is the only one unless a search that skips one finds another.
use Rattle.std.proofs.Common.{◌∙◌}
use Rattle.trail.proofs.Only.{another}
use Rattle.trail.proofs.single.only.Goals as goal

pub returns : goal.returns
returns c = c.is_err.ensures.value ∙ another _ _ _ _ _ _ c.requires.there c.find-second.ensures
