-- The stratum of the shingle's F(3).
use Rattle.strata.proofs.Capped.{of_tag}
use Rattle.strata.proofs.stratum.Goals as goal

pub returns : goal.returns
returns c = of_tag _ _ _ c.tag.ensures c.of_hash.ensures
