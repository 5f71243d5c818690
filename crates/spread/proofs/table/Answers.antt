-- `table` meets its contract: the test is computed.
use mathlib.Core.Path.{refl}
use Rattle.fnv.specs.Fnv.{hash_onward, next_hash}
use Rattle.spread.specs.Spreading.{spread_of}
use Rattle.spread.proofs.Rule.{spreads}
use Rattle.spread.proofs.table.Goals as goal

pub returns : goal.returns
unfolding spread_of hash_onward next_hash
returns c = spreads _ refl refl
