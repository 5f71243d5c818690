-- Each number is below the size of its field, so that nothing is lost.
use mathlib.Core.Path.{refl}
use Rattle.node_table.specs.Entries.{packed}
use Rattle.node_table.proofs.pack.Goals as goal

pub returns : goal.returns
unfolding packed
returns c = refl
