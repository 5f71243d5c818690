-- Sorting loses no pair and brings none: the law `twice_arranged`.
use mathlib.Core.Path.{◌∙◌}
use native.Mathlib.Omega.{arith}
use Rattle.sort.proofs.Passes.{order_fewer}
use Rattle.pairs.proofs.Differing.{twice_arranged}
use Rattle.pairs.proofs.places.Tables.none_twice.Goals as goal

pub differ-requires : goal.differ-requires
differ-requires c = order_fewer (omega (arith, c.sort.ensures.arranged.long)) c.sort.ensures.ordered

pub returns : goal.returns
returns c = c.differ.ensures ∙ twice_arranged _ _ _ c.sort.ensures
