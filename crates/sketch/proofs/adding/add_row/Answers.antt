-- A row read, added to and stored is one more summand: the law `added_row`.
use Rattle.std.proofs.Common.{refl}
use Rattle.sketch.proofs.Sums.{added_row}
use Rattle.sketch.proofs.adding.add_row.Goals as goal

pub returns : goal.returns
returns c = added_row _ _ _ _ _ _ c.load.ensures refl c.store.ensures
