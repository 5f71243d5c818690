-- An entry read is a shingle read.
use mathlib.Core.Path.{ap}
use Rattle.shingle.specs.Table.{shingle_of}
use Rattle.shingle.proofs.shingle_at.Goals as goal

pub returns : goal.returns
returns c = ap shingle_of c.get-e.ensures
