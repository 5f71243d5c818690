-- Nothing stands there: the law `no_cell`.
use Rattle.std.proofs.Common.{arith}
use Rattle.message.proofs.Parts.{no_cell}
use Rattle.message.proofs.reader.cell_value.Goals as goal

pub returns-then-count-at : goal.returns-then-count-at
returns-then-count-at c = no_cell _ _ _ (grind arith)
