use Rattle.std.proofs.Common.{rules}
use Rattle.rows.proofs.Rows.{cleared, none_cleared}
use Rattle.rows.proofs.clear.Goals as goal

pub returns-then-from-table : goal.returns-then-from-table
returns-then-from-table c = cleared _ _ _ (search rules) (c.fill.ensures.after (λ y e. e))

pub returns-else-from-table : goal.returns-else-from-table
returns-else-from-table c = none_cleared _ _ c.if-from-table.false
