-- The two tables are cleared.
use Rattle.single.proofs.Lengths.{cleared}
use Rattle.single.proofs.peel.Goals as goal

pub take-requires-clause-new_cleared : goal.take-requires-clause-new_cleared
take-requires-clause-new_cleared c = cleared _ _ c.if-new-ne-TAKEN_BYTES.false c.clear.ensures

pub take-requires-clause-gone_cleared : goal.take-requires-clause-gone_cleared
take-requires-clause-gone_cleared c = cleared _ _ c.if-gone-ne-TAKEN_BYTES.false c.clear-2.ensures
