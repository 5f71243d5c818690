-- Sorted, then merged: the law `merged_sorted`.
use Rattle.shingle.proofs.Merging.{merged_sorted}
use Rattle.shingle.proofs.merge.arrange.Goals as goal

pub returns : goal.returns
returns c = merged_sorted _ _ _ _ c.sort.ensures c.sort.auto.table c.merge.ensures
