-- The shingles counted, and those kept of the rest, are together all: the laws of `Counting`.
use Rattle.shingle.specs.Table.{shingles_in}
use Rattle.opening.proofs.Keeping.{Counting}
use Rattle.opening.proofs.list.count.Given as goal

abbrev pub invariant-loop-k : goal.invariant-loop-k
invariant-loop-k l = Counting (shingles_in l.gone) (shingles_in l.table) l.n l.found l.k
