-- The pairs of the references looked up are in the columns: the record `Filling`.
use mathlib.Core.Path.{◌≡◌}
use lib.ListN.{length}
use Rattle.shingle.specs.Table.{shingles_in}
use Rattle.composition.proofs.Filling.{Filling}
use Rattle.composition.proofs.table.fill.Given as goal

abbrev pub invariant-loop-k : goal.invariant-loop-k
invariant-loop-k l = (l.size ≡ length (shingles_in l.shingles)) × Filling (shingles_in l.shingles) l.level l.message l.at l.count l.k l.previous l.own l.counts
