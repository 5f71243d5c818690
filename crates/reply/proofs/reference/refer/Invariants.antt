-- The references collected and those still to come are all: the record `Referring`.
use mathlib.Core.Path.{◌≡◌}
use lib.ListN.{length}
use Rattle.shingle.specs.Table.{shingles_in}
use Rattle.reply.proofs.Referring.{Referring}
use Rattle.reply.proofs.reference.refer.Given as goal

abbrev pub invariant-loop-k : goal.invariant-loop-k
invariant-loop-k l = (l.end ≡ length (shingles_in l.shingles)) × Referring (shingles_in l.shingles) l.level l.ids l.k l.count l.indexes l.counts
