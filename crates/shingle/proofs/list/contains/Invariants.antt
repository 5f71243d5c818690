-- No entry passed agrees, so the shingle is in the list exactly when it is in what is left.
use mathlib.Core.Path.{◌≡◌}
use lib.ListN.{drop}
use Rattle.entries.specs.Entries.{table_of}
use Rattle.shingle.specs.Table.{shingles_from, shingles_in, holds}
use Rattle.shingle.proofs.list.contains.Given as goal

abbrev pub invariant-loop-place : goal.invariant-loop-place
invariant-loop-place l = holds l.s (shingles_from (drop l.place (table_of l.shingles))) ≡ holds l.s (shingles_in l.shingles)
