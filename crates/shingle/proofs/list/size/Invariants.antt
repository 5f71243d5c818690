-- The entries passed, and the shingles from there on, are together the list's length.
use mathlib.Core.Path.{◌≡◌}
use Prim.Native.Nat.{◌+◌}
use lib.ListN.{length, drop}
use Rattle.entries.specs.Entries.{table_of}
use Rattle.shingle.specs.Table.{shingles_from, shingles_in}
use Rattle.shingle.proofs.list.size.Given as goal

abbrev pub invariant-loop-k : goal.invariant-loop-k
invariant-loop-k l = l.k + length (shingles_from (drop l.k (table_of l.shingles))) ≡ length (shingles_in l.shingles)
