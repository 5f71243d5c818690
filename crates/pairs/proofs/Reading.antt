-- Reading the list of a shingle table from the front: one shingle and those after it, and the list's length.
use mathlib.Core.Bool.{Bool, true, false, cond}
use mathlib.Core.List.{List, [], ◌∷◌}
use mathlib.Core.Path.{◌≡◌, ◌∙◌}
use Prim.Native.Nat.{ℕ, suc, ◌+◌, ◌/◌, ◌%◌, ◌≤◌, ◌<◌}
use native.Mathlib.Numerals.{add-one}
use native.Mathlib.Omega.{arith}
use lib.Dec.{eqb}
use lib.ListN.{length, drop}
use lib.Seq.{drop-cons}
use Rattle.entries.specs.declared.Entry.{Entry}
use Rattle.entries.specs.Entries.{blank, table_of}
use Rattle.entries.proofs.Entries.{length_table}
use Rattle.shingle.specs.declared.Shingle.{Shingle}
use Rattle.shingle.specs.Table.{shingle_of, shingle_in_table, shingles_from, shingles_in}
use Rattle.shingle.proofs.Reading.{listed_at}

-- Shingle k of the list, and the list after it.
pub here : (t : List ℕ) (k : ℕ) (s : Shingle) → s ≡ shingle_in_table t k → k < length (shingles_in t)
    → drop k (shingles_in t) ≡ s ∷ drop (k + 1) (shingles_in t)
here t k s is h = drop-cons (shingles_in t) k (shingle_of blank) h ∙ rw (add-one, listed_at t k h, ← is)

-- A list is not longer than its table.
pub from_long : (l : List Entry) → length (shingles_from l) ≤ length l
unfolding shingles_from
from_long [] = omega arith
from_long (e ∷ l) = go (eqb (e.tail % 65536) 0) (from_long l)
  where
    go : (t : Bool) → length (shingles_from l) ≤ length l → length (cond t [] (shingle_of e ∷ shingles_from l)) ≤ suc (length l)
    go true h = omega arith
    go false h = omega arith

pub list_long : (t : List ℕ) → length (shingles_in t) ≤ length t / 24
unfolding shingles_in
list_long t = omega (arith, from_long (table_of t), length_table t)
