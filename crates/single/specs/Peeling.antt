-- What taking the single cells of a difference answers: document 01, 'Shingles and sketch', "Opening a sketch".
use Rattle.std.specs.Prelude.{◌≡◌, ℕ, ◌-◌, ◌*◌, Bool, true, false, ◌&&◌, List, ◌++◌, map, length, replicate, ◌==◌, nat_le, slice_index}
use Rattle.rows.specs.Rows.{words_of}
use Rattle.entries.specs.Entries.{table_bytes}
use Rattle.shingle.specs.declared.Shingle.{Shingle}
use Rattle.shingle.specs.Table.{entry_of, shingles_in}
use Rattle.sketch.specs.Sums.{along}
use Rattle.sketch.specs.Opening.{Peeled, taken_of, positives, negatives, all_zero}

-- The rows of the 3q cells of a lent cell table. A missing row is 0.
unfoldable pub rows_in : ℕ → List ℕ → List ℕ
rows_in q t = along (q * 15) 0 (λ (k : ℕ). slice_index (words_of t) k)

-- "5 q 1 to 64?"
abbrev pub width_fits : ℕ → Bool
width_fits q = nat_le 1 q && nat_le q 64

-- "subtract own cells from the sender's", and what is then taken and left.
abbrev pub taken_from : (levels q : ℕ) (theirs own : List ℕ) → Peeled
taken_from levels q theirs own = taken_of q levels (rows_in q theirs) (rows_in q own)

-- A table of so many bytes that lists shingles: their entries, and zeros after them.
unfoldable pub list_table : ℕ → List Shingle → List ℕ
list_table room ss = table_bytes (map entry_of ss) ++ replicate (room - 24 * length ss) 0

-- A table for 192 shingles that has these bytes and is read as these shingles.
pub record Lists (t : List ℕ) (ss : List Shingle) : Type 0 where
  pub bytes : t ≡ list_table 4608 ss
  pub list : shingles_in t ≡ ss

-- The shingles taken as positive and as negative stand in a table each, and `empty` says whether "all cells end at 0". Where q is
-- not 1 to 64 nothing is taken.
pub record Taken (levels q : ℕ) (theirs own new gone : List ℕ) (empty : Bool) : Type 0 where
  pub all : empty ≡ (width_fits q && all_zero (taken_from levels q theirs own).left)
  pub positive : width_fits q ≡ true → Lists new (positives (taken_from levels q theirs own).taken)
  pub negative : width_fits q ≡ true → Lists gone (negatives (taken_from levels q theirs own).taken)
  pub nothing : width_fits q ≡ false → (new ≡ replicate 4608 0) × (gone ≡ replicate 4608 0)

-- The same in two lent tables, whatever they held. Where one has another length than for 192 shingles both are as they were, and the answer is
-- false.
pub record TakenInto (levels q : ℕ) (theirs own new new' gone gone' : List ℕ) (empty : Bool) : Type 0 where
  pub taken : length new ≡ 4608 → length gone ≡ 4608 → Taken levels q theirs own new' gone' empty
  pub left : (length new == 4608 && length gone == 4608) ≡ false → (new' ≡ new) × ((gone' ≡ gone) × (empty ≡ false))
