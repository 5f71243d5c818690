-- What the steps of the taking promise each other.
use Rattle.std.specs.Prelude.{◌≡◌, ℕ, ◌+◌, ◌*◌, ◌<◌, Bool, true, false, Option, Some, None, List, replicate}
use Rattle.rows.specs.Rows.{words_of}
use Rattle.entries.specs.declared.Entry.{Entry}
use Rattle.entries.specs.Entries.{Put}
use Rattle.shingle.specs.Table.{entry_of}
use Rattle.sketch.specs.Opening.{is_negative, shingle_in, held_by, without, peel, positives, negatives}
use Rattle.single.specs.Peeling.{Lists}

-- The single cell of lowest index, if there is one. `first` is its index, or 3q.
abbrev pub Lowest : (q first : ℕ) → Option ℕ → Type 0
Lowest q first None = first ≡ q * 3
Lowest q first (Some i) = (i ≡ first) × (i < q * 3)

-- A table for 192 shingles with none in it.
pub record Cleared (t : List ℕ) : Type 0 where
  pub zeros : t ≡ replicate 4608 0

-- An entry was written as entry n of the one table or as entry m of the other, and n is then one more, or as before.
pub record Listed (sign : Bool) (n m : ℕ) (e : Entry) (new new' gone gone' : List ℕ) (r : ℕ) : Type 0 where
  pub positive : sign ≡ false → (Put new new' n e) × ((gone' ≡ gone) × (r ≡ n + 1))
  pub negative : sign ≡ true → (Put gone gone' m e) × ((new' ≡ new) × (r ≡ n))

-- The shingle of cell i was removed from its cells and written with its sign.
pub record TookOne (q i n m : ℕ) (cells cells' new new' gone gone' : List ℕ) (r : ℕ) : Type 0 where
  pub rows : words_of cells' ≡ without q (held_by (words_of cells) i) (words_of cells)
  pub listed : Listed (is_negative (words_of cells) i) n m (entry_of (shingle_in (words_of cells) i)) new new' gone gone' r

-- Single cells were taken as often as there were any, at most 3q times.
pub record TookAll (levels q : ℕ) (cells cells' new gone : List ℕ) : Type 0 where
  pub positive : Lists new (positives (peel q levels (q * 3) (words_of cells)).taken)
  pub negative : Lists gone (negatives (peel q levels (q * 3) (words_of cells)).taken)
  pub left : words_of cells' ≡ (peel q levels (q * 3) (words_of cells)).left
