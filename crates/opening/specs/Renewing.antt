-- Writing the new list: document 01, "An accepted opening leaves the new list in the shingle table, zero past its end."
use Rattle.std.specs.Prelude.{cond, List, ◌++◌, map, ◌≡◌, ℕ, ◌+◌, ◌*◌, ◌-◌, ◌^◌, ◌≤◌, leb, length, replicate}
use Rattle.entries.specs.Entries.{table_bytes}
use Rattle.shingle.specs.declared.Shingle.{Shingle}
use Rattle.shingle.specs.Table.{entry_of, shingles_in}
use Rattle.sketch.specs.Opening.{renewed}

-- The own list without what a table of shingles that are gone lists, and with what a table of new ones lists.
unfoldable pub list_of : (new gone own : List ℕ) → List Shingle
list_of new gone own = renewed (shingles_in own) (shingles_in gone) (shingles_in new)

-- What writing answers: 2^32 and the number of shingles, or 7 where the table has no room for them.
unfoldable pub renew_answer : List Shingle → ℕ → ℕ
renew_answer list room = cond (leb (length list * 24) room) (2 ^ 32 + length list) 7

-- What writing leaves: the shingles and zeros past them, or the table as it was.
unfoldable pub renew_table : List Shingle → List ℕ → List ℕ
renew_table list t = cond (leb (length list * 24) (length t)) (table_bytes (map entry_of list) ++ replicate (length t - length list * 24) 0) t

-- What writing promises: its answer, every byte, and that the new list is read back from them.
pub record Renewed (new gone before after : List ℕ) (r : ℕ) : Type 0 where
  pub answer : r ≡ renew_answer (list_of new gone before) (length before)
  pub table : after ≡ renew_table (list_of new gone before) before
  pub list : length (list_of new gone before) * 24 ≤ length before → shingles_in after ≡ list_of new gone before
