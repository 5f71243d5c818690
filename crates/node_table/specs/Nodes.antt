-- Reading a node table of any content: "A node table is read up to its first id 0 .. A node entry that points outside the lent
-- string is passed over; other entries are read as given."
use Rattle.std.specs.Prelude.{Bool, cond, ◌&&◌, List, [], ◌∷◌, ◌++◌, ℕ, zero, suc, ◌+◌, ◌/◌, leb, eqb, length}
use Rattle.node_table.specs.declared.Entry.{Entry}
use Rattle.node_table.specs.Entries.{id_at, entry_at, entry_bytes}

-- The entries from entry k on, at most so many, up to the first id 0.
unfoldable pub entries_from : List ℕ → ℕ → ℕ → List Entry
entries_from t zero k = []
entries_from t (suc left) k = cond (eqb (id_at t k) 0) [] (entry_at t k ∷ entries_from t left (k + 1))

-- The entries that a table lists.
unfoldable pub entries_in : List ℕ → List Entry
entries_in t = entries_from t (length t / 16) 0

-- The bytes of entries, one after the other.
unfoldable pub entries_bytes : List Entry → List ℕ
entries_bytes [] = []
entries_bytes (e ∷ es) = entry_bytes e ++ entries_bytes es

-- The entry's bytes lie in a string of n bytes.
abbrev pub inside : ℕ → Entry → Bool
inside n e = leb (e.start + e.size) n

-- The entries from the first on that passes the test.
unfoldable pub from_first : (Entry → Bool) → List Entry → List Entry
from_first test [] = []
from_first test (e ∷ es) = cond (test e) (e ∷ es) (from_first test es)

-- How many entries stand before the first that passes the test; all of them where none does.
unfoldable pub place_of : (Entry → Bool) → List Entry → ℕ
place_of test [] = 0
place_of test (e ∷ es) = cond (test e) 0 (suc (place_of test es))

-- The entry lies in a string of n bytes, and has the id and a level from `low` to `high`.
unfoldable pub sought : (n low high id : ℕ) → Entry → Bool
sought n low high id e = inside n e && ((leb low e.level && leb e.level high) && eqb e.id id)
