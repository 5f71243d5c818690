-- A shingle table: lent bytes as entries of 24 bytes, three rows of 64 bits each: previous id, own id, and
-- document 01's "tail = level × 65,536 + count".
use Rattle.std.specs.Prelude.{cond, List, [], ◌∷◌, ◌++◌, ◌≡◌, ℕ, ◌+◌, ◌*◌, leb, length, take, drop, set}
use Rattle.rows.specs.Rows.{words_of, bytes_of}
use Rattle.entries.specs.declared.Entry.{Entry}

abbrev pub entry : ℕ → ℕ → ℕ → Entry
entry previous own tail = record { previous = previous; own = own; tail = tail }

-- What is read where a table has no entry.
abbrev pub blank : Entry
blank = entry 0 0 0

-- The rows of a table, three to an entry. One or two rows left over at its end are no entry.
unfoldable pub entries_of : List ℕ → List Entry
entries_of [] = []
entries_of (a ∷ []) = []
entries_of (a ∷ b ∷ []) = []
entries_of (a ∷ b ∷ c ∷ rest) = entry a b c ∷ entries_of rest

-- The whole entries of a table.
abbrev pub table_of : List ℕ → List Entry
table_of t = entries_of (words_of t)

-- The 24 bytes of an entry, and the bytes of entries one after the other.
unfoldable pub entry_bytes : Entry → List ℕ
entry_bytes e = bytes_of e.previous ++ (bytes_of e.own ++ bytes_of e.tail)

unfoldable pub table_bytes : List Entry → List ℕ
table_bytes [] = []
table_bytes (e ∷ es) = entry_bytes e ++ table_bytes es

-- The table with e as entry k, or as it was where it has no such entry.
unfoldable pub put_of : List ℕ → ℕ → Entry → List ℕ
put_of t k e = cond (leb (k * 24 + 24) (length t)) (take (k * 24) t ++ (entry_bytes e ++ drop (k * 24 + 24) t)) t

-- What writing an entry leaves, said of the bytes and of the entries.
pub record Put (before after : List ℕ) (k : ℕ) (e : Entry) : Type 0 where
  pub bytes : after ≡ put_of before k e
  pub entries : table_of after ≡ set (table_of before) k e
