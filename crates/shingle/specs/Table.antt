-- The shingle table: what filling it from a node table answers and leaves, and what is read from any table.
use Rattle.std.specs.Prelude.{Bool, false, cond, ◌&&◌, ◌||◌, List, [], ◌∷◌, ◌++◌, map, ◌≡◌, ℕ, ◌+◌, ◌*◌, ◌-◌, ◌/◌, ◌%◌, ◌^◌, ◌≤◌, leb, eqb, length, get_or, replicate}
use Rattle.node_table.specs.declared.Entry.{Entry as NodeEntry}
use Rattle.node_table.specs.Nodes.{entries_from}
use Rattle.entries.specs.declared.Entry.{Entry}
use Rattle.entries.specs.Entries.{entry, blank, table_of, table_bytes}
use Rattle.shingle.specs.declared.Shingle.{Shingle}
use Rattle.shingle.specs.Shingles.{Listed, listed, shingles_of}

-- A node as its entry in a node table lists it.
abbrev pub node_as : NodeEntry → Listed
node_as e = listed e.level e.id

-- The nodes of a node table, at most 4,096: a shingle table has room for so many.
unfoldable pub nodes_in : List ℕ → List Listed
nodes_in t = map node_as (entries_from t 4096 0)

-- A shingle as an entry: "tail = level × 65,536 + count".
abbrev pub entry_of : Shingle → Entry
entry_of s = entry s.previous s.own (s.level * 65536 + s.count)

-- An entry as a shingle.
abbrev pub shingle_of : Entry → Shingle
shingle_of e = record { previous = e.previous; own = e.own; level = e.tail / 65536; count = e.tail % 65536 }

-- What entry k of any shingle table says; all 0 where the table has no such entry.
abbrev pub shingle_in_table : List ℕ → ℕ → Shingle
shingle_in_table t k = shingle_of (get_or (table_of t) k blank)

-- "A node table is read up to its first id 0, a shingle table up to its first count 0."
unfoldable pub shingles_from : List Entry → List Shingle
shingles_from [] = []
shingles_from (e ∷ es) = cond (eqb (e.tail % 65536) 0) [] (shingle_of e ∷ shingles_from es)

unfoldable pub shingles_in : List ℕ → List Shingle
shingles_in t = shingles_from (table_of t)

-- The two shingles are equal.
unfoldable pub agree : Shingle → Shingle → Bool
agree a b = eqb a.previous b.previous && (eqb a.own b.own && (eqb a.level b.level && eqb a.count b.count))

-- The whole shingle is in the list, its count too.
unfoldable pub holds : Shingle → List Shingle → Bool
holds s [] = false
holds s (x ∷ xs) = agree s x || holds s xs

-- What filling answers: 7, the number of the question "lent tables long enough for .. 4,096 shingles", where the table is
-- shorter than that; else 2^32 and the number of shingles.
unfoldable pub fill_answer : List ℕ → ℕ → ℕ
fill_answer nodes room = cond (leb 98304 room) (2 ^ 32 + length (shingles_of (nodes_in nodes))) 7

-- What filling leaves: the shingles and zeros past them, or the table as it was where it is too short.
unfoldable pub fill_table : List ℕ → List ℕ → List ℕ
fill_table nodes t =
    cond (leb 98304 (length t))
    (table_bytes (map entry_of (shingles_of (nodes_in nodes))) ++ replicate (length t - 24 * length (shingles_of (nodes_in nodes))) 0)
    t

-- What filling promises: its answer, every byte, and that the shingles are read back from them.
pub record Filled (nodes before after : List ℕ) (r : ℕ) : Type 0 where
  pub answer : r ≡ fill_answer nodes (length before)
  pub table : after ≡ fill_table nodes before
  pub list : 98304 ≤ length before → shingles_in after ≡ shingles_of (nodes_in nodes)
