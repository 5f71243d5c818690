-- An entry of a node table: 16 bytes, the row of the id, then the row of level, length, start, parent and place.
use Rattle.std.specs.Prelude.{cond, List, ◌++◌, ℕ, ◌+◌, ◌*◌, ◌/◌, ◌%◌, leb, ltb, length, get_or}
use Rattle.rows.specs.Rows.{words_of, bytes_of, put}
use Rattle.node_table.specs.declared.Entry.{Entry}

-- The id of entry k of any table; 0 where the table has no such entry. A part of an entry at its end is none.
unfoldable pub id_at : List ℕ → ℕ → ℕ
id_at t k = cond (ltb k (length t / 16)) (get_or (words_of t) (k * 2) 0) 0

-- The second row of entry k, and its five numbers; all 0 where the table has no such entry.
unfoldable pub extent_at : List ℕ → ℕ → ℕ
extent_at t k = get_or (words_of t) (k * 2 + 1) 0

abbrev pub level_at : List ℕ → ℕ → ℕ
level_at t k = extent_at t k % 8

abbrev pub size_at : List ℕ → ℕ → ℕ
size_at t k = extent_at t k / 8 % 131072

abbrev pub start_at : List ℕ → ℕ → ℕ
start_at t k = extent_at t k / 8 / 131072 % 131072

-- "its parent's place in the table, and its place among its siblings from 0"
abbrev pub parent_at : List ℕ → ℕ → ℕ
parent_at t k = extent_at t k / 8 / 131072 / 131072 % 4096

abbrev pub place_at : List ℕ → ℕ → ℕ
place_at t k = extent_at t k / 8 / 131072 / 131072 / 4096 % 32

-- What entry k says.
abbrev pub entry_at : List ℕ → ℕ → Entry
entry_at t k =
    record {
      id = id_at t k;
      level = level_at t k;
      start = start_at t k;
      size = size_at t k;
      parent = parent_at t k;
      place = place_at t k;
    }

-- The second row: level, length, start, parent and place, each in its field of 3, 17, 17, 12 and 5 bits, from the lowest bit on.
unfoldable pub packed : Entry → ℕ
packed e = e.level % 8 + 8 * (e.size % 131072 + 131072 * (e.start % 131072 + 131072 * (e.parent % 4096 + 4096 * (e.place % 32))))

-- The 16 bytes of an entry.
unfoldable pub entry_bytes : Entry → List ℕ
entry_bytes e = bytes_of e.id ++ bytes_of (packed e)

-- The table with e as entry k, or as it was where it has no such entry.
unfoldable pub put_of : List ℕ → ℕ → Entry → List ℕ
put_of t k e = cond (leb (k * 16 + 16) (length t)) (put t (k * 16) (entry_bytes e)) t
