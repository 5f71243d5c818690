-- What the steps of filling a shingle table say to each other: pairs written with count 1, then equal neighbours counted.
use Rattle.std.specs.Prelude.{Bool, cond, ◌&&◌, List, [], ◌∷◌, map, ◌≡◌, ℕ, ◌+◌, ◌*◌, ◌/◌, ◌%◌, ◌≤◌, ◌<◌, eqb, length, get_or, take}
use Rattle.entries.specs.declared.Entry.{Entry}
use Rattle.entries.specs.Entries.{entry, table_of}
use Rattle.shingle.specs.Shingles.{Pair, shingle, pairs_of}
use Rattle.shingle.specs.Table.{entry_of, nodes_in}

-- The ids after a node of the given level: those of lower levels stay, and no deeper one is left.
pub record Followed (last : List ℕ) (level id : ℕ) (next : List ℕ) : Type 0 where
  pub long : length next ≡ 8
  pub below : (l : ℕ) → l < level → get_or next l 0 ≡ get_or last l 0
  pub there : get_or next level 0 ≡ id
  pub above : (l : ℕ) → level < l → get_or next l 0 ≡ 0

-- A pair as an entry of count 1.
abbrev pub single : Pair → Entry
single k = entry_of (shingle k 1)

-- The pairs of all nodes, each with count 1, are the first r entries.
pub record Written (nodes before after : List ℕ) (r : ℕ) : Type 0 where
  pub long : length after ≡ length before
  pub few : r ≤ 4096
  pub pairs : take r (table_of after) ≡ map single (pairs_of (nodes_in nodes))

-- The entry with another count.
abbrev pub entry_with_count : Entry → ℕ → Entry
entry_with_count e m = entry e.previous e.own (e.tail / 65536 * 65536 + m % 65536)

unfoldable pub equal : Entry → Entry → Bool
equal a b = eqb a.previous b.previous && (eqb a.own b.own && eqb a.tail b.tail)

-- m entries equal to e, then the list: each stretch of equal entries as one, with their number as its count.
unfoldable pub tally : Entry → ℕ → List Entry → List Entry
tally e m [] = entry_with_count e m ∷ []
tally e m (x ∷ xs) = cond (equal e x) (tally e (m + 1) xs) (entry_with_count e m ∷ tally x 1 xs)

unfoldable pub tallied : List Entry → List Entry
tallied [] = []
tallied (x ∷ xs) = tally x 1 xs

pub record Merged (entries : List Entry) (before after : List ℕ) (r : ℕ) : Type 0 where
  pub long : length after ≡ length before
  pub few : r ≤ length before / 24
  pub stretches : take r (table_of after) ≡ tallied entries
