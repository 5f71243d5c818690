-- The cells of a list of shingles: document 01, 'Shingles and sketch', second paragraph.
use Rattle.std.specs.Prelude.{◌≡◌, ℕ, ◌+◌, ◌-◌, ◌*◌, ◌/◌, ◌%◌, ◌<◌, cond, ◌&&◌, List, [], ◌∷◌, ◌++◌, length, replicate, nat_le}
use Rattle.rows.specs.Rows.{bytes_of}
use Rattle.fnv.specs.Fnv.{hash_of}
use Rattle.shingle.specs.declared.Shingle.{Shingle}
use Rattle.shingle.specs.Table.{shingles_in}
use Rattle.sketch.specs.Sums.{Part, part, sums, row_bytes}

-- "tail = level × 65,536 + count"
abbrev pub tail_of : Shingle → ℕ
tail_of s = s.level * 65536 + s.count

-- The low four bytes of a number, "most significant first".
unfoldable pub four_bytes : ℕ → List ℕ
four_bytes x = x / 256 / 256 / 256 % 256 ∷ x / 256 / 256 % 256 ∷ x / 256 % 256 ∷ x % 256 ∷ []

-- "A shingle's 20 bytes: both ids, 8 bytes each, then tail .. in 4, all most significant first."
unfoldable pub shingle_bytes : Shingle → List ℕ
shingle_bytes s = bytes_of s.previous ++ (bytes_of s.own ++ four_bytes (tail_of s))

-- "Let F(j) be FNV-1a of the byte j followed by them."
unfoldable pub tag_of : ℕ → Shingle → ℕ
tag_of j s = hash_of (j ∷ shingle_bytes s)

-- "a shingle lies in cells j×q + (F(j) mod q) for j = 0, 1, 2"
unfoldable pub cell_of : ℕ → ℕ → Shingle → ℕ
cell_of q j s = j * q + tag_of j s % q

-- "A cell has five sums ..: number of shingles, previous ids, own ids, tails, F(3)": summands for cell i, one of each.
unfoldable pub five_parts : (i number previous own tail tag : ℕ) → List Part
five_parts i number previous own tail tag =
    part (i * 5) number ∷ part (i * 5 + 1) previous ∷ part (i * 5 + 2) own ∷ part (i * 5 + 3) tail ∷ part (i * 5 + 4) tag ∷ []

-- What a shingle adds to cell i.
unfoldable pub in_cell : ℕ → Shingle → List Part
in_cell i s = five_parts i 1 s.previous s.own (tail_of s) (tag_of 3 s)

-- What a shingle adds to its three cells.
unfoldable pub parts_of : ℕ → Shingle → List Part
parts_of q s = in_cell (cell_of q 0 s) s ++ (in_cell (cell_of q 1 s) s ++ in_cell (cell_of q 2 s) s)

unfoldable pub all_parts : ℕ → List Shingle → List Part
all_parts q [] = []
all_parts q (s ∷ ss) = parts_of q s ++ all_parts q ss

-- "The sketch has 3q cells": their rows, five to a cell.
unfoldable pub cells_of : ℕ → List Shingle → List ℕ
cells_of q ss = sums (q * 15) (all_parts q ss)

-- What filling a cell table answers: the number of the question that refuses, "5 q 1 to 64? .. 7 lent tables long enough for
-- .. 3q cells?", or 0.
unfoldable pub fill_answer : ℕ → ℕ → ℕ
fill_answer q room = cond (nat_le 1 q && nat_le q 64) (cond (nat_le (q * 120) room) 0 7) 5

-- What filling leaves: the cells of the shingle table's list and zeros past them, or the table as it was where it is refused.
unfoldable pub fill_table : ℕ → List ℕ → List ℕ → List ℕ
fill_table q shingles t =
    cond (nat_le 1 q && nat_le q 64)
    (cond (nat_le (q * 120) (length t)) (row_bytes (cells_of q (shingles_in shingles)) ++ replicate (length t - q * 120) 0) t)
    t

-- A cell of a shingle, one of at most 192.
pub record CellOf (q j : ℕ) (s : Shingle) (r : ℕ) : Type 0 where
  pub is : r ≡ cell_of q j s
  pub low : r < 192

-- What filling promises: its answer and every byte.
pub record Filled (q : ℕ) (shingles before after : List ℕ) (r : ℕ) : Type 0 where
  pub answer : r ≡ fill_answer q (length before)
  pub table : after ≡ fill_table q shingles before
