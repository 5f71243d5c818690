-- The cells of an opening message as a cell table: document 01, "cells in order with five values each", read as the rows of a table.
use Rattle.std.specs.Prelude.{List, ◌++◌, ◌≡◌, ℕ, ◌+◌, ◌*◌, ◌-◌, min, drop, replicate}
use Rattle.sketch.specs.Sums.{along, row_bytes}
use Rattle.message.specs.Words.{link_words}
use Rattle.message.specs.Fields.{value}

-- Value k of the cells, where it stands in the message: from word 11 on, three words each. 0 past the message's end.
unfoldable pub cell_at : List ℕ → ℕ → ℕ
cell_at message k = value.of (drop (11 + k * 3) (link_words message))

-- How many values the table takes: "3q cells", five values each, and a table has room for a q of 64.
unfoldable pub value_count : ℕ → ℕ
value_count q = min q 64 * 15

-- The table: these values, a row each, and zeros after them.
unfoldable pub cell_table : List ℕ → ℕ → List ℕ
cell_table message q = row_bytes (along (value_count q) 0 (cell_at message)) ++ replicate (7680 - value_count q * 8) 0

-- The first `count` values stand in the first rows of a table, and the bytes after them are as before.
pub record Copied (message : List ℕ) (count : ℕ) (before after : List ℕ) : Type 0 where
  pub is : after ≡ row_bytes (along count 0 (cell_at message)) ++ drop (count * 8) before
