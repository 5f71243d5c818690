-- A shingle put into its three cells with a sign: what that leaves of a cell table.
use Rattle.std.specs.Prelude.{ℕ, ◌*◌, ◌/◌, cond, ◌&&◌, List, ◌++◌, length, drop, nat_le}
use Rattle.rows.specs.Rows.{words_of}
use Rattle.sketch.specs.Sums.{plus, row_bytes}
use Rattle.sketch.specs.Opening.{Signed, signed_parts}

-- The table's whole rows with what the shingle adds to its three cells. Bytes after them are as before, and where q is not 1 to 64
-- all bytes are.
unfoldable pub put_in : ℕ → Signed → List ℕ → List ℕ
put_in q z t = cond (nat_le 1 q && nat_le q 64) (row_bytes (plus (words_of t) (signed_parts q z)) ++ drop (length t / 8 * 8) t) t
