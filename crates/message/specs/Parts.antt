-- The cells, references and bytes of a message that was read, one by one. They stand where the reader's answer says: an opening's cells from
-- word 11 on, a composition's references from word 6 on, or from word 5 on without a trail number, a literal's bytes from word 5 on.
use Rattle.std.specs.Prelude.{Bool, true, false, List, [], ◌∷◌, ◌++◌, ◌≡◌, ℕ, ◌+◌, ◌*◌, ◌≤◌, ◌<◌, length, get_or, take, drop}
use Rattle.std.proofs.Math.Option.{none, some}
use Rattle.message.specs.Words.{link_words, Ref, reference_word, top_byte, middle_byte, low_byte}
use Rattle.message.specs.Fields.{value}
use Rattle.message.specs.Messages.{Msg, opening_query, node_query, opening, composition, literal, no_node, parse}
use Rattle.message.specs.Reading.{references_at}

-- A message's cells, references and bytes; none for a type that has none.
unfoldable pub cells_in : Msg → List ℕ
cells_in (opening_query n) = []
cells_in (node_query n l i) = []
cells_in (opening n rule w p L M q len root cells) = cells
cells_in (composition n l i x refs) = []
cells_in (literal n l i bytes) = []
cells_in (no_node n l i) = []

unfoldable pub references_in : Msg → List Ref
references_in (opening_query n) = []
references_in (node_query n l i) = []
references_in (opening n rule w p L M q len root cells) = []
references_in (composition n l i x refs) = refs
references_in (literal n l i bytes) = []
references_in (no_node n l i) = []

unfoldable pub bytes_in : Msg → List ℕ
bytes_in (opening_query n) = []
bytes_in (node_query n l i) = []
bytes_in (opening n rule w p L M q len root cells) = []
bytes_in (composition n l i x refs) = []
bytes_in (literal n l i bytes) = bytes
bytes_in (no_node n l i) = []

-- Whether a message carries a trail number.
unfoldable pub is_numbered : Msg → Bool
is_numbered (opening_query n) = false
is_numbered (node_query n l i) = false
is_numbered (opening n rule w p L M q len root cells) = false
is_numbered (composition n l i none refs) = false
is_numbered (composition n l i (some x) refs) = true
is_numbered (literal n l i bytes) = false
is_numbered (no_node n l i) = false

-- Value k of the cells that start at word `at`: of any bytes what stands there, and of an opening its cells' value k.
pub record CellRead (s : List ℕ) (at k r : ℕ) : Type 0 where
  pub stands : r ≡ value.of (drop (at + k * 3) (link_words s))
  pub read : (m : Msg) → parse s ≡ some m → at ≡ 11 → k < length (cells_in m) → r ≡ get_or (cells_in m) k 0

-- Reference k of those that start at word `at`.
pub record ReferenceRead (s : List ℕ) (at k : ℕ) (r : Ref) : Type 0 where
  pub stands : r ≡ reference_word.of (get_or (link_words s) (at + k) 0)
  pub read : (m : Msg) → parse s ≡ some m → at ≡ references_at (is_numbered m) → k < length (references_in m) → r ≡ get_or (references_in m) k (record { index = 0; count = 0 })

-- The three bytes of each word.
unfoldable pub three_each : List ℕ → List ℕ
three_each [] = []
three_each (w ∷ ws) = top_byte w ∷ middle_byte w ∷ low_byte w ∷ three_each ws

-- A buffer with some bytes at its front, as many as it has room for, and then as it was.
unfoldable pub fronted : List ℕ → List ℕ → List ℕ
fronted bytes buffer = take (length buffer) bytes ++ drop (length bytes) buffer

-- The first `count` bytes of those that start at word `at`, copied to the front of a buffer.
pub record Copied (s : List ℕ) (at count : ℕ) (before after : List ℕ) : Type 0 where
  pub stands : after ≡ fronted (take count (three_each (drop at (link_words s)))) before
  pub read : (m : Msg) → parse s ≡ some m → at ≡ 5 → count ≡ length (bytes_in m) → count ≤ length before
      → after ≡ bytes_in m ++ drop count before
