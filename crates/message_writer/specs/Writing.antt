-- What a writer leaves: the message at the front of the lent buffer and the rest as it was, or, where it does not fit, 20 and nothing changed.
-- Document 01: "20 reply fits the buffer lent?", "Bytes after a reply, or after the output, are untouched."
use Rattle.std.specs.Prelude.{cond, List, [], ◌∷◌, ◌++◌, ◌≡◌, ℕ, zero, suc, ◌+◌, ◌*◌, ◌^◌, ◌≤◌, leb, length, get_or, drop}
use Rattle.std.proofs.lemmas.List.Edits.{sets}
use Rattle.message.specs.Words.{link_bytes, end_word, Ref}
use Rattle.message.specs.Fields.{number, value}
use Rattle.message.specs.Messages.{headed}

-- A writer's answer and the buffer after it, for a message of these bytes.
pub record Written (before after bytes : List ℕ) (answer : ℕ) : Type 0 where
  pub answer_is : answer ≡ cond (leb (length bytes) (length before)) (2 ^ 32 + length bytes) 20
  pub buffer_is : after ≡ cond (leb (length bytes) (length before)) (bytes ++ drop (length bytes) before) before

-- The bytes of a message of the type t that says only a node's level and id.
unfoldable pub pair_bytes : (t session level id : ℕ) → List ℕ
pair_bytes t n l i = link_bytes (headed t n (number.to l ++ (value.to i ++ end_word 6 ∷ [])))

-- Words stored from word k on, if the buffer has room for them.
pub record Stored (before after : List ℕ) (k : ℕ) (ws : List ℕ) : Type 0 where
  pub same : length after ≡ length before
  pub bytes : k * 4 + length ws * 4 ≤ length before → after ≡ sets before (k * 4) (link_bytes ws)

-- The first rows of a table from row i on, `count` of them, 0 where it has none.
unfoldable pub first_rows : (count i : ℕ) → List ℕ → List ℕ
first_rows zero i rows = []
first_rows (suc count) i rows = get_or rows i 0 ∷ first_rows count (i + 1) rows

-- References by their indexes and counts, as many as both have.
unfoldable pub paired : List ℕ → List ℕ → List Ref
paired [] counts = []
paired (i ∷ indexes) [] = []
paired (i ∷ indexes) (c ∷ counts) = record { index = i; count = c } ∷ paired indexes counts
