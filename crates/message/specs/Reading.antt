-- What the reader answers, said by `parse`: which message its cases stand for, over the words of the bytes that were read.
use Rattle.std.specs.Prelude.{Bool, true, false, cond, ◌&&◌, List, ◌≡◌, ℕ, zero, suc, ◌+◌, ◌*◌, ◌-◌, ◌^◌, ◌≤◌, length, drop}
use Rattle.std.proofs.Math.Option.{Option, none, some}
use Rattle.std.specs.Prelude.{Option as Answer, None, Some}
use Rattle.std.specs.Option.{is_some}
use Rattle.message.specs.Words.{link_words, reference_word, is_end_word}
use Rattle.message.specs.Fields.{number, value, values_of, many_from, many_after, rising, text_from, text_after}
use Rattle.message.specs.Kinds.{number_of_form}
use Rattle.message.specs.Messages.{Msg, opening_query, node_query, opening, composition, literal, no_node, type_of, cell_values, body_of, parse}
use Rattle.message.specs.declared.kind.Form.{Form}
use Rattle.message.specs.declared.kind.Form.TheVariants as form
use Rattle.message.specs.declared.Message.{Message}
use Rattle.message.specs.declared.Message.TheVariants.{OpeningQuery, NodeQuery, Opening, Composition, Literal, NoNode}

-- A number that is there, or is left out.
abbrev pub stated_by : Answer ℕ → Option ℕ
stated_by None = none
stated_by (Some x) = some x

-- The message that an answer stands for. Cells, references and bytes are not copied: they are what stands in the words from place `at` on.
abbrev pub meant : List ℕ → Answer Message → Option Msg
meant ws None = none
meant ws (Some (OpeningQuery n)) = some (opening_query n)
meant ws (Some (NodeQuery n l i)) = some (node_query n l i)
meant ws (Some (Opening n rule w p L M q len root at)) = some (opening n rule w p L M q len root (values_of (cell_values q) (drop at ws)))
meant ws (Some (Composition n l i trail at count)) = some (composition n l i (stated_by trail) (many_from reference_word (drop at ws)))
meant ws (Some (Literal n l i at count)) = some (literal n l i (text_from (drop at ws)))
meant ws (Some (NoNode n l i)) = some (no_node n l i)

-- A composition's references come after the head, the level, the id in three words and the trail number, if it is there.
abbrev pub references_at : Bool → ℕ
references_at numbered = cond numbered 6 5

-- Where cells, references and bytes stand. An opening's cells come after the head, seven numbers and the root id in three words; a literal's bytes
-- after the head, the level and the id.
abbrev pub Placed : Answer Message → Type 0
Placed None = Unit {0}
Placed (Some (OpeningQuery n)) = Unit {0}
Placed (Some (NodeQuery n l i)) = Unit {0}
Placed (Some (Opening n rule w p L M q len root at)) = at ≡ 11
Placed (Some (Composition n l i trail at count)) = at ≡ references_at (is_some trail)
Placed (Some (Literal n l i at count)) = at ≡ 5
Placed (Some (NoNode n l i)) = Unit {0}

-- How many references or bytes there are.
abbrev pub Counted : List ℕ → Answer Message → Type 0
Counted ws None = Unit {0}
Counted ws (Some (OpeningQuery n)) = Unit {0}
Counted ws (Some (NodeQuery n l i)) = Unit {0}
Counted ws (Some (Opening n rule w p L M q len root at)) = Unit {0}
Counted ws (Some (Composition n l i trail at count)) = count ≡ length (many_from reference_word (drop at ws))
Counted ws (Some (Literal n l i at count)) = count ≡ length (text_from (drop at ws))
Counted ws (Some (NoNode n l i)) = Unit {0}

-- What reading the bytes s answers.
pub record Reads (s : List ℕ) (answer : Answer Message) : Type 0 where
  pub message : meant (link_words s) answer ≡ parse s
  pub placed : Placed answer
  pub counted : Counted (link_words s) answer

-- The type of each case.
abbrev pub form_of : Message → Form
form_of (OpeningQuery n) = form.OpeningQuery
form_of (NodeQuery n l i) = form.NodeQuery
form_of (Opening n rule w p L M q len root at) = form.Opening
form_of (Composition n l i trail at count) = form.Composition
form_of (Literal n l i at count) = form.Literal
form_of (NoNode n l i) = form.NoNode

-- The number of each answer: a message's type, and question 10 for one that is not well formed.
abbrev pub number_of : Answer Message → ℕ
number_of None = 10
number_of (Some m) = 2 ^ 32 + number_of_form (form_of m)

-- 10, or 2^32 and the type of a well-formed message.
unfoldable pub type_answer : Option Msg → ℕ
type_answer none = 10
type_answer (some m) = 2 ^ 32 + type_of m

-- The words from place k on that are to be numbers are numbers.
unfoldable pub numbers_are : List ℕ → (k count : ℕ) → Bool
numbers_are ws k zero = true
numbers_are ws k (suc count) = number.is (drop k ws) && numbers_are ws (k + 1) count

-- The references that follow each other from place `at` on rise by index, and end before place `end`.
pub record References (ws : List ℕ) (at end : ℕ) : Type 0 where
  pub rises : rising (many_from reference_word (drop at ws)) ≡ true
  pub count : end ≡ at + length (many_from reference_word (drop at ws))
  pub after : many_after reference_word (drop at ws) ≡ drop end ws

-- They do not rise.
pub record Falls (ws : List ℕ) (at : ℕ) : Type 0 where
  pub falls : rising (many_from reference_word (drop at ws)) ≡ false

-- The words from place `at` up to `end` carry three bytes each.
pub record Threes (ws : List ℕ) (at end : ℕ) : Type 0 where
  pub low : at ≤ end
  pub high : end - at ≤ length ws
  pub count : length (text_from (drop at ws)) ≡ (end - at) * 3 + length (text_from (drop end ws))
  pub after : text_after (drop at ws) ≡ text_after (drop end ws)

-- A literal's bytes stand in the words from place `at` up to `end`.
pub record Texts (ws : List ℕ) (at end count : ℕ) : Type 0 where
  pub count_is : count ≡ length (text_from (drop at ws))
  pub after : text_after (drop at ws) ≡ drop end ws

-- Level and id stand in their places.
unfoldable pub pair_is : List ℕ → Bool
pair_is ws = number.is (drop 1 ws) && value.is (drop 2 ws)

-- And what they are.
pub record PairRead (ws : List ℕ) (level id : ℕ) : Type 0 where
  pub stands : pair_is ws ≡ true
  pub level_is : level ≡ number.of (drop 1 ws)
  pub id_is : id ≡ value.of (drop 2 ws)

-- The end stands at place k.
abbrev pub ends_at : List ℕ → ℕ → Bool
ends_at ws k = is_end_word (length ws) (drop k ws)

-- What reading a message's body answers, in a message of that session and type.
pub record ReadsBody (s : List ℕ) (session type : ℕ) (answer : Answer Message) : Type 0 where
  pub message : meant (link_words s) answer ≡ body_of (length (link_words s)) session type (drop 1 (link_words s))
  pub placed : Placed answer
  pub counted : Counted (link_words s) answer

-- An opening by its places.
unfoldable pub opening_by_places : List ℕ → ℕ → Msg
opening_by_places ws n =
    opening n (number.of (drop 1 ws)) (number.of (drop 2 ws)) (number.of (drop 3 ws)) (number.of (drop 4 ws)) (number.of (drop 5 ws))
    (number.of (drop 6 ws)) (number.of (drop 7 ws)) (value.of (drop 8 ws)) (values_of (cell_values (number.of (drop 6 ws))) (drop 11 ws))
