-- Genuine messages: document 01, "A sender's own opening is one written over the string its accepted setup took, with the tables as
-- that setup left them. Its messages written so, with its state unaltered too, are the genuine ones."
use Rattle.std.specs.Prelude.{Bool, true, false, cond, ◌&&◌, List, [], ◌∷◌, map, ◌≡◌, ℕ, ◌+◌, ◌≤◌, ◌<◌, eqb, length}
use Rattle.std.proofs.Math.Option.{Option, none, some}
use Rattle.fnv.specs.Fnv.{id_of_block}
use Rattle.partition.specs.Cuts.{rule_number}
use Rattle.tree.specs.declared.Settings.{Settings}
use Rattle.tree.specs.Questions.{refusal}
use Rattle.tree.specs.Tree.{children_of, nodes_of}
use Rattle.tree.specs.Laws.{Content, content}
use Rattle.sketch.specs.Cells.{cells_of}
use Rattle.setup.specs.Tables.{shingles_of_string}
use Rattle.message.specs.Words.{Ref}
use Rattle.message.specs.Messages.{Msg, opening_query, node_query, opening, composition, literal, no_node, encode, parse, Valid}
use Rattle.protocol.specs.Numbers.{stated}
use Rattle.protocol.specs.Sender.{composable, refs_of}
use Rattle.protocol.specs.Receiver.{session_of}
use Rattle.protocol.specs.Calls.{Every}

-- The blocks of a string's tree with their levels, in table order.
unfoldable pub blocks_of : Settings → List ℕ → List Content
blocks_of σ string = map content (nodes_of σ string)

-- A setup over the byte string is accepted: questions 1 to 6 and 8. (7 is about the tables lent to it.)
pub record Accepted (σ : Settings) (string : List ℕ) : Type 0 where
  pub bytes : Every (λ (b : ℕ). b < 256) string
  pub questions : refusal σ (length string) ≡ 0
  pub few : length (nodes_of σ string) ≤ 4096

-- The ids of a block's children.
unfoldable pub children_ids : Settings → ℕ → List ℕ → List ℕ
children_ids σ l bytes = map id_of_block (children_of σ (l + 1) bytes)

-- The reply for a block: "At level L, or with a trail number above 4,095: type 5. Else type 4, referring to its list." Document 02, request 2:
-- "References now rise by index. Their freedom goes"; request 5: a number is omitted where the trail is the only one.
unfoldable pub block_reply : Settings → List ℕ → (session level id : ℕ) → List ℕ → Bool → Msg
block_reply σ string n l i bytes true =
    composition n l i (stated (children_ids σ l bytes)) (refs_of (shingles_of_string σ string) (l + 1) (children_ids σ l bytes))
block_reply σ string n l i bytes false = literal n l i bytes

-- "it finds its first node of that level and id. None: type 6."
unfoldable pub first_of : ℕ → ℕ → List Content → Option (List ℕ)
first_of l i [] = none
first_of l i (c ∷ cs) = cond (eqb c.level l && eqb (id_of_block c.bytes) i) (some c.bytes) (first_of l i cs)

unfoldable pub found_reply : Settings → List ℕ → (session level id : ℕ) → Option (List ℕ) → Msg
found_reply σ string n l i none = no_node n l i
found_reply σ string n l i (some bytes) = block_reply σ string n l i bytes (composable σ l (children_ids σ l bytes))

-- The message is the reply to the query by a sender that was set up over the string.
unfoldable pub IsReply : Settings → List ℕ → Msg → Msg → Type 0
IsReply σ string (opening_query n) m =
    m ≡ opening n rule_number σ.window σ.fan_out σ.levels σ.nominal σ.width
    (length string) (id_of_block string) (cells_of σ.width (shingles_of_string σ string))
IsReply σ string (node_query n l i) m = m ≡ found_reply σ string n l i (first_of l i (blocks_of σ string))
IsReply σ string (opening n rule w p L M q size root cells) m = ⊥
IsReply σ string (composition n l i x refs) m = ⊥
IsReply σ string (literal n l i bytes) m = ⊥
IsReply σ string (no_node n l i) m = ⊥

-- "A session number serves one string when, modulo 2^24, all sender setups that reply under it have that string and equal settings; under
-- the receiver's number, that string and those settings are its sender's": asked of the sender of one reply, under the receiver's number.
abbrev pub ServesOneString : Settings → List ℕ → ℕ → Msg → Settings → List ℕ → Type 0
ServesOneString σ string session query τ sender = session_of query ≡ session → (τ ≡ σ) × (sender ≡ string)

-- The bytes are a genuine reply to the query, which the sender read and which therefore is within its fields: some sender's, set up over
-- some string.
pub record GenuineReply (σ : Settings) (string : List ℕ) (session : ℕ) (query : Msg) (bytes : List ℕ) : Type 0 where
  pub settings : Settings
  pub sender : List ℕ
  pub message : Msg
  pub setup : Accepted settings sender
  pub asked : Valid query
  pub replies : IsReply settings sender query message
  pub written : bytes ≡ encode message
  pub serves : ServesOneString σ string session query settings sender

-- A genuine message, to whatever query and whenever it was written.
pub record Genuine (σ : Settings) (string : List ℕ) (session : ℕ) (bytes : List ℕ) : Type 0 where
  pub query : Msg
  pub reply : GenuineReply σ string session query bytes

-- Document 02, request 2: "a setup's node has at most one genuine composition a session". Under a session number that serves one string, two genuine
-- compositions of one level and id are the same bytes, whichever of the string's senders wrote them.
abbrev pub OneComposition : Type 0
OneComposition =
    (σ : Settings) (string : List ℕ) (session : ℕ) (a b : List ℕ) → Genuine σ string session a → Genuine σ string session b
    → (l i : ℕ) (x y : Option ℕ) (refs refs' : List Ref) → parse a ≡ some (composition session l i x refs) → parse b ≡ some (composition session l i y refs') → a ≡ b
