-- What a message that was read says to a receiver: document 01, "11 type 3 to 6, of this session, matching the outstanding query's kind,
-- level and id?"
use Rattle.std.specs.Prelude.{Bool, false, ◌&&◌, List, ◌≡◌, ℕ, eqb, length, Result, Ok, Err}
use Rattle.std.proofs.Math.Option.{Option, none, some}
use Rattle.message.specs.Messages.{Msg, opening_query, opening, composition, literal, no_node, parse}
use Rattle.message.specs.Reading.{stated_by}
use Rattle.message.specs.Parts.{cells_in, references_in, bytes_in}
use Rattle.message.specs.declared.Message.{Message}
use Rattle.message.specs.declared.Message.TheVariants.{OpeningQuery, NodeQuery, Opening, Composition, Literal, NoNode}
use Rattle.refusal.specs.declared.Refusal.{Refusal}
use Rattle.refusal.specs.declared.Refusal.TheVariants.{Unexpected}
use Rattle.state.specs.declared.Outstanding.{Outstanding}
use Rattle.state.specs.declared.Outstanding.TheVariants as query
use Rattle.heard.specs.declared.Announced.{Announced}
use Rattle.heard.specs.declared.Content.{Content}
use Rattle.heard.specs.declared.Content.TheVariants as content
use Rattle.heard.specs.declared.Reply.{Reply}
use Rattle.heard.specs.declared.Said.{Said}
use Rattle.heard.specs.declared.Said.TheVariants as said

abbrev pub replying : (session level id : ℕ) → Content → Said
replying session level id content = said.Reply (record { session = session; level = level; id = id; content = content })

-- What the reader's answer says: an opening or a node reply, or it is refused.
abbrev pub said_of_message : Message → Result Said Refusal
said_of_message (OpeningQuery n) = Err Unexpected
said_of_message (NodeQuery n l i) = Err Unexpected
said_of_message (Opening n rule w p L M q len root at) =
    Ok (said.Opening (record {
      session = n;
      rule = rule;
      settings = record { window = w; fan_out = p; levels = L; nominal = M; width = q };
      length = len;
      root = root;
    }))
said_of_message (Composition n l i trail at count) = Ok (replying n l i (content.Composition trail count))
said_of_message (Literal n l i at count) = Ok (replying n l i (content.Literal count))
said_of_message (NoNode n l i) = Ok (replying n l i content.NoNode)

-- Whether what was said is what the outstanding query of that session asks for.
abbrev pub fitting : Outstanding → ℕ → Said → Bool
fitting query.Opening n (said.Opening a) = eqb a.session n
fitting query.Opening n (said.Reply r) = false
fitting (query.Node level id) n (said.Opening a) = false
fitting (query.Node level id) n (said.Reply r) = eqb r.session n && (eqb r.level level && eqb r.id id)

-- The message that well-formed bytes are.
unfoldable pub given : Option Msg → Msg
given none = opening_query 0
given (some m) = m

abbrev pub message_in : List ℕ → Msg
message_in s = given (parse s)

-- Bytes are a node reply that carries this.
abbrev pub Carries : List ℕ → (session level id : ℕ) → Content → Type 0
Carries s n l i (content.Composition trail count) =
    (parse s ≡ some (composition n l i (stated_by trail) (references_in (message_in s)))) × (count ≡ length (references_in (message_in s)))
Carries s n l i (content.Literal count) =
    (parse s ≡ some (literal n l i (bytes_in (message_in s)))) × (count ≡ length (bytes_in (message_in s)))
Carries s n l i content.NoNode = parse s ≡ some (no_node n l i)

-- Bytes are the opening that was heard.
abbrev pub OpeningReply : List ℕ → Announced → Type 0
OpeningReply s a =
    parse s
    ≡ some (opening a.session a.rule a.settings.window a.settings.fan_out a.settings.levels a.settings.nominal a.settings.width a.length a.root
    (cells_in (message_in s)))

-- Bytes are the node reply that was heard.
abbrev pub NodeReply : List ℕ → Reply → Type 0
NodeReply s r = Carries s r.session r.level r.id r.content

-- Bytes are what was heard.
abbrev pub Hears : List ℕ → Said → Type 0
Hears s (said.Opening a) = OpeningReply s a
Hears s (said.Reply r) = NodeReply s r
