-- The outstanding query, and writing it: document 01, "it has one outstanding query: the opening's while none is taken, then the top
-- node's".
use Rattle.std.specs.Prelude.{true, false, cond, List, ◌≡◌, ℕ, ◌-◌, eqb, get_or, Option, Some, None}
use Rattle.std.proofs.Math.Option.{none, some}
use Rattle.copying.specs.declared.Waiting.{Waiting}
use Rattle.message.specs.Messages.{Msg, opening_query, node_query}
use Rattle.protocol.specs.State.{running, outstanding}
use Rattle.protocol.specs.Receiver.{querying}
use Rattle.state.specs.declared.Receiver.{Receiver}
use Rattle.state.specs.declared.Outstanding.{Outstanding}
use Rattle.state.specs.declared.Outstanding.TheVariants.{Opening, Node}
use Rattle.state.specs.Receivers.{state_of}

-- The last of the pending nodes.
abbrev pub top_of : Receiver → Waiting
top_of s = get_or s.pile (s.waiting - 1) (record { level = 0; id = 0 })

unfoldable pub query_in : Receiver → Option Outstanding
query_in s = cond (running (state_of s)) (Some (cond (eqb s.phase 0) Opening (Node (top_of s).level (top_of s).id))) None

-- A query as the message that asks it in a session.
abbrev pub asking : (session : ℕ) → Outstanding → Msg
asking n Opening = opening_query n
asking n (Node level id) = node_query n level id

-- A session that is not running asks nothing.
pub record AsksNothing (s : Receiver) : Type 0 where
  pub whole : query_in s ≡ None
  pub nothing : outstanding (state_of s) ≡ none
  pub stands : running (state_of s) ≡ false

-- The query of a session that is running.
pub record AsksFor (s : Receiver) (query : Outstanding) : Type 0 where
  pub whole : query_in s ≡ Some query
  pub is : outstanding (state_of s) ≡ some (asking s.session query)
  pub runs : running (state_of s) ≡ true

-- What finding the query promises.
abbrev pub Asks : Receiver → Option Outstanding → Type 0
Asks s None = AsksNothing s
Asks s (Some query) = AsksFor s query

-- What writing the query promises: the answer and every byte of the buffer.
pub record Queried (s : Receiver) (before after : List ℕ) (r : ℕ) : Type 0 where
  pub answer_is : r ≡ (querying (outstanding (state_of s)) before).answer
  pub buffer_is : after ≡ (querying (outstanding (state_of s)) before).buffer
