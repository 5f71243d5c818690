-- What a receiver holds between its calls, whether its session is still running, and its outstanding query.
use Rattle.std.specs.Prelude.{Bool, true, false, cond, ◌&&◌, List, [], ◌∷◌, ℕ, ◌%◌, ◌^◌, leb, length}
use Rattle.std.proofs.Math.Option.{Option, none, some}
use Rattle.tree.specs.declared.Settings.{Settings}
use Rattle.message.specs.Messages.{Msg, opening_query, node_query}

-- A pending node.
pub record Pending : Type 0 where
  pub level : ℕ
  pub id : ℕ

abbrev pub pending : ℕ → ℕ → Pending
pending level id = record { level = level; id = id }

-- No opening taken yet, an opening taken, the session ended.
pub data Phase : Type 0 where
  unopened : Phase
  opened : Phase
  ended : Phase

-- The settings and the session number, taken modulo 2^24; then what the opening announced, how many bytes are built and how many
-- node replies were taken; and "a pile of pending nodes", its top first.
pub record State : Type 0 where
  pub settings : Settings
  pub session : ℕ
  pub phase : Phase
  pub size : ℕ
  pub root : ℕ
  pub built : ℕ
  pub taken : ℕ
  pub pile : List Pending

-- What an accepted setup makes: "A receiver is set up with a session number, taken modulo 2^24."
unfoldable pub initial : Settings → ℕ → State
initial σ n = record { settings = σ; session = n % 2 ^ 24; phase = unopened; size = 0; root = 0; built = 0; taken = 0; pile = [] }

-- The state in which an opening, or a node reply, leaves pending nodes.
unfoldable pub going : State → (size root built taken : ℕ) → List Pending → State
going s size root built taken pile =
    record { settings = s.settings; session = s.session; phase = opened; size = size; root = root; built = built; taken = taken; pile = pile }

-- The state after the session's end.
unfoldable pub over : State → State
over s = record { settings = s.settings; session = s.session; phase = ended; size = 0; root = 0; built = 0; taken = 0; pile = [] }

-- None of the pending nodes is of a level above L.
unfoldable pub shallow : ℕ → List Pending → Bool
shallow levels [] = true
shallow levels (e ∷ es) = leb e.level levels && shallow levels es

unfoldable pub live : Phase → List Pending → Bool
live unopened pile = true
live opened [] = false
live opened (e ∷ es) = true
live ended pile = false

-- "9 session still running? A state with over 128 pending nodes, one of a level above L, or none after its opening, is not."
unfoldable pub running : State → Bool
running s = live s.phase s.pile && (leb (length s.pile) 128 && shallow s.settings.levels s.pile)

unfoldable pub query_of : ℕ → Phase → List Pending → Option Msg
query_of n unopened pile = some (opening_query n)
query_of n opened [] = none
query_of n opened (e ∷ es) = some (node_query n e.level e.id)
query_of n ended pile = none

-- "it has one outstanding query: the opening's while none is taken, then the top node's"; "an ended session has none".
unfoldable pub outstanding : State → Option Msg
outstanding s = cond (running s) (query_of s.session s.phase s.pile) none
