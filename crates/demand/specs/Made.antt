-- A list of receiver calls as C makes them: what each was lent, what it answered and what it left, in bytes and numbers.
use Rattle.std.specs.Prelude.{cond, List, [], ◌∷◌, ◌≡◌, ℕ, ◌-◌, ◌^◌, leb, eqb}
use Rattle.protocol.specs.Lent.{lent}
use Rattle.protocol.specs.Receiver.{Answer, refused, waiting, handed, wrote, Result, result}
use Rattle.protocol.specs.Calls.{Call, takes, writes, Event, accepts, counting}
use Rattle.state_bytes.specs.Bytes.{state_in}
use Rattle.receiver.specs.Calls.{Asked}
use Rattle.held.specs.Held.{decode, HeldTakes}

-- A call of `rcds_take` or of `rcds_query`. A prime marks what was lent to be written, as the call left it.
pub data Made : Type 0 where
  took : (state string nodes shingles cells message output : List ℕ) (answer : ℕ) (state' shingles' output' : List ℕ) → Made
  asked : (state string nodes shingles cells buffer : List ℕ) (answer : ℕ) (buffer' : List ℕ) → Made

-- The call kept its promise: that of `rcds_take`, or of `rcds_query`.
unfoldable pub Kept : Made → Type 0
Kept (took state string nodes shingles cells message output r state' shingles' output') =
    HeldTakes state state' string nodes shingles shingles' cells message output output' r
Kept (asked state string nodes shingles cells buffer r buffer') = Asked (state_in state) string nodes shingles cells buffer buffer' r

-- The bytes of the state that were lent, and as they were left.
unfoldable pub state_lent : Made → List ℕ
state_lent (took state string nodes shingles cells message output r state' shingles' output') = state
state_lent (asked state string nodes shingles cells buffer r buffer') = state

unfoldable pub state_left : Made → List ℕ
state_left (took state string nodes shingles cells message output r state' shingles' output') = state'
state_left (asked state string nodes shingles cells buffer r buffer') = state

-- "each on the state the last returned": every call kept its promise, and was lent the state's bytes as the one before it left them.
unfoldable pub InTurn : List ℕ → List Made → Type 0
InTurn state [] = Unit {0}
InTurn state (c ∷ cs) = (state_lent c ≡ state) × Kept c × InTurn (state_left c) cs

-- What the number says that taking a message answers.
unfoldable pub answer_of : ℕ → Answer
answer_of r = cond (eqb r 0) waiting (cond (leb (2 ^ 32) r) (handed (r - 2 ^ 32)) (refused r))

-- The call as document 01 knows it, and what came of it. The query's call is lent no output.
unfoldable pub call_of : Made → Call
call_of (took state string nodes shingles cells message output r state' shingles' output') = takes (lent string nodes shingles cells output) message
call_of (asked state string nodes shingles cells buffer r buffer') = writes (lent string nodes shingles cells []) buffer

unfoldable pub result_of : Made → Result
result_of (took state string nodes shingles cells message output r state' shingles' output') =
    result (answer_of r) (decode state') (lent string nodes shingles' cells output')
result_of (asked state string nodes shingles cells buffer r buffer') = result (wrote r) (decode state) (lent string nodes shingles cells [])

-- The events of a list of calls, by what they answered and left; k replies were accepted before it.
abbrev pub event_of : ℕ → Made → Event
event_of k c = record { count = k; before = decode (state_lent c); call = call_of c; result = result_of c }

unfoldable pub events_of : ℕ → List Made → List Event
events_of k [] = []
events_of k (c ∷ cs) = event_of k c ∷ events_of (counting (accepts (event_of k c)) k) cs
