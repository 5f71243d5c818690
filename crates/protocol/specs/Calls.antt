-- Lists of receiver calls: "Its calls, taking and writing, start from what an accepted setup left, and nobody else writes the state
-- between them."
use Rattle.std.specs.Prelude.{Bool, true, false, List, [], ◌∷◌, ◌⊎◌, ◌≡◌, ℕ, suc, take}
use Rattle.protocol.specs.Lent.{Lent}
use Rattle.protocol.specs.State.{State}
use Rattle.protocol.specs.Receiver.{Answer, refused, waiting, handed, wrote, Result, result, take_message, write_query}

-- A call with what it is lent.
pub data Call : Type 0 where
  takes : (lent : Lent) (message : List ℕ) → Call
  writes : (lent : Lent) (buffer : List ℕ) → Call

-- One call on a state. Writing the query changes no state, and of what it is lent only its own buffer.
unfoldable pub step : State → Call → Result
step s (takes m message) = take_message s m message
step s (writes m buffer) = result (wrote (write_query s m buffer).answer) s m

-- "replies are counted over the whole list of calls": a reply is accepted by a call that takes a message and is not refused.
unfoldable pub goes_on : Answer → Bool
goes_on (refused k) = false
goes_on waiting = true
goes_on (handed n) = true
goes_on (wrote n) = false

-- A call of a list: how many replies were accepted before it, the state before it, the call and its result.
pub record Event : Type 0 where
  pub count : ℕ
  pub before : State
  pub call : Call
  pub result : Result

abbrev pub event : ℕ → State → Call → Event
event k s c = record { count = k; before = s; call = c; result = step s c }

unfoldable pub accepts : Event → Bool
accepts e = goes_on e.result.answer

unfoldable pub counting : Bool → ℕ → ℕ
counting true k = suc k
counting false k = k

-- The events of a list of calls, "each on the state the last returned".
unfoldable pub events : ℕ → State → List Call → List Event
events k s [] = []
events k s (c ∷ cs) = event k s c ∷ events (counting (accepts (event k s c)) k) (step s c).state cs

-- A claim on each event, and on one of them.
unfoldable pub Every : {A : Type 0} → (A → Type 0) → List A → Type 0
Every P [] = Unit {0}
Every P (x ∷ xs) = P x × Every P xs

unfoldable pub Some : {A : Type 0} → (A → Type 0) → List A → Type 0
Some P [] = ⊥
Some P (x ∷ xs) = P x ⊎ Some P xs

-- A claim on each point of a list of calls: before the first, between two, after the last. A point is the number of replies accepted
-- so far and the state.
unfoldable pub EveryPoint : (ℕ → State → Type 0) → ℕ → State → List Call → Type 0
EveryPoint P k s [] = P k s
EveryPoint P k s (c ∷ cs) = P k s × EveryPoint P (counting (accepts (event k s c)) k) (step s c).state cs

-- How many replies a list of calls accepts.
unfoldable pub accepted : List Event → ℕ
accepted [] = 0
accepted (e ∷ es) = counting (accepts e) (accepted es)

-- "hands the string over: the first bytes of the output lent to that call, as many as the opening announced"
pub record HandsOver (e : Event) (string : List ℕ) : Type 0 where
  pub size : ℕ
  pub answer : e.result.answer ≡ handed size
  pub bytes : string ≡ take size e.result.lent.output
