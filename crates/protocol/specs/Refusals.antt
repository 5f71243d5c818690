-- What a message that is refused leaves: document 01, 'Questions', said of the number that taking it answers and not of how it is taken.
use Rattle.std.specs.Prelude.{false, List, ◌≡◌, ℕ, ◌^◌, ◌≤◌, ◌<◌, length, replicate}
use Rattle.protocol.specs.Lent.{Lent}
use Rattle.protocol.specs.State.{State, over, running}
use Rattle.protocol.specs.Receiver.{Result, number_of, take_message}

-- "a no changes nothing", "A no at 9 to 11 changes no state and no buffer."
pub record ChangesNothing (s : State) (m : Lent) (r : Result) : Type 0 where
  pub state : r.state ≡ s
  pub lent : r.lent ≡ m

-- "A no at 12 to 19 ends the session and zeroes the whole output buffer." A call that is refused is no accepted opening, and "No other later
-- call changes a table".
pub record EndsTheSession (s : State) (m : Lent) (r : Result) : Type 0 where
  pub state : r.state ≡ over s
  pub stopped : running r.state ≡ false
  pub output : r.lent.output ≡ replicate (length m.output) 0
  pub string : r.lent.string ≡ m.string
  pub nodes : r.lent.nodes ≡ m.nodes
  pub shingles : r.lent.shingles ≡ m.shingles
  pub cells : r.lent.cells ≡ m.cells

-- Below 2^32 the number is 0 or that of a question, and the question says what is left.
pub record Refuses (s : State) (m : Lent) (r : Result) : Type 0 where
  pub last : number_of r.answer < 2 ^ 32 → number_of r.answer ≤ 19
  pub to_11 : 1 ≤ number_of r.answer → number_of r.answer ≤ 11 → ChangesNothing s m r
  pub from_12 : 12 ≤ number_of r.answer → number_of r.answer ≤ 19 → EndsTheSession s m r

-- So it is for every state, message and lent memory.
abbrev pub Refusals : Type 0
Refusals = (s : State) (m : Lent) (message : List ℕ) → Refuses s m (take_message s m message)
