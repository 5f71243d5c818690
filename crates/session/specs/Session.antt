-- A session between two ends that are both at hand: document 01, "The sender only replies. The receiver queries and builds the sender's
-- string." The query goes to the sender at once, and its reply to the receiver.
use Rattle.std.specs.Prelude.{true, cond, List, ℕ, zero, suc, ◌-◌, ◌^◌, eqb, ltb, take, replicate}
use Rattle.tree.specs.declared.Settings.{Settings}
use Rattle.setup.specs.Questions.{setup_refusal}
use Rattle.setup.specs.Tables.{node_front, shingle_front, cell_front, setup_table}
use Rattle.protocol.specs.Lent.{Lent, lent}
use Rattle.protocol.specs.State.{State, initial}
use Rattle.protocol.specs.Sender.{Written, reply}
use Rattle.protocol.specs.Receiver.{Result, number_of, take_message, write_query}

-- Where a session stands after a round: the number that the round answers, the receiver's state, what is lent to the receiver, and the
-- buffer that the sender writes to. A number of 0 says that the session goes on.
pub record Standing : Type 0 where
  pub answer : ℕ
  pub state : State
  pub lent : Lent
  pub buffer : List ℕ

abbrev pub standing : ℕ → State → Lent → List ℕ → Standing
standing answer state lent buffer = record { answer = answer; state = state; lent = lent; buffer = buffer }

-- The bytes that were written: as many of the buffer's first as the answer says.
abbrev pub bytes_of : Written → List ℕ
bytes_of w = take (w.answer - 2 ^ 32) w.buffer

abbrev pub after : Result → (buffer : List ℕ) → Standing
after R buffer = standing (number_of R.answer) R.state R.lent buffer

-- The receiver takes the reply, if there is one.
unfoldable pub taken : State → Lent → (reply : Written) → Standing
taken s m reply =
    cond (ltb reply.answer (2 ^ 32)) (standing reply.answer s m reply.buffer) (after (take_message s m (bytes_of reply)) reply.buffer)

-- The sender replies to the query, if there is one.
unfoldable pub answered : Settings → (sender : Lent) → State → Lent → (buffer : List ℕ) → (query : Written) → Standing
answered σ sender s m buffer query =
    cond (ltb query.answer (2 ^ 32)) (standing query.answer s m buffer) (taken s m (reply σ sender (bytes_of query) buffer))

-- One round: the query is written into 24 bytes, which hold either of them.
unfoldable pub round : Settings → (sender : Lent) → State → Lent → (buffer : List ℕ) → Standing
round σ sender s m buffer = answered σ sender s m buffer (write_query s m (replicate 24 0))

-- So many rounds at most, while they answer 0.
unfoldable pub rounds : (budget : ℕ) → Settings → (sender : Lent) → Standing → Standing
rounds zero σ sender now = now
rounds (suc budget) σ sender now =
    cond (eqb now.answer 0) (rounds budget σ sender (round σ sender now.state now.lent now.buffer)) now

-- Questions 1 to 8 of an end's setup, and what it leaves of what the end is lent.
unfoldable pub refused_at : Settings → Lent → ℕ
refused_at σ m = setup_refusal σ m.string true m.nodes m.shingles m.cells

unfoldable pub filled : Settings → Lent → Lent
filled σ m =
    lent m.string
    (setup_table (refused_at σ m) (node_front σ m.string) m.nodes)
    (setup_table (refused_at σ m) (shingle_front σ m.string) m.shingles)
    (setup_table (refused_at σ m) (cell_front σ m.string) m.cells)
    m.output

-- How a session ends: its answer, and what it leaves of what the receiver is lent and of the sender's buffer.
pub record Ending : Type 0 where
  pub answer : ℕ
  pub lent : Lent
  pub buffer : List ℕ

abbrev pub ending : ℕ → Lent → List ℕ → Ending
ending answer lent buffer = record { answer = answer; lent = lent; buffer = buffer }

abbrev pub end_of : Standing → Ending
end_of now = ending now.answer now.lent now.buffer

-- A whole session of so many rounds at most: the sender is set up, then the receiver, with session number n, and they exchange messages.
unfoldable pub session_between : (budget : ℕ) → Settings → (n : ℕ) → (sender receiver : Lent) → (buffer : List ℕ) → Ending
session_between budget σ n sender receiver buffer =
    cond (eqb (refused_at σ sender) 0)
    (cond (eqb (refused_at σ receiver) 0)
    (end_of (rounds budget σ (filled σ sender) (standing 0 (initial σ n) (filled σ receiver) buffer)))
    (ending (refused_at σ receiver) (filled σ receiver) buffer))
    (ending (refused_at σ sender) receiver buffer)
