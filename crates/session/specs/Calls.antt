-- What the calls of a session promise: answer, state and every byte of what is lent, refusals included. What each end is lent, `theirs` the
-- sender's and `ours` the receiver's, is a record of crate `protocol`; a sender has no output.
use Rattle.std.specs.Prelude.{List, ◌≡◌, ℕ}
use Rattle.tree.specs.declared.Settings.{Settings}
use Rattle.protocol.specs.Lent.{Lent}
use Rattle.state.specs.declared.Receiver.{Receiver}
use Rattle.state.specs.declared.Taken.{Taken}
use Rattle.state.specs.Receivers.{state_of, progress_number}
use Rattle.session.specs.Session.{Standing, standing, round, rounds, filled, Ending, end_of, session_between}

-- What a round answers and leaves is where the session stands.
pub record Stands (now : Standing) (ours : Lent) (buffer : List ℕ) (r : Taken) : Type 0 where
  pub answer : progress_number r.answer ≡ now.answer
  pub state : state_of r.state ≡ now.state
  pub memory : ours ≡ now.lent
  pub buffer_is : buffer ≡ now.buffer

pub record Exchanged (σ : Settings) (s : Receiver) (theirs ours ours' : Lent) (buffer buffer' : List ℕ) (r : Taken) : Type 0 where
  pub stands : Stands (round σ theirs (state_of s) ours buffer) ours' buffer' r

-- What a session answers and leaves is how it ends.
pub record Ends (end : Ending) (ours : Lent) (buffer : List ℕ) (r : ℕ) : Type 0 where
  pub answer : r ≡ end.answer
  pub memory : ours ≡ end.lent
  pub buffer_is : buffer ≡ end.buffer

-- 4,097 rounds: the opening's, and one for each of the 4,096 node replies that question 15 allows.
pub record ExchangedAll (σ : Settings) (s : Receiver) (theirs ours ours' : Lent) (buffer buffer' : List ℕ) (r : ℕ) : Type 0 where
  pub ends : Ends (end_of (rounds 4097 σ theirs (standing 0 (state_of s) ours buffer))) ours' buffer' r

-- A whole session with session number n, from the lent memory as it comes.
pub record Ran (σ : Settings) (n : ℕ) (theirs theirs' ours ours' : Lent) (buffer buffer' : List ℕ) (r : ℕ) : Type 0 where
  pub sender : theirs' ≡ filled σ theirs
  pub receiver : Ends (session_between 4097 σ n theirs ours buffer) ours' buffer' r
