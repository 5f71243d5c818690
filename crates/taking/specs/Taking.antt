-- What taking a message promises: what crate `protocol` defines, for every state, table, message and buffer.
use Rattle.std.specs.Prelude.{Bool, cond, List, ◌≡◌, ℕ}
use Rattle.tree.specs.Questions.{within}
use Rattle.protocol.specs.Lent.{lent}
use Rattle.protocol.specs.Receiver.{Result, number_of, take_message}
use Rattle.state.specs.declared.Receiver.{Receiver}
use Rattle.state.specs.declared.Taken.{Taken}
use Rattle.state.specs.Receivers.{state_of, receiver_of, progress_number}

-- Refused by 1 to 7, "a no changes nothing", or by 9 to 11, "A no at 9 to 11 changes no state and no buffer".
abbrev pub unmoved : Result → Bool
unmoved R = within 1 11 (number_of R.answer)

-- The struct after a call: the one that the result's state is kept in, or, where nothing changes, as it was.
unfoldable pub struct_after : Result → Receiver → Receiver
struct_after R s = cond (unmoved R) s (receiver_of R.state)

-- What a call answers and leaves is what a result of crate `protocol` says.
pub record Gives (s : Receiver) (R : Result) (string nodes shingles cells output : List ℕ) (r : Taken) : Type 0 where
  pub answer : progress_number r.answer ≡ number_of R.answer
  pub whole : r.state ≡ struct_after R s
  pub state : state_of r.state ≡ R.state
  pub memory : R.lent ≡ lent string nodes shingles cells output

-- Taking a message: answer, state, shingle table and every byte of the output.
pub record Takes (s : Receiver) (string nodes shingles shingles' cells message output output' : List ℕ) (r : Taken) : Type 0 where
  pub gives : Gives s (take_message (state_of s) (lent string nodes shingles cells output) message) string nodes shingles' cells output' r
