-- How taking a message leaves the session: over by a question's no, or with own nodes copied, going on or over.
use Rattle.std.specs.Prelude.{List, ◌≡◌, ℕ, ◌^◌, ◌≤◌, ◌<◌, length, drop, replicate}
use Rattle.protocol.specs.Lent.{Lent, with_output, with_shingles}
use Rattle.protocol.specs.State.{over}
use Rattle.protocol.specs.Receiver.{Result, number_of, conclude}
use Rattle.copying.specs.declared.Waiting.{Waiting}
use Rattle.copying.specs.Copying.{settled_from}
use Rattle.state.specs.declared.Receiver.{Receiver}
use Rattle.state.specs.declared.Taken.{Taken}
use Rattle.state.specs.Receivers.{state_of, progress_number, Holds}

-- A question's no: the session is over, and the output is zero.
pub record Ended (s : Receiver) (question : ℕ) (before after : List ℕ) (r : Taken) : Type 0 where
  pub answer : progress_number r.answer ≡ question
  pub state : Holds (over (state_of s)) r.state
  pub zeros : after ≡ replicate (length before) 0

-- What concluding comes to, for memory m and a shingle table that an accepted message leaves.
pub record Concludes (R : Result) (m : Lent) (table after : List ℕ) (r : Taken) : Type 0 where
  pub answer : progress_number r.answer ≡ number_of R.answer
  pub state : Holds R.state r.state
  pub refused : 0 < progress_number r.answer → progress_number r.answer < 2 ^ 32 → R.lent ≡ with_output m after
  pub going : progress_number r.answer ≡ 0 → R.lent ≡ with_shingles (with_output m after) table
  pub handed : 2 ^ 32 ≤ progress_number r.answer → R.lent ≡ with_shingles (with_output m after) table

-- Bytes may have been put in front of place `built` before.
pub record Advanced (s : Receiver) (size root taken : ℕ) (string nodes before after : List ℕ) (built waiting : ℕ) (places : List Waiting) (r : Taken) : Type 0
  where
    pub apart : 0 < progress_number r.answer → 18 ≤ progress_number r.answer
    pub small : progress_number r.answer < 2 ^ 32 → progress_number r.answer ≤ 19
    pub gives : (m : Lent) (table : List ℕ) → drop built before ≡ drop built m.output → length before ≡ length m.output
        → Concludes (conclude (state_of s) m table size root taken (settled_from string nodes size before built waiting places)) m table after r
