-- A whole session between two ends that are both at hand: it goes through.
use Rattle.std.specs.Prelude.{List, ◌≡◌, ℕ, ◌+◌, ◌*◌, ◌/◌, ◌^◌, ◌≤◌, length, take}
use Rattle.tree.specs.declared.Settings.{Settings}
use Rattle.protocol.specs.Lent.{Lent}
use Rattle.protocol.specs.Demand.{SetupAccepts, Ends}
use Rattle.session.specs.Session.{session_between}
use Rattle.session.specs.Calls.{Ran}

-- What a session relies on: both setups are accepted, demand 3's conditions hold of the two ends, and the buffer holds every reply. An opening
-- has 12 words and 45 for each of the width; a literal, of the whole string at most, has 6 and one for every three bytes; no other is longer.
pub record Ready (σ : Settings) (sender receiver : Lent) (buffer : List ℕ) : Type 0 where
  pub sender_accepted : SetupAccepts σ sender
  pub receiver_accepted : SetupAccepts σ receiver
  pub ends : Ends σ receiver sender.string
  pub opening_fits : (12 + 45 * σ.width) * 4 ≤ length buffer
  pub literal_fits : (6 + (length sender.string + 2) / 3) * 4 ≤ length buffer

-- The string stands at the front of the output, and the answer is 2^32 and its length.
pub record HandedOver (string : List ℕ) (answer : ℕ) (output : List ℕ) : Type 0 where
  pub length_is : answer ≡ 2 ^ 32 + length string
  pub bytes_are : take (length string) output ≡ string

-- Then the sender's string is handed over: 4,097 rounds are enough.
abbrev pub GoesThrough : Type 0
GoesThrough =
    (σ : Settings) (n : ℕ) (sender receiver : Lent) (buffer : List ℕ) → Ready σ sender receiver buffer
    → HandedOver sender.string (session_between 4097 σ n sender receiver buffer).answer (session_between 4097 σ n sender receiver buffer).lent.output

-- The same of what `session::run` answers and leaves, by its promise.
abbrev pub RunGoesThrough : Type 0
RunGoesThrough =
    (σ : Settings) (n : ℕ) (sender sender' receiver receiver' : Lent) (buffer buffer' : List ℕ) (r : ℕ) → Ready σ sender receiver buffer
    → Ran σ n sender sender' receiver receiver' buffer buffer' r → HandedOver sender.string r receiver'.output
