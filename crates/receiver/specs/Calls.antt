-- What setting a receiver up and writing its query promise: what crate `protocol` defines, for every state, table and buffer.
use Rattle.std.specs.Prelude.{true, List, ◌≡◌, ℕ, ◌+◌, ◌^◌, Result, Ok, Err}
use Rattle.tree.specs.declared.Settings.{Settings}
use Rattle.setup.specs.Tables.{SetUp}
use Rattle.protocol.specs.Lent.{lent}
use Rattle.protocol.specs.State.{initial}
use Rattle.protocol.specs.Receiver.{write_query}
use Rattle.refusal.specs.declared.Refusal.{Refusal}
use Rattle.refusal.specs.Answer.{number_of}
use Rattle.state.specs.declared.Receiver.{Receiver}
use Rattle.state.specs.Receivers.{state_of, receiver_of}
use Rattle.receiver.specs.declared.Ready.{Ready}

-- A yes: the tables, and the state that setup makes: "A receiver is set up with a session number, taken modulo 2^24".
pub record Starts (σ : Settings) (session : ℕ) (string nodes nodes' shingles shingles' cells cells' : List ℕ) (r : Ready) : Type 0 where
  pub tables : SetUp σ string true nodes nodes' shingles shingles' cells cells' (2 ^ 32 + r.nodes)
  pub state_is : r.state ≡ receiver_of (initial σ session)

-- Setting up: by a no "No state is made", and the tables are as that question leaves them.
abbrev pub ReceiverSetUp : Settings → (session : ℕ) (string nodes nodes' shingles shingles' cells cells' : List ℕ) → Result Ready Refusal → Type 0
ReceiverSetUp σ session string nodes nodes' shingles shingles' cells cells' (Ok ready) =
    Starts σ session string nodes nodes' shingles shingles' cells cells' ready
ReceiverSetUp σ session string nodes nodes' shingles shingles' cells cells' (Err question) =
    SetUp σ string true nodes nodes' shingles shingles' cells cells' (number_of question)

-- Writing the query: the answer and every byte of the buffer. No output is lent, and none is asked for.
pub record Asked (s : Receiver) (string nodes shingles cells before after : List ℕ) (r : ℕ) : Type 0 where
  pub answer_is : (output : List ℕ) → r ≡ (write_query (state_of s) (lent string nodes shingles cells output) before).answer
  pub buffer_is : (output : List ℕ) → after ≡ (write_query (state_of s) (lent string nodes shingles cells output) before).buffer
