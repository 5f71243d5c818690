-- The receiver's calls, said of a state in lent bytes: what crate `protocol` defines, of the state that the bytes hold.
use Rattle.std.specs.Prelude.{cond, List, ◌++◌, ◌≡◌, ℕ, eqb, leb, length, drop}
use Rattle.tree.specs.declared.Settings.{Settings}
use Rattle.sketch.specs.Sums.{row_bytes}
use Rattle.setup.specs.Questions.{setup_refusal}
use Rattle.setup.specs.Tables.{SetUp}
use Rattle.protocol.specs.Lent.{lent}
use Rattle.protocol.specs.State.{State, initial}
use Rattle.protocol.specs.Receiver.{Result, number_of, take_message}
use Rattle.state.specs.Receivers.{state_of, receiver_of}
use Rattle.state_bytes.specs.Bytes.{state_in, state_rows}
use Rattle.taking.specs.Taking.{unmoved}

-- The state that bytes hold: every call's promise goes through it.
abbrev pub decode : List ℕ → State
decode bytes = state_of (state_in bytes)

-- Bytes with a state kept in front; those after it are untouched.
abbrev pub keeping : State → List ℕ → List ℕ
keeping s bytes = row_bytes (state_rows (receiver_of s)) ++ drop 2144 bytes

-- The bytes after setup: a yes writes the new state. By a no "No state is made", at 8 too.
unfoldable pub bytes_after : (refused : ℕ) → Settings → (session : ℕ) → List ℕ → List ℕ
bytes_after refused σ n state = cond (eqb refused 0) (keeping (initial σ n) state) state

pub record HeldSetUp (σ : Settings) (session : ℕ) (string nodes nodes' shingles shingles' cells cells' state state' : List ℕ) (r : ℕ) : Type 0 where
  pub tables : SetUp σ string (leb 2144 (length state)) nodes nodes' shingles shingles' cells cells' r
  pub state_is : state' ≡ bytes_after (setup_refusal σ string (leb 2144 (length state)) nodes shingles cells) σ session state
  pub held : setup_refusal σ string (leb 2144 (length state)) nodes shingles cells ≡ 0 → decode state' ≡ initial σ session

-- The bytes after taking a message: the result's state, or, where nothing changes, as they were.
unfoldable pub state_after : Result → List ℕ → List ℕ
state_after R state = cond (unmoved R) state (keeping R.state state)

-- A call answers and leaves what a result says. Every byte of the state is determined, and the bytes then hold the result's state.
pub record Leaves (R : Result) (string nodes shingles cells output state state' : List ℕ) (r : ℕ) : Type 0 where
  pub answer : r ≡ number_of R.answer
  pub bytes_are : state' ≡ state_after R state
  pub state_is : decode state' ≡ R.state
  pub memory : R.lent ≡ lent string nodes shingles cells output

-- Taking a message: answer, shingle table, every byte of the output and of the state.
pub record HeldTakes (state state' string nodes shingles shingles' cells message output output' : List ℕ) (r : ℕ) : Type 0 where
  pub leaves : Leaves (take_message (decode state) (lent string nodes shingles cells output) message) string nodes shingles' cells output' state state' r
