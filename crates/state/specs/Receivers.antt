-- The state that a receiver's struct stands for, and the struct that a state is kept in.
use Rattle.std.specs.Prelude.{Bool, ◌&&◌, List, [], ◌∷◌, ◌≡◌, ℕ, zero, suc, ◌+◌, ◌^◌, leb, length, replicate, set, Result, Ok, Err}
use Rattle.tree.specs.declared.Settings.{Settings}
use Rattle.copying.specs.declared.Waiting.{Waiting}
use Rattle.copying.specs.Copying.{pile_of}
use Rattle.protocol.specs.State.{Pending, Phase, unopened, opened, ended, State, initial, live, shallow}
use Rattle.refusal.specs.declared.Refusal.{Refusal}
use Rattle.refusal.specs.Answer.{number_of}
use Rattle.state.specs.declared.Receiver.{Receiver}
use Rattle.state.specs.declared.Progress.{Progress}
use Rattle.state.specs.declared.Progress.TheVariants.{Going, HandedOver}

-- The phase of a number: 0, 1, or any other.
unfoldable pub phase_of : ℕ → Phase
phase_of zero = unopened
phase_of (suc zero) = opened
phase_of (suc (suc more)) = ended

-- The state that a struct stands for, whatever its numbers are. With more pending nodes than places the missing ones are zero entries,
-- and such a state is not running.
unfoldable pub state_of : Receiver → State
state_of r =
    record {
      settings = r.settings;
      session = r.session;
      phase = phase_of r.phase;
      size = r.size;
      root = r.root;
      built = r.built;
      taken = r.taken;
      pile = pile_of r.waiting r.pile;
    }

-- "the pending pile begins as a repeated zero entry of 128 places inside the receiver's state"
abbrev pub empty_pile : List Waiting
empty_pile = replicate 128 (record { level = 0; id = 0 })

-- A struct in which nothing is pending.
abbrev pub idle : Settings → (session phase : ℕ) → Receiver
idle σ n phase =
    record { settings = σ; session = n; phase = phase; size = 0; root = 0; built = 0; taken = 0; waiting = 0; pile = empty_pile }

-- The number of a phase.
unfoldable pub phase_number : Phase → ℕ
phase_number unopened = 0
phase_number opened = 1
phase_number ended = 2

-- The 128 places of a pile: its bottom is in the first, and above its top all are zero entries. Nodes above the 128th have no place.
unfoldable pub places_of : List Pending → List Waiting
places_of [] = empty_pile
places_of (top ∷ rest) = set (places_of rest) (length rest) (record { level = top.level; id = top.id })

-- The struct that a state is kept in: the same for equal states, to the last place.
unfoldable pub receiver_of : State → Receiver
receiver_of s =
    record {
      settings = s.settings;
      session = s.session;
      phase = phase_number s.phase;
      size = s.size;
      root = s.root;
      built = s.built;
      taken = s.taken;
      waiting = length s.pile;
      pile = places_of s.pile;
    }

-- The state of zeros, which stands where there is none. Question 1 refuses its window of 0.
abbrev pub zeros : State
zeros = initial (record { window = 0; fan_out = 0; levels = 0; nominal = 0; width = 0 }) 0

-- What starting, going on and ending promise: a struct is the one that a state is kept in, and stands for that state.
pub record Holds (s : State) (r : Receiver) : Type 0 where
  pub whole : r ≡ receiver_of s
  pub state : state_of r ≡ s

-- Question 9, of a state's numbers and places.
unfoldable pub runs : (levels phase waiting : ℕ) → List Waiting → Bool
runs levels phase waiting places =
    live (phase_of phase) (pile_of waiting places) && (leb (length (pile_of waiting places)) 128 && shallow levels (pile_of waiting places))

-- An answer in numbers: 0 while the session goes on, 2^32 and the length of a string that is handed over, or the number of the question
-- that refuses.
abbrev pub progress_number : Result Progress Refusal → ℕ
progress_number (Ok Going) = 0
progress_number (Ok (HandedOver size)) = 2 ^ 32 + size
progress_number (Err question) = number_of question
