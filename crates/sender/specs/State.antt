-- A sender's state is its settings, in lent bytes: five rows of 64 bits, most significant byte first.
use Rattle.std.specs.Prelude.{cond, List, [], ◌∷◌, ◌++◌, ◌≡◌, ℕ, eqb, leb, length, get_or, drop}
use Rattle.rows.specs.Rows.{words_of}
use Rattle.tree.specs.declared.Settings.{Settings}
use Rattle.sketch.specs.Sums.{row_bytes}
use Rattle.setup.specs.Questions.{setup_refusal}
use Rattle.setup.specs.Tables.{SetUp}

-- "window w, fan-out p, levels L, nominal length M, sketch width q"
unfoldable pub settings_rows : Settings → List ℕ
settings_rows σ = σ.window ∷ σ.fan_out ∷ σ.levels ∷ σ.nominal ∷ σ.width ∷ []

-- The settings that a state holds; a row that it lacks is 0.
abbrev pub settings_in : List ℕ → Settings
settings_in state =
    record {
      window = get_or (words_of state) 0 0;
      fan_out = get_or (words_of state) 1 0;
      levels = get_or (words_of state) 2 0;
      nominal = get_or (words_of state) 3 0;
      width = get_or (words_of state) 4 0;
    }

-- The state after setup: a yes writes the settings in front and leaves the bytes after them. By a no "No state is made", at 8 too.
unfoldable pub state_after : (refused : ℕ) → Settings → List ℕ → List ℕ
state_after refused σ state = cond (eqb refused 0) (row_bytes (settings_rows σ) ++ drop 40 state) state

-- What setting a sender up promises: as for the tables, where 7 asks for a state of 40 bytes too, and every byte of the state.
pub record SenderSetUp (σ : Settings) (string nodes nodes' shingles shingles' cells cells' state state' : List ℕ) (r : ℕ) : Type 0 where
  pub tables : SetUp σ string (leb 40 (length state)) nodes nodes' shingles shingles' cells cells' r
  pub state_is : state' ≡ state_after (setup_refusal σ string (leb 40 (length state)) nodes shingles cells) σ state
