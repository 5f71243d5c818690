-- The receiver's state in lent bytes: 268 rows of 64 bits, most significant byte first.
use Rattle.std.specs.Prelude.{cond, List, [], ◌∷◌, ◌++◌, ◌≡◌, ℕ, zero, suc, ◌+◌, ◌*◌, ◌≤◌, ◌<◌, leb, length, get_or, drop}
use Rattle.tree.specs.declared.Settings.{Settings}
use Rattle.copying.specs.declared.Waiting.{Waiting}
use Rattle.rows.specs.Rows.{words_of}
use Rattle.sketch.specs.Sums.{row_bytes}
use Rattle.state.specs.declared.Receiver.{Receiver}
use Rattle.state.specs.Receivers.{receiver_of, zeros}

-- Window, fan-out, levels, nominal length and width, from the first five rows.
unfoldable pub settings_from : List ℕ → Settings
settings_from rows =
    record { window = get_or rows 0 0; fan_out = get_or rows 1 0; levels = get_or rows 2 0; nominal = get_or rows 3 0; width = get_or rows 4 0 }

-- Level and id of a place, from the rows after the first twelve.
abbrev pub place_at : List ℕ → ℕ → Waiting
place_at rows k = record { level = get_or rows (12 + k * 2) 0; id = get_or rows (13 + k * 2) 0 }

-- So many places, from place k on.
unfoldable pub places_from : List ℕ → (count k : ℕ) → List Waiting
places_from rows zero k = []
places_from rows (suc count) k = place_at rows k ∷ places_from rows count (suc k)

-- The state that rows say, whatever they are.
unfoldable pub state_from : List ℕ → Receiver
state_from rows =
    record {
      settings = settings_from rows;
      session = get_or rows 5 0;
      phase = get_or rows 6 0;
      size = get_or rows 7 0;
      root = get_or rows 8 0;
      built = get_or rows 9 0;
      taken = get_or rows 10 0;
      waiting = get_or rows 11 0;
      pile = places_from rows 128 0;
    }

-- The state that bytes hold. Fewer than 2,144 hold the state of zeros.
unfoldable pub state_in : List ℕ → Receiver
state_in bytes =
    cond (leb 2144 (length bytes)) (state_from (words_of bytes)) (receiver_of zeros)

-- The rows of a state.
unfoldable pub place_rows : List Waiting → List ℕ
place_rows [] = []
place_rows (w ∷ ws) = w.level ∷ w.id ∷ place_rows ws

unfoldable pub head_rows : Receiver → List ℕ
head_rows s =
    s.settings.window
    ∷ s.settings.fan_out
    ∷ s.settings.levels
    ∷ s.settings.nominal
    ∷ s.settings.width
    ∷ s.session
    ∷ s.phase
    ∷ s.size
    ∷ s.root
    ∷ s.built
    ∷ s.taken
    ∷ s.waiting
    ∷ []

unfoldable pub state_rows : Receiver → List ℕ
state_rows s = head_rows s ++ place_rows s.pile

-- Rows stand at the front of bytes, and what is behind them is as before; said of the bytes and of the rows.
pub record Rowed (before after rows : List ℕ) : Type 0 where
  pub bytes : after ≡ row_bytes rows ++ drop (length rows * 8) before
  pub words : words_of after ≡ rows ++ drop (length rows) (words_of before)

-- What storing promises: every byte, and that the bytes then hold the state.
pub record Stores (before after : List ℕ) (s : Receiver) : Type 0 where
  pub short : length before < 2144 → after ≡ before
  pub bytes : 2144 ≤ length before → after ≡ row_bytes (state_rows s) ++ drop 2144 before
  pub held : 2144 ≤ length before → state_in after ≡ s
