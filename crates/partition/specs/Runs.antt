-- Runs of equal bytes. No public contract cites these.
use Rattle.std.specs.Prelude.{List, ◌≡◌, ℕ, ◌-◌, ◌≤◌, ◌<◌, get_or}

-- The bytes from `from` up to `to` are equal.
pub record EqualBytes (bytes : List ℕ) (from to : ℕ) : Type 0 where
  pub some : from ≤ to
  pub same : (j : ℕ) → from ≤ j → j < to → get_or bytes j 0 ≡ get_or bytes from 0

-- The values from `from` up to `to` are that just before them. Where there are any, h is not 0.
pub record Level (h : ℕ) (v : ℕ → ℕ) (from to : ℕ) : Type 0 where
  pub low : from ≤ to
  pub near : from < to → 1 ≤ h
  pub same : (j : ℕ) → from ≤ j → j < to → v j ≡ v (from - 1)
