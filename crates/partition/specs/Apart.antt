-- How cuts lie: words for the laws that callers cite.
use Rattle.std.specs.Prelude.{List, [], ◌∷◌, ℕ, ◌+◌, ◌≤◌}

-- `Apart d from cuts to`: the first cut is at `from` or after it, each next one at least d further, and each at least d before `to`.
-- So with d = 0 they rise and lie within, and with d = 1 they rise strictly and lie inside.
pub data Apart (d : ℕ) : ℕ → List ℕ → ℕ → Type 0 where
  none : {from to : ℕ} → Apart d from [] to
  cut : {from to c : ℕ} {cs : List ℕ} → from ≤ c → c + d ≤ to → Apart d (c + d) cs to → Apart d from (c ∷ cs) to
