-- What the search and its scans promise, the scans over any values v : ℕ → ℕ. No public contract cites these.
use Rattle.std.specs.Prelude.{Bool, true, false, List, ◌≡◌, ℕ, ◌+◌, ◌-◌, ◌≤◌, ◌<◌, max}
use Rattle.partition.specs.Cuts.{value_at, candidate}

-- The value at i is smaller than each of the d before it and not greater than the d after it.
pub record Low (v : ℕ → ℕ) (d i : ℕ) : Type 0 where
  pub before : (j : ℕ) → i ≤ j + d → j < i → v i < v j
  pub after : (j : ℕ) → i ≤ j → j ≤ i + d → v i ≤ v j

-- No value of the h positions before a is below m.
pub record Floor (v : ℕ → ℕ) (h m a : ℕ) : Type 0 where
  pub before : (j : ℕ) → a ≤ j + h → j < a → m ≤ v j

-- r is one past the last of the positions from `from` up to `to` with a value of at most m, or `from` if there is none.
pub record AfterLastLow (v : ℕ → ℕ) (m from to r : ℕ) : Type 0 where
  pub low : from ≤ r
  pub high : r ≤ max from to
  pub after : (j : ℕ) → r ≤ j → j < to → m < v j
  pub found : from < r → v (r - 1) ≤ m

-- The value m at p is below all from `from` up to p, and if p lies before `end` it is not above any of the h after p. No position before p is low.
pub record FirstLow (v : ℕ → ℕ) (h from end p m : ℕ) : Type 0 where
  pub value : m ≡ v p
  pub low : from ≤ p
  pub barred : (j : ℕ) → from ≤ j → j < p → Low v h j → ⊥
  pub falls : (j : ℕ) → from ≤ j → j < p → v p < v j
  pub after : p < end → (j : ℕ) → p ≤ j → j ≤ p + h → v p ≤ v j

-- r is the first of the positions from `from` up to `to` that passes the test, or `to` if none does.
pub record FirstPassing (test : ℕ → Bool) (from to r : ℕ) : Type 0 where
  pub low : from ≤ r
  pub high : r ≤ to
  pub before : (j : ℕ) → from ≤ j → j < r → test j ≡ false
  pub found : r < to → test r ≡ true

-- p is the first candidate from `from` up to `end` and m its value, or p is `end`.
pub record NextCandidate (w h s : ℕ) (bytes : List ℕ) (from end p m : ℕ) : Type 0 where
  pub first : FirstPassing (candidate w h s bytes) from end p
  pub value : p < end → m ≡ value_at w s bytes p
