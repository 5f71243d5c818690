-- What the search for the cuts of a block answers.
use Rattle.std.specs.Prelude.{List, ◌≡◌, ℕ, ◌-◌, ◌≤◌, length, take, drop, replicate}
use Rattle.partition.specs.Cuts.{cuts_of}

-- The first n numbers of `at`, which has 32 places, are the cuts, and the others are 0; there are at most 31 cuts.
pub record Found (w h s : ℕ) (bytes : List ℕ) (n : ℕ) (at : List ℕ) : Type 0 where
  pub cuts : take n at ≡ cuts_of w h s bytes
  pub few : n ≤ 31
  pub places : length at ≡ 32
  pub rest : drop n at ≡ replicate (32 - n) 0
