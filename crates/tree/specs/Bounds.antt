-- What the crate's own functions rely on between each other: bounds that hold once the questions are answered.
use Rattle.std.specs.Prelude.{List, ◌≡◌, ℕ, ◌+◌, ◌^◌, ◌≤◌, ◌<◌, leb, length, take, drop}
use Rattle.partition.specs.Apart.{Apart}
use Rattle.tree.specs.declared.Settings.{Settings}
use Rattle.tree.specs.Questions.{within, ask}

-- Questions 1 to 3, and then `next`.
abbrev pub shape_refusal : ℕ → ℕ → ℕ → ℕ → ℕ
shape_refusal w p levels next = ask (within 2 12 w) 1 (ask (within 2 8 p) 2 (ask (within 1 4 levels) 3 next))

-- Questions 4 to 6, where the least nominal length is known.
abbrev pub size_refusal : ℕ → ℕ → ℕ → ℕ → ℕ
size_refusal least nominal width n = ask (within least 65536 nominal) 4 (ask (within 1 64 width) 5 (ask (leb n 65536) 6 0))

-- A power, with bounds for what is worked out with it.
pub record Power (base exponent r : ℕ) : Type 0 where
  pub is : r ≡ base ^ exponent
  pub positive : 0 < r
  pub small : r ≤ 4096

-- Settings that pass questions 1 to 4.
pub record Granted (σ : Settings) : Type 0 where
  pub window_low : 2 ≤ σ.window
  pub window_high : σ.window ≤ 12
  pub fan_out_low : 2 ≤ σ.fan_out
  pub fan_out_high : σ.fan_out ≤ 8
  pub levels_low : 1 ≤ σ.levels
  pub levels_high : σ.levels ≤ 4
  pub nominal_low : σ.fan_out ^ σ.levels ≤ σ.nominal
  pub nominal_high : σ.nominal ≤ 65536

-- A node of so many bytes is to be cut: it lies inside a string, and the table has room for 4,096 entries.
pub record Cutting (σ : Settings) (left level start size places used : ℕ) : Type 0 where
  pub settings : Granted σ
  pub depth : level + left ≡ σ.levels
  pub inside : start + size ≤ 65536
  pub room : places ≡ 65536
  pub within : used ≤ 4096

-- The children of a node are to be walked, from number `child` on, which starts at the node's byte `from`: `at` has the n
-- places where they part.
pub record Walking (σ : Settings) (left level start size : ℕ) (at : List ℕ) (n child from places used : ℕ) : Type 0 where
  pub node : Cutting σ left level start size places used
  pub slots : length at ≡ 32
  pub few : n ≤ 31
  pub counted : child ≤ n
  pub begun : from ≤ size
  pub parted : Apart 0 from (drop child (take n at)) size
