-- "the two lists are any that keep document 01's limits: levels 0 to L, counts 1 to 4,096, at most 4,096 shingles, no pair twice at one level"
use Rattle.std.specs.Prelude.{true, List, ◌≡◌, ℕ, ◌^◌, ◌≤◌, ◌<◌, length}
use Rattle.shingle.specs.declared.Shingle.{Shingle}
use Rattle.shingle.specs.Table.{holds}
use Rattle.sketch.specs.Opening.{no_pair_twice}

-- "levels 0 to L, counts 1 to 4,096"; "both ids, 8 bytes each".
pub record Limited (levels : ℕ) (s : Shingle) : Type 0 where
  pub previous_id : s.previous < 2 ^ 64
  pub own_id : s.own < 2 ^ 64
  pub level_high : s.level ≤ levels
  pub count_low : 1 ≤ s.count
  pub count_high : s.count ≤ 4096

-- Such a list, in any order.
pub record Listable (levels : ℕ) (ss : List Shingle) : Type 0 where
  pub each : (s : Shingle) → holds s ss ≡ true → Limited levels s
  pub few : length ss ≤ 4096
  pub once : no_pair_twice ss ≡ true

-- The lists of two ends. Of document 01's "q 1 to 64" and "L 1 to 4" less is asked: that there are cells, and that a tail is below 2^32.
pub record Lists (q levels : ℕ) (theirs own : List Shingle) : Type 0 where
  pub some : 1 ≤ q
  pub low : levels ≤ 4
  pub sender : Listable levels theirs
  pub receiver : Listable levels own
