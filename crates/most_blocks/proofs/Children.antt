-- Every cutting of a tree is one that the call answers for: its numbers pass question 24, and a node has no more children than the answer says.
use mathlib.Core.Bool.{true}
use mathlib.Core.List.{List}
use mathlib.Core.Path.{◌≡◌}
use Prim.Native.Nat.{ℕ, ◌*◌, ◌^◌, ◌≤◌}
use native.Mathlib.Decide.{dec_le}
use native.Mathlib.Nat.{le_trans, pow-le-pow_left, pow-le-pow_right, le-div_iff_mul-le}
use native.Mathlib.Omega.{arith}
use borrow.Author.Tests.{le-leb}
use lib.ListN.{length}
use Rattle.tree.specs.declared.Settings.{Settings}
use Rattle.tree.specs.Questions.{spacing, refusal}
use Rattle.tree.specs.Tree.{children_of}
use Rattle.tree.specs.Bounds.{Granted}
use Rattle.tree.proofs.Powers.{power_positive}
use Rattle.tree.proofs.Questions.{granted}
use Rattle.most_blocks.specs.Most.{most_blocks_of, in_range}
use Rattle.most_blocks.proofs.Bounded.{blocks_bounded}
use Rattle.most_blocks.proofs.Long.{spacing_some}

module _ (σ : Settings) (l : ℕ) (high : l ≤ σ.levels) where
  pub children_bounded : Granted σ → (bytes : List ℕ) → length (children_of σ l bytes) ≤ most_blocks_of (length bytes) σ.window (spacing σ l)
  unfolding children_of
  children_bounded g bytes = blocks_bounded _ _ _ bytes (spacing_some σ g high)

  -- A level's distance is at most half of the longest nominal length.
  spacing_small : Granted σ → 1 ≤ l → spacing σ l ≤ 32768
  spacing_small g low = at (dec_le (spacing σ l) 32768)
    where
      some : 1 ≤ σ.fan_out
      some = omega (arith, g.fan_out_low)

      halved : 2 ≤ σ.fan_out ^ l
      halved = le_trans (pow-le-pow_right {n = 2} (omega arith) low) (pow-le-pow_left g.fan_out_low l)

      at : Dec (spacing σ l ≤ 32768) → spacing σ l ≤ 32768
      at (yes small) = small
      at (no large) =
          let fits : 32769 * σ.fan_out ^ l ≤ σ.nominal = (le-div_iff_mul-le (power_positive l some)).0 (omega arith) in
          absurd (omega (arith, g.nominal_high, halved))

  pub cutting_in_range : (n : ℕ) → refusal σ n ≡ 0 → 1 ≤ l → in_range n σ.window (spacing σ l) ≡ true
  cutting_in_range n passes low =
      let given = granted σ n passes in
      let g = given.0 in
      rw (
        le-leb 2 σ.window g.window_low,
        le-leb σ.window 12 g.window_high,
        le-leb 1 (spacing σ l) (spacing_some σ g high),
        le-leb (spacing σ l) 32768 (spacing_small g low),
        le-leb n 65536 given.1,
      )
