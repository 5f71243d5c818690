-- A run of equal bytes has no cut: its values are equal, and a candidate's is smaller than the one before.
use mathlib.Core.Bool.{false}
use mathlib.Core.List.{List, []}
use mathlib.Core.Path.{◌≡◌, refl, ap, ◌∙◌}
use Prim.Native.Nat.{ℕ, ◌+◌, ◌-◌, ◌%◌, ◌≤◌}
use native.Mathlib.Omega.{arith}
use lib.ListN.{length, take, replicate, length-replicate, get_or-replicate}
use lib.Seq.{take-nil}
use Rattle.spread.specs.Spreading.{spread_of}
use Rattle.partition.specs.Cuts.{number_from, value_at, candidate, cuts_of}
use Rattle.partition.specs.Blocks.{blocks_of}
use Rattle.partition.proofs.Level.{window_equal}
use Rattle.partition.proofs.Candidates.{not_candidate}
use Rattle.partition.proofs.Search.{none_after, cuts_after}
use Rattle.partition.proofs.Blocks.{blocks_count}

module _ (b : ℕ) where
  abbrev run : ℕ → List ℕ
  run n = replicate n b

  value_run : (w s n i : ℕ) → i + w ≤ n → value_at w s (run n) i ≡ number_from 0 (replicate w (spread_of b)) % 65521 % s
  unfolding value_at
  value_run w s n i l =
      let long = length-replicate {A = ℕ} n b in
      ap (λ (number : ℕ). number % s) (window_equal w (run n) i b (omega arith) (λ j x y. get_or-replicate n j b 0 (omega arith)))

  module _ (w h s n : ℕ) (some : 1 ≤ h) where
    no_candidate : (i : ℕ) → h ≤ i → candidate w h s (run n) i ≡ false
    no_candidate i l =
        not_candidate w h s (run n) i
        (λ c.
        let right = c.right in
        let long = length-replicate {A = ℕ} n b in
        let smaller = c.low.before (i - 1) (omega arith) (omega arith) in
        omega (arith, smaller, value_run w s n i (omega arith), value_run w s n (i - 1) (omega arith)))

    pub run_uncut : cuts_of w h s (run n) ≡ []
    run_uncut =
        cuts_after w h s (run n)
        ∙ ap (take 31) (none_after (candidate w h s (run n)) h (length (run n) + 1) h no_candidate)
        ∙ take-nil 31

    pub run_one_block : length (blocks_of w h s (run n)) ≡ 1
    run_one_block = blocks_count w h s (run n) ∙ rw run_uncut refl
