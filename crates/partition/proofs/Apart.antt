-- Candidates keep apart by themselves: of two within h of each other the later would have to be smaller than the earlier, and the earlier not greater
-- than the later. So the spacing test rejects none.
use mathlib.Core.Bool.{Bool, true, false}
use mathlib.Core.List.{List, ◌∷◌}
use mathlib.Core.Path.{◌≡◌, refl, ap}
use Prim.Native.Nat.{ℕ, zero, suc, ◌+◌, ◌≤◌, ◌<◌}
use native.Mathlib.Decide.{dec_le}
use native.Mathlib.Omega.{arith}
use lib.ListN.{length, take}
use borrow.Author.Tests.{le-leb}
use Rattle.partition.specs.Cuts.{candidate, cons_if, passing, spaced, cuts_of}
use Rattle.partition.proofs.Candidates.{candidate_is}

module _ (w h s : ℕ) (bytes : List ℕ) where
  pub candidates_apart : (i j : ℕ) → candidate w h s bytes i ≡ true → candidate w h s bytes j ≡ true → i < j → i + h < j
  candidates_apart i j first second before = at (dec_le j (i + h))
    where
      at : Dec (j ≤ i + h) → i + h < j
      at (yes near) =
          let not-greater = (candidate_is w h s bytes i first).low.after j (omega arith) near in
          let smaller = (candidate_is w h s bytes j second).low.before i near before in
          absurd (omega (arith, not-greater, smaller))
      at (no far) = omega arith

-- Where any two that pass are more than h apart, none is rejected.
module _ (test : ℕ → Bool) (h : ℕ) (apart : (i j : ℕ) → test i ≡ true → test j ≡ true → i < j → i + h < j) where
  none_rejected : (k i free : ℕ) → ((j : ℕ) → i ≤ j → test j ≡ true → free ≤ j) → spaced h free (passing test k i) ≡ passing test k i
  unfolding passing spaced cons_if
  none_rejected zero i free far = refl
  none_rejected (suc k) i free far = at (test i) refl (none_rejected k (suc i))
    where
      rest : List ℕ
      rest = passing test k (suc i)

      at : (b : Bool) → test i ≡ b → ((f : ℕ) → ((j : ℕ) → suc i ≤ j → test j ≡ true → f ≤ j) → spaced h f rest ≡ rest)
          → spaced h free (cons_if b i rest) ≡ cons_if b i rest
      at true e later = rw (le-leb free i (far i (omega arith) e)) (ap (λ (cs : List ℕ). i ∷ cs) (later (i + h) (λ j l p. omega (arith, apart i j e p l))))
      at false e later = later free (λ j l p. far j (omega arith) p)

module _ (w h s : ℕ) (bytes : List ℕ) where
  -- "The spacing test no longer rejects any candidate": not of any number of positions.
  pub spacing_idle : (k : ℕ) → spaced h 0 (passing (candidate w h s bytes) k 0) ≡ passing (candidate w h s bytes) k 0
  spacing_idle k = none_rejected (candidate w h s bytes) h (candidates_apart w h s bytes) k 0 0 (λ j l p. omega arith)

  -- So the cuts are the first 31 candidates.
  pub cuts_are_candidates : cuts_of w h s bytes ≡ take 31 (passing (candidate w h s bytes) (length bytes + 1) 0)
  unfolding cuts_of
  cuts_are_candidates = ap (take 31) (spacing_idle (length bytes + 1))
