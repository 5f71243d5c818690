-- Windows of equal bytes: they have one value.
use mathlib.Core.List.{List, ◌∷◌, map}
use mathlib.Core.Path.{◌≡◌, refl, sym, ap, ◌∙◌}
use Prim.Native.Nat.{ℕ, zero, suc, ◌+◌, ◌-◌, ◌%◌, ◌≤◌, ◌<◌}
use native.Mathlib.Omega.{arith}
use lib.ListN.{length, get_or, take, drop, replicate, length-map}
use lib.Seq.{drop-cons}
use Rattle.spread.specs.Spreading.{spread_of}
use Rattle.partition.specs.Cuts.{number_from, window_at, value_at}
use Rattle.partition.specs.Runs.{EqualBytes, Level}
use Rattle.partition.proofs.Digits.{digit_at}

repeated : (w : ℕ) (digits : List ℕ) (i d : ℕ) → i + w ≤ length digits → ((j : ℕ) → i ≤ j → j < i + w → get_or digits j 0 ≡ d)
    → take w (drop i digits) ≡ replicate w d
repeated zero digits i d l e = refl
repeated (suc w) digits i d l e =
    rw (drop-cons digits i 0 (omega arith), e i (omega arith) (omega arith))
    (ap (λ (rest : List ℕ). d ∷ rest) (repeated w digits (suc i) d (omega arith) (λ j x y. e j (omega arith) (omega arith))))

-- The number of a window whose bytes are all b.
pub window_equal : (w : ℕ) (bytes : List ℕ) (i b : ℕ) → i + w ≤ length bytes → ((j : ℕ) → i ≤ j → j < i + w → get_or bytes j 0 ≡ b)
    → window_at w bytes i ≡ number_from 0 (replicate w (spread_of b)) % 65521
unfolding window_at
window_equal w bytes i b l e =
    ap (λ (digits : List ℕ). number_from 0 digits % 65521)
    (repeated w (map spread_of bytes) i (spread_of b) (simp length-map l) (λ j x y. digit_at bytes j (omega arith) ∙ ap spread_of (e j x y)))

-- Windows of equal bytes have the value of the first.
pub level : (w h s : ℕ) (bytes : List ℕ) (from until to : ℕ) → 1 ≤ h → 1 ≤ from → from ≤ to → to + w ≤ until + 1 → until ≤ length bytes
    → EqualBytes bytes (from - 1) until → Level h (value_at w s bytes) from to
unfolding value_at
level w h s bytes from until to some after l m n E =
    record {
      low = l;
      near = λ x. some;
      same = λ j x y. ap (λ (number : ℕ). number % s) (here j (omega arith) (omega arith) ∙ sym (here (from - 1) (omega arith) (omega arith)));
    }
  where
    here : (j : ℕ) → from - 1 ≤ j → j + w ≤ until → window_at w bytes j ≡ number_from 0 (replicate w (spread_of (get_or bytes (from - 1) 0))) % 65521
    here j x y = window_equal w bytes j (get_or bytes (from - 1) 0) (omega arith) (λ k a b. E.same k (omega arith) (omega arith))
