-- "Show that each value equals document 01's": the running value at every position, and as the scans keep it.
use mathlib.Core.List.{List}
use mathlib.Core.Path.{◌≡◌, sym, ap, ◌∙◌}
use Prim.Native.Nat.{ℕ, zero, suc, ◌+◌, ◌-◌, ◌%◌, ◌≤◌, ◌<◌}
use native.Mathlib.Nat.{add-zero}
use native.Mathlib.Omega.{arith}
use lib.ListN.{length, get_or}
use Rattle.spread.specs.Spreading.{spread_of}
use Rattle.partition.specs.Cuts.{window_at, value_at}
use Rattle.partition.specs.Sliding.{slid, running, Stands}
use Rattle.partition.proofs.Reading.{window_small, value_of}
use Rattle.partition.proofs.Shifted.{shifted}

-- The remainder, after any number of steps from wherever the first window starts.
pub running_is : (w : ℕ) (bytes : List ℕ) (from steps : ℕ) → from + steps + w ≤ length bytes → running w bytes from steps ≡ window_at w bytes (from + steps)
unfolding running
running_is w bytes from zero l = sym (ap (window_at w bytes) (add-zero from))
running_is w bytes from (suc k) l =
    ap (λ (x : ℕ). slid w x (spread_of (get_or bytes (from + k) 0)) (spread_of (get_or bytes (from + k + w) 0))) (running_is w bytes from k (omega arith))
    ∙ shifted w bytes (from + k) (omega arith)
    ∙ ap (window_at w bytes) (let e : from + k + 1 ≡ from + suc k = omega arith in e)

-- The value: "then modulo s".
pub running_value : (w s : ℕ) (bytes : List ℕ) (from steps : ℕ) → from + steps + w ≤ length bytes
    → running w bytes from steps % s ≡ value_at w s bytes (from + steps)
running_value w s bytes from steps l = value_of w s bytes (from + steps) (running_is w bytes from steps l)

running_small : (w : ℕ) (bytes : List ℕ) (from steps : ℕ) → running w bytes from steps < 65521
unfolding running slid
running_small w bytes from zero = window_small w bytes from
running_small w bytes from (suc k) = omega arith

-- x is the running value of a scan that started at `from` and stands at j.
pub record Runs (w : ℕ) (bytes : List ℕ) (from j x : ℕ) : Type 0 where
  pub started : from ≤ j
  pub value : x ≡ running w bytes from (j - from)

module _ {w : ℕ} {bytes : List ℕ} {from : ℕ} where
  pub runs_first : {x : ℕ} → x ≡ window_at w bytes from → Runs w bytes from from x
  unfolding running
  runs_first e =
      let z : from - from ≡ 0 = omega arith in
      record { started = omega arith; value = rw z e }

  module _ {j x : ℕ} (R : Runs w bytes from j x) where
    here : from + (j - from) ≡ j
    here = omega arith

    pub runs_small : x < 65521
    runs_small = rw R.value (running_small w bytes from (j - from))

    pub runs_on : {y : ℕ} → y ≡ slid w x (spread_of (get_or bytes j 0)) (spread_of (get_or bytes (j + w) 0)) → Runs w bytes from (j + 1) y
    unfolding running
    runs_on e =
        let more : j + 1 - from ≡ suc (j - from) = omega arith in
        record { started = omega arith; value = rw (more, here, ← R.value) e }

    pub runs_number : j + w ≤ length bytes → x ≡ window_at w bytes j
    runs_number l = R.value ∙ running_is w bytes from (j - from) (omega (arith, here)) ∙ ap (window_at w bytes) here

    pub runs_value : (s : ℕ) → j + w ≤ length bytes → x % s ≡ value_at w s bytes j
    runs_value s l = value_of w s bytes j (runs_number l)

-- Where a scan stands, from the window there and the one before.
pub stands : (w s : ℕ) (bytes : List ℕ) (at last : ℕ) {number x : ℕ} → last ≡ at - 1 → x ≡ window_at w bytes last → number ≡ window_at w bytes at
    → Stands w s bytes at number (x % s)
stands w s bytes at last e before here = record { here = here; last = value_of w s bytes last before ∙ ap (value_at w s bytes) e }
