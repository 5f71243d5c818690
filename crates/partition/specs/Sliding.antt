-- A window that slides: document 02, request 4, "over table entries" since request 12, and below its words what a window promises. No public
-- contract cites these.
use Rattle.std.specs.Prelude.{List, ◌≡◌, ℕ, zero, suc, ◌+◌, ◌*◌, ◌-◌, ◌%◌, ◌^◌, ◌≤◌, ◌<◌, get_or}
use Rattle.spread.specs.Spreading.{spread_of}
use Rattle.partition.specs.Cuts.{window_at, value_at}

-- How often a digit is added that a window of w bytes leaves. One place further it would count 257^w times; modulo 65,521, adding something 65,520
-- times takes it away once.
abbrev pub leaving_of : ℕ → ℕ
leaving_of w = 65520 * 257 ^ w

-- "a step sees only w, the value before, the byte that leaves and the byte that enters"
unfoldable pub slid : (w before leaves enters : ℕ) → ℕ
slid w before leaves enters = (before * 257 + enters + leaves * leaving_of w) % 65521

-- "keep the base-257 remainder as a running value": that of the first window, which starts at `from`, and then step by step.
unfoldable pub running : (w : ℕ) → List ℕ → (from steps : ℕ) → ℕ
running w bytes from zero = window_at w bytes from
running w bytes from (suc k) = slid w (running w bytes from k) (spread_of (get_or bytes (from + k) 0)) (spread_of (get_or bytes (from + k + w) 0))

-- m leaves the same remainders as s of all numbers below 65,521, and is not 0.
pub record Modulus (s m : ℕ) : Type 0 where
  pub some : 1 ≤ m
  pub same : (x : ℕ) → x < 65521 → x % m ≡ x % s

-- A window of w bytes whose values are taken modulo s.
pub record Sized (w s width modulus : ℕ) : Type 0 where
  pub wide : width ≡ w
  pub reduces : Modulus s modulus

-- `number` is that of the window at `at`, and `before` the value of the window just before it, or at 0 its own.
pub record Stands (w s : ℕ) (bytes : List ℕ) (at number before : ℕ) : Type 0 where
  pub here : number ≡ window_at w bytes at
  pub last : before ≡ value_at w s bytes (at - 1)
