-- The table's rule, "shown for all entries together": one test over a whole table, and the law that carries it to each entry.
use mathlib.Core.Bool.{Bool, true, ◌&&◌, and-eq-true_iff}
use mathlib.Core.List.{List, [], ◌∷◌}
use mathlib.Core.Path.{◌≡◌, ap, ◌∙◌}
use Prim.Native.Nat.{ℕ, zero, suc, ◌+◌, ◌<◌}
use native.Mathlib.Nat.{le_of_suc-le-suc, not-suc-le-zero}
use native.Mathlib.Omega.{arith}
use borrow.Author.Tests.{eqb-true}
use lib.Dec.{eqb}
use lib.ListN.{length, get_or}
use Rattle.spread.specs.Spreading.{spread_of, Spreads}

-- The numbers of a list are those of the bytes from b on.
abbrev pub right : ℕ → List ℕ → Bool
right b [] = true
right b (x ∷ xs) = eqb x (spread_of b) && right (suc b) xs

entry : (b : ℕ) (table : List ℕ) → right b table ≡ true → (k : ℕ) → k < length table → get_or table k 0 ≡ spread_of (b + k)
entry b [] t k l = absurd (not-suc-le-zero l)
entry b (x ∷ xs) t zero l =
    let tests = (and-eq-true_iff (eqb x (spread_of b)) (right (suc b) xs)).0 t in
    let e : b ≡ b + 0 = omega arith in
    eqb-true x (spread_of b) tests.0 ∙ ap spread_of e
entry b (x ∷ xs) t (suc k) l =
    let tests = (and-eq-true_iff (eqb x (spread_of b)) (right (suc b) xs)).0 t in
    let e : suc b + k ≡ b + suc k = omega arith in
    entry (suc b) xs tests.1 k (le_of_suc-le-suc l) ∙ ap spread_of e

-- A table of 256 numbers that passes the test is the table.
pub spreads : (table : List ℕ) → length table ≡ 256 → right 0 table ≡ true → Spreads table
spreads table long t =
    record {
      long = long;
      each = λ b l.
          let inside : b < length table = omega arith in
          let e : 0 + b ≡ b = omega arith in
          entry 0 table t b inside ∙ ap spread_of e;
    }
