-- From the number that taking a message answers its answer is read back: a refusal's number is neither 0 nor from 2^32 on. And as many bytes
-- as are handed over stand in the output.
use mathlib.Core.List.{List}
use mathlib.Core.Path.{◌≡◌, refl, ap}
use Prim.Native.Nat.{ℕ, ◌+◌, ◌-◌, ◌^◌, ◌≤◌}
use native.Mathlib.Omega.{arith}
use borrow.Author.Tests.{ne_eqb, le-leb, lt-leb}
use lib.ListN.{length}
use Rattle.protocol.specs.Lent.{Lent}
use Rattle.protocol.specs.State.{State}
use Rattle.protocol.specs.Receiver.{refused, waiting, handed, number_of, Result, take_message}
use Rattle.protocol.proofs.Cases.{size_in, refused_not, waiting_not}
use Rattle.protocol.proofs.Refusals.{Verdict, early, late, further, done, verdict}
use Rattle.demand.specs.Made.{answer_of}

pub record Told (R : Result) : Type 0 where
  pub told : answer_of (number_of R.answer) ≡ R.answer
  pub holds : (size : ℕ) → R.answer ≡ handed size → size ≤ length R.lent.output

refused_told : (k : ℕ) → 1 ≤ k → k ≤ 19 → answer_of (number_of (refused k)) ≡ refused k
unfolding answer_of number_of
refused_told k some low = rw (ne_eqb k 0 (λ z. omega arith), lt-leb (2 ^ 32) k (omega arith)) refl

handed_told : (n : ℕ) → answer_of (number_of (handed n)) ≡ handed n
unfolding answer_of number_of
handed_told n =
    let whole : 2 ^ 32 + n - 2 ^ 32 ≡ n = omega arith in
    rw (ne_eqb (2 ^ 32 + n) 0 (λ z. omega arith), le-leb (2 ^ 32) (2 ^ 32 + n) (omega arith)) (ap handed whole)

waiting_told : answer_of (number_of waiting) ≡ waiting
unfolding answer_of number_of
waiting_told = refl

told : {s : State} {m : Lent} {r : Result} → Verdict s m r → Told r
unfolding size_in
told (early k low high) = record { told = refused_told k low (omega arith); holds = λ size e. absurd (refused_not e) }
told (late k low high) = record { told = refused_told k (omega arith) high; holds = λ size e. absurd (refused_not e) }
told (further t after) = record { told = waiting_told; holds = λ size e. absurd (waiting_not e) }
told (done n t after h) = record { told = handed_told n; holds = λ size e. let same : n ≡ size = ap size_in e in omega (arith, h) }

pub told_take : (s : State) (m : Lent) (message : List ℕ) → Told (take_message s m message)
told_take s m message = told (verdict s m message)
