-- What a refused call leaves, by its promise and by what the definition leaves.
use mathlib.Core.Bool.{Bool, true, false, cond, ◌&&◌}
use mathlib.Core.List.{List}
use mathlib.Core.Path.{◌≡◌, refl, sym, ap, ◌∙◌}
use Prim.Native.Nat.{ℕ, ◌≤◌, ◌<◌}
use native.Mathlib.Omega.{arith}
use borrow.Author.Tests.{le-leb, lt-leb}
use lib.Dec.{leb}
use Rattle.tree.specs.Questions.{within}
use Rattle.protocol.specs.Lent.{Lent, lent}
use Rattle.protocol.specs.State.{State, running}
use Rattle.protocol.specs.Receiver.{Result, number_of, take_message}
use Rattle.protocol.proofs.Refusals.{refusals}
use Rattle.taking.specs.Taking.{unmoved}
use Rattle.held.specs.Held.{decode, keeping, state_after}
use Rattle.demand.specs.Refusing.{RefusalsOfCalls}

to_eleven : (k : ℕ) → 1 ≤ k → k ≤ 11 → within 1 11 k ≡ true
to_eleven k low high = rw (le-leb 1 k low, le-leb k 11 high)

from_twelve : (k : ℕ) → 12 ≤ k → within 1 11 k ≡ false
from_twelve k high = rw (lt-leb k 11 (omega arith)) (and-false (leb 1 k))
  where
    and-false : (a : Bool) → a && false ≡ false
    and-false true = refl
    and-false false = refl

bytes_after : (R : Result) (state : List ℕ) {t : Bool} → unmoved R ≡ t → state_after R state ≡ cond t state (keeping R.state state)
unfolding state_after
bytes_after R state e = ap (λ (t : Bool). cond t state (keeping R.state state)) e

pub refusals_of_calls : RefusalsOfCalls
refusals_of_calls state state' string nodes shingles shingles' cells message output output' r takes =
    let R : Result = take_message (decode state) (lent string nodes shingles cells output) message in
    let law = refusals (decode state) (lent string nodes shingles cells output) message in
    let is = takes.leaves.answer in
    let memory = sym takes.leaves.memory in
    let bytes = takes.leaves.bytes_are in
    record {
      last = λ h. let n = law.last (omega (arith, h, is)) in omega (arith, n, is);
      to_11 = λ low high.
          let same = memory ∙ (law.to_11 (omega (arith, low, is)) (omega (arith, high, is))).lent in
          let unmoved-is = ap (within 1 11) (sym is) ∙ to_eleven r low high in
          (bytes ∙ bytes_after R state unmoved-is, ap (λ (m : Lent). m.shingles) same, ap (λ (m : Lent). m.output) same);
      from_12 = λ low high.
          let after = law.from_12 (omega (arith, low, is)) (omega (arith, high, is)) in
          let moved-is = ap (within 1 11) (sym is) ∙ from_twelve r low in (
            bytes ∙ (bytes_after R state moved-is ∙ ap (λ (s : State). keeping s state) after.state),
            ap (λ (m : Lent). m.shingles) memory ∙ after.shingles,
            ap (λ (m : Lent). m.output) memory ∙ after.output,
          );
    }
