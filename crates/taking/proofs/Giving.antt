-- Past question 11 a call leaves the struct that its result's state is kept in.
use mathlib.Core.Bool.{Bool, true, false, cond, ◌&&◌}
use mathlib.Core.List.{List}
use mathlib.Core.Path.{◌≡◌, refl, sym, ap, ◌∙◌}
use Prim.Native.Nat.{ℕ, ◌≤◌, ◌<◌}
use native.Mathlib.Omega.{arith}
use native.Mathlib.Decide.{dec_lt}
use borrow.Author.Tests.{lt-leb}
use lib.Dec.{leb}
use Rattle.tree.specs.Questions.{within}
use Rattle.protocol.specs.Lent.{lent}
use Rattle.protocol.specs.Receiver.{Result, number_of}
use Rattle.state.specs.declared.Receiver.{Receiver}
use Rattle.state.specs.declared.Taken.{Taken}
use Rattle.state.specs.Receivers.{receiver_of, progress_number, Holds}
use Rattle.taking.specs.Taking.{struct_after, Gives}

past_eleven : (k : ℕ) → (0 < k → 12 ≤ k) → within 1 11 k ≡ false
past_eleven k far = elim (dec_lt 0 k) [
  | yes above ↦ and-false (leb 1 k) _ (lt-leb k 11 (far above))
  | no below ↦ rw (lt-leb 1 k (omega (arith, below)))
]
  where
    and-false : (a b : Bool) → b ≡ false → a && b ≡ false
    and-false true b e = e
    and-false false b e = refl

pub past_gives : {s : Receiver} {R : Result} {string nodes shingles cells output : List ℕ} {r : Taken} → progress_number r.answer ≡ number_of R.answer
    → (0 < progress_number r.answer → 12 ≤ progress_number r.answer) → Holds R.state r.state → R.lent ≡ lent string nodes shingles cells output
    → Gives s R string nodes shingles cells output r
unfolding struct_after
past_gives {s} {R} {r = r} answer far holds memory =
    record {
      answer = answer;
      whole = holds.whole ∙ sym (ap (λ (t : Bool). cond t s (receiver_of R.state)) (ap (within 1 11) (sym answer) ∙ past_eleven (progress_number r.answer) far));
      state = holds.state;
      memory = memory;
    }
