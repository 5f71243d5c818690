-- What concluding comes to is what the state and the answer say after it.
use mathlib.Core.Bool.{Bool, true, false, cond}
use mathlib.Core.List.{List, [], ◌∷◌}
use mathlib.Core.Path.{◌≡◌, sym, ap, subst, ◌∙◌}
use Prim.Native.Nat.{ℕ, ◌+◌, ◌^◌, ◌≤◌, ◌<◌}
use native.Mathlib.Omega.{arith}
use native.Mathlib.Decide.{dec_lt}
use lib.ListN.{length}
use Rattle.protocol.specs.State.{over, going}
use Rattle.protocol.specs.Receiver.{Settled, too_long, left, Result, number_of}
use Rattle.copying.specs.declared.Waiting.{Waiting}
use Rattle.copying.specs.Copying.{pile_of, settled_from}
use Rattle.handover.specs.Handover.{whole, answer_of, Concluded}
use Rattle.handover.proofs.Outcomes.{refuses, hands, goes_on}
use Rattle.state.specs.declared.Receiver.{Receiver}
use Rattle.state.specs.declared.Taken.{Taken}
use Rattle.state.specs.Receivers.{state_of, progress_number, Holds}
use Rattle.state.proofs.Keeping.{holds_by}
use Rattle.advance.specs.Advance.{Advanced}

-- A refusal after copying is 18 or 19.
answer_apart : (size root : ℕ) (x : Settled)
    → (0 < answer_of size root x → 18 ≤ answer_of size root x) × (answer_of size root x < 2 ^ 32 → answer_of size root x ≤ 19)
unfolding answer_of
answer_apart size root too_long = (λ h. omega arith, λ h. omega arith)
answer_apart size root (left built []) = go (whole size root built)
  where
    go : (t : Bool) → (0 < cond t (2 ^ 32 + size) 19 → 18 ≤ cond t (2 ^ 32 + size) 19) × (cond t (2 ^ 32 + size) 19 < 2 ^ 32 → cond t (2 ^ 32 + size) 19 ≤ 19)
    go true = (λ h. omega arith, λ h. absurd (omega (arith, h)))
    go false = (λ h. omega arith, λ h. omega arith)
answer_apart size root (left built (e ∷ es)) = (λ h. absurd (omega (arith, h)), λ h. omega arith)

module _ {string nodes : List ℕ} {size root : ℕ} {before after : List ℕ} {built waits : ℕ} {places : List Waiting} (r : Taken) {end remaining : ℕ}
    (c : Concluded string nodes size root before after built waits places (progress_number r.answer) end remaining) where
  abbrev number : ℕ
  number = progress_number r.answer

  apart : (0 < number → 18 ≤ number) × (number < 2 ^ 32 → number ≤ 19)
  apart =
      subst (λ (k : ℕ). (0 < k → 18 ≤ k) × (k < 2 ^ 32 → k ≤ 19)) (sym c.answer)
      (answer_apart size root (settled_from string nodes size before built waits places))

  -- The session is over: refused, or the string handed over.
  pub advanced_over : {s : Receiver} {taken : ℕ} → (number ≡ 0 → ⊥) → Holds (over (state_of s)) r.state
      → Advanced s size root taken string nodes before after built waits places r
  unfolding number_of
  advanced_over {s = s} {taken = taken} fails over-is =
      let above : 0 < number = omega (arith, fails) in
      record {
        apart = apart.0;
        small = apart.1;
        gives = λ m table behind long.
            elim (dec_lt number (2 ^ 32)) [
              | yes small ↦
                  let e = refuses c (state_of s) m table taken behind long above small in
                  record {
                    answer = sym (ap (λ (R : Result). number_of R.answer) e);
                    state = holds_by (ap (λ (R : Result). R.state) e) over-is;
                    refused = λ h k. ap (λ (R : Result). R.lent) e;
                    going = λ z. absurd (fails z);
                    handed = λ h. absurd (omega (arith, h, small));
                  }
              | no large ↦
                  let e = hands c (state_of s) m table taken behind long (omega (arith, large)) in
                  record {
                    answer = e.0 ∙ sym (ap (λ (R : Result). number_of R.answer) e.1);
                    state = holds_by (ap (λ (R : Result). R.state) e.1) over-is;
                    refused = λ h k. absurd (large k);
                    going = λ z. absurd (fails z);
                    handed = λ h. ap (λ (R : Result). R.lent) e.1;
                  }
            ];
      }

  -- The session goes on.
  pub advanced_on : {s : Receiver} {taken : ℕ} → number ≡ 0 → length after ≡ length before
      → Holds (going (state_of s) size root end taken (pile_of remaining places)) r.state
      → Advanced s size root taken string nodes before after built waits places r
  unfolding number_of
  advanced_on {s = s} {taken = taken} zero same on =
      record {
        apart = apart.0;
        small = apart.1;
        gives = λ m table behind long.
            let e = goes_on c (state_of s) m table taken behind long same zero in
            record {
              answer = zero ∙ sym (ap (λ (R : Result). number_of R.answer) e);
              state = holds_by (ap (λ (R : Result). R.state) e) on;
              refused = λ h k. absurd (omega (arith, h, zero));
              going = λ z. ap (λ (R : Result). R.lent) e;
              handed = λ h. absurd (omega (arith, h, zero));
            };
      }
