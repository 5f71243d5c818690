-- Questions 1 to 7 where 7 asks of the strata too: each way out is a case of the definition.
use Rattle.std.proofs.Common.{inl, inr, ◌⊎◌}
use mathlib.Core.Bool.{Bool, true, false, ◌&&◌}
use mathlib.Core.List.{List, ◌++◌}
use mathlib.Core.Path.{◌≡◌, refl, sym, ap, ◌∙◌}
use Prim.Native.Nat.{ℕ, ◌+◌, ◌≤◌, ◌<◌}
use native.Mathlib.Omega.{arith}
use borrow.Author.Tests.{ne_eqb, le-leb, lt-leb}
use lib.Dec.{eqb}
use lib.ListN.{length, drop}
use Rattle.tree.specs.declared.Settings.{Settings}
use Rattle.tree.specs.Questions.{ask, refusal}
use Rattle.setup.specs.Questions.{lent_refusal}
use Rattle.setup.proofs.Questions.{both_passed}
use Rattle.shingle.specs.Table.{shingles_in}
use Rattle.sketch.specs.Sums.{row_bytes}
use Rattle.protocol.specs.Lent.{Lent, refused_by}
use Rattle.strata.specs.Strata.{strata_bytes, strata_of, strata_table, estimate_of}
use Rattle.strata.specs.Calls.{holds_strata, strata_refusal, Built, estimate_answer, Estimated}

-- One of 1 to 7 refuses without the strata.
earlier : (t fit tables : Bool) (number r : ℕ) → r ≡ ask t number (ask tables 7 0) → (r ≡ 0 → ⊥) → r ≡ ask t number (ask (fit && tables) 7 0)
unfolding ask
earlier false fit tables number r e fails = e
earlier true fit true number r e fails = absurd (fails e)
earlier true true false number r e fails = e
earlier true false false number r e fails = e

-- None does, so that the strata decide.
strata_decide : (fit tables : Bool) → ask tables 7 0 ≡ 0 → ask (fit && tables) 7 0 ≡ ask fit 7 0
unfolding ask
strata_decide fit false e = absurd (omega arith)
strata_decide true true e = refl
strata_decide false true e = refl

module _ (σ : Settings) (m : Lent) (r : ℕ) (is : r ≡ refused_by σ m) where
  asked_before : (fit : Bool) → (r ≡ 0 → ⊥) → r ≡ strata_refusal σ m fit
  unfolding strata_refusal lent_refusal
  asked_before fit fails = earlier (eqb (refusal σ (length m.string)) 0) fit _ (refusal σ (length m.string)) r is fails

  asked_strata : (fit : Bool) → r ≡ 0 → strata_refusal σ m fit ≡ ask fit 7 0
  unfolding strata_refusal lent_refusal ask
  asked_strata fit z =
      let passed = both_passed (refusal σ (length m.string)) _ (sym is ∙ z) in
      rw passed.0 (strata_decide fit _ passed.1)

  -- 7 of the strata refuses, or all is passed.
  seven : (fit : Bool) → r ≡ 0 → fit ≡ false → strata_refusal σ m fit ≡ 7
  unfolding ask
  seven fit z e = asked_strata fit z ∙ rw e

  passed : (fit : Bool) → r ≡ 0 → fit ≡ true → strata_refusal σ m fit ≡ 0
  unfolding ask
  passed fit z e = asked_strata fit z ∙ rw e

  -- Building: refused and unchanged, or filled.
  module _ (before : List ℕ) where
    unbuilt : (number : ℕ) → number ≡ strata_refusal σ m (holds_strata before) → (number ≡ 0 → ⊥) → Built σ m before before number
    unbuilt number e fails = record { answer = e; table = rw (ne_eqb _ 0 (λ z. fails (e ∙ z))) }

    pub not_asked : (r ≡ 0 → ⊥) → Built σ m before before r
    not_asked fails = unbuilt r (asked_before (holds_strata before) fails) fails

    pub short : r ≡ 0 → length before < strata_bytes → Built σ m before before 7
    short z h = unbuilt 7 (sym (seven (holds_strata before) z (lt-leb strata_bytes (length before) h))) (λ e. omega (arith, e))

    pub built : r ≡ 0 → strata_bytes ≤ length before → (front : List ℕ) → front ≡ row_bytes (strata_of (shingles_in m.shingles))
        → Built σ m before (front ++ drop strata_bytes before) 0
    unfolding strata_table
    built z h front e =
        let none = passed (holds_strata before) z (le-leb strata_bytes (length before) h) in
        record { answer = sym none; table = ap (λ (l : List ℕ). l ++ drop strata_bytes before) e ∙ rw none }

  -- Estimating: refused, or estimated.
  module _ (theirs own : List ℕ) where
    abbrev fit : Bool
    fit = holds_strata theirs && holds_strata own

    unestimated : (number : ℕ) → number ≡ strata_refusal σ m fit → (number ≡ 0 → ⊥) → Estimated σ m theirs own number
    unfolding estimate_answer
    unestimated number e fails = record { answer = e ∙ sym (rw (ne_eqb _ 0 (λ z. fails (e ∙ z)))) }

    pub not_estimated : (r ≡ 0 → ⊥) → Estimated σ m theirs own r
    not_estimated fails = unestimated r (asked_before fit fails) fails

    pub one_short : r ≡ 0 → (length theirs < strata_bytes) ⊎ ((strata_bytes ≤ length theirs) × (length own < strata_bytes))
        → Estimated σ m theirs own 7
    one_short z (inl h) = unestimated 7 (sym (seven fit z (rw (lt-leb strata_bytes (length theirs) h)))) (λ e. omega (arith, e))
    one_short z (inr h) =
        unestimated 7 (sym (seven fit z (rw (le-leb strata_bytes (length theirs) h.0, lt-leb strata_bytes (length own) h.1)))) (λ e. omega (arith, e))

    pub estimated : r ≡ 0 → strata_bytes ≤ length theirs → strata_bytes ≤ length own
        → (sum : ℕ) → sum ≡ estimate_of σ.levels theirs own (shingles_in m.shingles) → Estimated σ m theirs own (4294967296 + sum)
    unfolding estimate_answer
    estimated z h k sum e =
        let none = passed fit z (rw (le-leb strata_bytes (length theirs) h, le-leb strata_bytes (length own) k)) in
        record { answer = ap (λ (n : ℕ). 4294967296 + n) e ∙ sym (rw none) }
