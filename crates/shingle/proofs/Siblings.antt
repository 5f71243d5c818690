-- The last id of each level, and the left sibling that a node reads from it.
use mathlib.Core.List.{List, [], ◌∷◌}
use mathlib.Core.Path.{◌≡◌, refl, sym, ap, ◌∙◌}
use Prim.Native.Nat.{ℕ, zero, suc, ◌<◌}
use native.Mathlib.Omega.{arith}
use native.Mathlib.Decide.{dec_lt, ℕ_discrete}
use borrow.Author.Tests.{lt-ltb, le-ltb, eq-eqb, ne_eqb}
use lib.ListN.{length, get_or, replicate}
use Rattle.shingle.specs.Shingles.{Listed, listed, sibling_of}
use Rattle.shingle.specs.Steps.{Followed}

zero_at : (n k : ℕ) → get_or (replicate {A = ℕ} n 0) k 0 ≡ 0
zero_at zero k = refl
zero_at (suc n) zero = refl
zero_at (suc n) (suc k) = zero_at n k

-- Of each of eight levels the left sibling that a node would have after those before.
pub record Remembered (last : List ℕ) (before : List Listed) : Type 0 where
  pub long : length last ≡ 8
  pub each : (l : ℕ) → l < 8 → get_or last l 0 ≡ sibling_of l before

pub remembered_none : Remembered (replicate 8 0) []
unfolding sibling_of
remembered_none = record { long = refl; each = λ l h. zero_at 8 l }

pub sibling_deeper : (l : ℕ) (n : Listed) (ns : List Listed) → l < n.level → sibling_of l (n ∷ ns) ≡ sibling_of l ns
unfolding sibling_of
sibling_deeper l n ns h = rw (lt-ltb l n.level h)

pub sibling_there : (l : ℕ) (n : Listed) (ns : List Listed) → l ≡ n.level → sibling_of l (n ∷ ns) ≡ n.id
unfolding sibling_of
sibling_there l n ns e = rw (le-ltb l n.level (omega arith), eq-eqb n.level l (sym e))

pub sibling_parent : (l : ℕ) (n : Listed) (ns : List Listed) → n.level < l → sibling_of l (n ∷ ns) ≡ 0
unfolding sibling_of
sibling_parent l n ns h = rw (le-ltb l n.level (omega arith), ne_eqb n.level l (λ e. omega arith))

pub remembered_next : (last next : List ℕ) (before : List Listed) (level id : ℕ)
    → Remembered last before → Followed last level id next → Remembered next (listed level id ∷ before)
remembered_next last next before level id r f =
    let n = listed level id in
    record {
      long = f.long;
      each = λ l h. elim (ℕ_discrete l level) [
        | yes e ↦ ap (λ (i : ℕ). get_or next i 0) e ∙ (f.there ∙ sym (sibling_there l n before e))
        | no m ↦ elim (dec_lt l level) [
          | yes b ↦ f.below l b ∙ (r.each l h ∙ sym (sibling_deeper l n before b))
          | no b ↦ f.above l (omega arith) ∙ sym (sibling_parent l n before (omega arith))
        ]
      ];
    }
