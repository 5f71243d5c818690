-- Counting the shingles that differ: of a stratum, of all strata, and of two lists.
use mathlib.Core.Bool.{Bool, true, false, cond, not, ◌&&◌}
use mathlib.Core.List.{List, [], ◌∷◌}
use mathlib.Core.Path.{◌≡◌, refl, sym, ap, ap₂, ◌∙◌}
use Prim.Native.Nat.{ℕ, zero, suc, ◌+◌, ◌≤◌, ◌<◌}
use native.Mathlib.Decide.{ℕ_discrete}
use native.Mathlib.Omega.{arith}
use borrow.Author.Tests.{eq-eqb, ne_eqb}
use lib.Dec.{eqb}
use lib.ListN.{length, length-append}
use Rattle.shingle.specs.declared.Shingle.{Shingle}
use Rattle.shingle.specs.Shingles.{Pair}
use Rattle.shingle.specs.Table.{holds}
use Rattle.shingle.specs.Rising.{Over, Rising, none, more}
use Rattle.sketch.specs.Opening.{signed, positives, negatives, no_shingle_twice, kept, new_list, lacking, true_difference}
use Rattle.sketch.proofs.NewList.{holds_kept, new_list_lem}
use Rattle.opening.proofs.Outcome.{renewed-length}
use Rattle.strata.specs.Strata.{stratum_of, of_stratum}
use Rattle.strata.proofs.Capped.{one_of_sixteen}
use Rattle.strata.proofs.Members.{holds_stratum}

-- A list with no shingle twice is as long as a rising list with the same members: all as positive, it is the difference to no list.
all_positive : (ss : List Shingle) → positives (lacking false [] ss) ≡ ss
unfolding positives lacking holds
all_positive [] = refl
all_positive (s ∷ ss) = ap (λ (l : List Shingle). s ∷ l) (all_positive ss)

none_negative : (ss : List Shingle) → negatives (lacking false [] ss) ≡ []
unfolding negatives lacking holds
none_negative [] = refl
none_negative (s ∷ ss) = none_negative ss

and_one : (t : Bool) → t ≡ (t && true)
and_one true = refl
and_one false = refl

pub as_many : {r : List Shingle} (ss : List Shingle) → Rising r → no_shingle_twice ss ≡ true → ((s : Shingle) → holds s ss ≡ holds s r)
    → length ss ≡ length r
unfolding new_list kept holds
as_many {r} ss rise once same =
    let zs = lacking false [] ss in
    let new = all_positive ss in
    let all : new_list [] zs ≡ r =
    new_list_lem zs rise none (record {
      positive = λ s. ap (holds s) new ∙ (same s ∙ and_one (holds s r));
      negative = λ s. ap (holds s) (none_negative ss);
      once = ap no_shingle_twice new ∙ once;
    }) in
    omega (arith, renewed-length [] (negatives zs) (positives zs), ap length all, ap length new)

-- The shingles of a stratum.
either : (P : List Shingle → Type 0) (t : Bool) {a b : List Shingle} → P a → P b → P (cond t a b)
either P true p q = p
either P false p q = q

over_of : {k : Pair} {ss : List Shingle} (i : ℕ) → Over k ss → Over k (of_stratum i ss)
unfolding of_stratum
over_of i none = none
over_of {k} i (more {s = s} e o) = either (Over k) (eqb (stratum_of s) i) (more e (over_of i o)) (over_of i o)

pub rising_of : {ss : List Shingle} (i : ℕ) → Rising ss → Rising (of_stratum i ss)
unfolding of_stratum
rising_of i none = none
rising_of i (more {s = s} o r) = either Rising (eqb (stratum_of s) i) (more (over_of i o) (rising_of i r)) (rising_of i r)

-- What a list has in a stratum and the other lacks.
both_in : (v t u : Bool) → ((v && t) && not (v && u)) ≡ (v && (t && not u))
both_in true t u = refl
both_in false t u = refl

pub lacks_of : (i : ℕ) (s : Shingle) (ss other : List Shingle)
    → (holds s (of_stratum i ss) && not (holds s (of_stratum i other))) ≡ holds s (of_stratum i (kept other ss))
lacks_of i s ss other =
    ap₂ (λ (t u : Bool). t && not u) (holds_stratum i s ss) (holds_stratum i s other)
    ∙ (both_in (eqb (stratum_of s) i) (holds s ss) (holds s other)
    ∙ sym (holds_stratum i s (kept other ss) ∙ ap (λ (t : Bool). eqb (stratum_of s) i && t) (holds_kept s other ss)))

-- How many of a list are in the first n strata: in the first sixteen, all.
unfoldable pub in_first : ℕ → List Shingle → ℕ
in_first zero ss = 0
in_first (suc n) ss = length (of_stratum n ss) + in_first n ss

in_later : (n : ℕ) (s : Shingle) (ss : List Shingle) → n ≤ stratum_of s → in_first n (s ∷ ss) ≡ in_first n ss
unfolding in_first of_stratum
in_later zero s ss h = refl
in_later (suc n) s ss h =
    rw (ne_eqb (stratum_of s) n (λ e. omega (arith, e))) (ap (λ (m : ℕ). length (of_stratum n ss) + m) (in_later n s ss (omega arith)))

in_one : (n : ℕ) (s : Shingle) (ss : List Shingle) → stratum_of s < n → in_first n (s ∷ ss) ≡ suc (in_first n ss)
unfolding in_first of_stratum
in_one zero s ss h = absurd (omega arith)
in_one (suc n) s ss h =
    elim (ℕ_discrete (stratum_of s) n) [
      | yes e ↦ rw (eq-eqb (stratum_of s) n e) (omega (arith, in_later n s ss (omega arith)))
      | no e ↦ rw (ne_eqb (stratum_of s) n e) (omega (arith, in_one n s ss (omega arith)))
    ]

pub in_sixteen : (ss : List Shingle) → in_first 16 ss ≡ length ss
unfolding in_first of_stratum
in_sixteen [] = refl
in_sixteen (s ∷ ss) = in_one 16 s ss (one_of_sixteen s) ∙ ap suc (in_sixteen ss)

-- The number of differing shingles.
length-lacking : (b : Bool) (other ss : List Shingle) → length (lacking b other ss) ≡ length (kept other ss)
unfolding lacking kept
length-lacking b other [] = refl
length-lacking b other (s ∷ ss) = go (holds s other) (length-lacking b other ss)
  where
    go : (t : Bool) → length (lacking b other ss) ≡ length (kept other ss)
        → length (cond t (lacking b other ss) (signed b s ∷ lacking b other ss)) ≡ length (cond t (kept other ss) (s ∷ kept other ss))
    go true ih = ih
    go false ih = ap suc ih

pub length_difference : (theirs own : List Shingle) → length (true_difference theirs own) ≡ length (kept own theirs) + length (kept theirs own)
unfolding true_difference
length_difference theirs own =
    length-append (lacking false own theirs) (lacking true theirs own)
    ∙ ap₂ (λ (m n : ℕ). m + n) (length-lacking false own theirs) (length-lacking true theirs own)
