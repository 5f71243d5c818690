-- The shingles of a stratum are those of the list that go to it.
use mathlib.Core.Bool.{Bool, beq, true, false, cond, not, ◌&&◌, ◌||◌}
use mathlib.Core.List.{List, [], ◌∷◌}
use mathlib.Core.Path.{◌≡◌, refl, sym, ap, ◌∙◌}
use Prim.Native.Nat.{ℕ}
use lib.Dec.{eqb}
use lib.ListN.{length}
use Rattle.shingle.specs.declared.Shingle.{Shingle}
use Rattle.shingle.specs.Table.{agree, shingle_in_table, shingles_in, holds}
use Rattle.shingle.proofs.Agreement.{agree_true}
use Rattle.sketch.specs.Opening.{all_held, none_held}
use Rattle.opening.proofs.Scanning.{Asked, at_places}
use Rattle.sketch.proofs.NewList.{and_not}
use Rattle.strata.specs.Strata.{stratum_of, of_stratum}
use Rattle.strata.specs.Steps.{each_held}

pub holds_stratum : (i : ℕ) (s : Shingle) (ss : List Shingle) → holds s (of_stratum i ss) ≡ (eqb (stratum_of s) i && holds s ss)
unfolding of_stratum holds
holds_stratum i s [] = sym (and_not (eqb (stratum_of s) i))
holds_stratum i s (x ∷ ss) = go (eqb (stratum_of x) i) (agree s x) refl refl (holds_stratum i s ss)
  where
    same : agree s x ≡ true → {t : Bool} → eqb (stratum_of x) i ≡ t → eqb (stratum_of s) i ≡ t
    same f e = ap (λ (y : Shingle). eqb (stratum_of y) i) (agree_true s x f) ∙ e

    go : (t u : Bool) → eqb (stratum_of x) i ≡ t → agree s x ≡ u → holds s (of_stratum i ss) ≡ (eqb (stratum_of s) i && holds s ss)
        → holds s (cond t (x ∷ of_stratum i ss) (of_stratum i ss)) ≡ (eqb (stratum_of s) i && (u || holds s ss))
    go true true e f ih = rw (f, same f e)
    go true false e f ih = rw f ih
    go false true e f ih = ih ∙ rw (same f e)
    go false false e f ih = ih

-- A list whose shingles are asked, each at its place, whether it is an own one.
pub own_asked : (want : Bool) (own : List Shingle) (t : List ℕ) (n : ℕ) → n ≡ length (shingles_in t) → (r : Bool)
    → Asked n r (λ k. beq (holds (shingle_in_table t k) own) want) → r ≡ each_held want own (shingles_in t)
unfolding each_held all_held none_held
own_asked true own t n size r = at_places (all_held own) (λ s ss. beq (holds s own) true) refl (λ s ss. ap (λ (b : Bool). b && all_held own ss) (yes (holds s own))) t n size r
  where
    yes : (b : Bool) → b ≡ beq b true
    yes true = refl
    yes false = refl
own_asked false own t n size r = at_places (none_held own) (λ s ss. beq (holds s own) false) refl (λ s ss. ap (λ (b : Bool). b && none_held own ss) (neither (holds s own))) t n size r
  where
    neither : (b : Bool) → not b ≡ beq b false
    neither true = refl
    neither false = refl
