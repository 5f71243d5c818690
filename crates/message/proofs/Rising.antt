-- References that rise by index, met one by one: each is at least as high as the one before it allows. And an order that falls is found,
-- wherever it does.
use Rattle.std.proofs.Common.{Bool, true, false, ◌&&◌, List, [], ◌∷◌, ◌++◌, ◌≡◌, refl, ap, ◌∙◌, ℕ, suc, ◌<◌, ◌≤◌, arith, leb-true, leb, ltb}
use Rattle.std.proofs.Math.Bool.{and-false}
use Rattle.std.proofs.lemmas.Bool.{lt-leb}
use Rattle.std.proofs.Math.Dec.{leb-zero}
use Rattle.message.specs.Words.{Ref}
use Rattle.message.specs.Fields.{rising}

-- The first index is at least `least`, and each later one is above the one before it.
unfoldable pub rising_from : ℕ → List Ref → Bool
rising_from least [] = true
rising_from least (r ∷ refs) = leb least r.index && rising_from (suc r.index) refs

rising_after : (r : Ref) (refs : List Ref) → rising (r ∷ refs) ≡ rising_from (suc r.index) refs
unfolding rising rising_from
rising_after r [] = refl
rising_after r (next ∷ refs) = ap (λ (t : Bool). ltb r.index next.index && t) (rising_after next refs)

pub rising_from_zero : (refs : List Ref) → rising refs ≡ rising_from 0 refs
unfolding rising rising_from
rising_from_zero [] = refl
rising_from_zero (r ∷ refs) = rw (leb-zero r.index) (rising_after r refs)

-- An index below the least one is found.
too_low : (least : ℕ) (before : List Ref) (r : Ref) (after : List Ref) → r.index < least → rising_from least (before ++ (r ∷ after)) ≡ false
unfolding rising_from
too_low least [] r after h = rw (lt-leb least r.index h) refl
too_low least (b ∷ before) r after h = at_first (leb least b.index) refl (too_low (suc b.index) before r after)
  where
    at_first : (t : Bool) → leb least b.index ≡ t → (r.index < suc b.index → rising_from (suc b.index) (before ++ (r ∷ after)) ≡ false)
        → (t && rising_from (suc b.index) (before ++ (r ∷ after))) ≡ false
    at_first true e rest = rest (let l = leb-true least b.index e in omega (arith, h, l))
    at_first false e rest = refl

falls_from : (least : ℕ) (front : List Ref) (high : Ref) (between : List Ref) (low : Ref) (back : List Ref) → low.index ≤ high.index
    → rising_from least (front ++ (high ∷ between ++ (low ∷ back))) ≡ false
unfolding rising_from
falls_from least [] high between low back h = rw (too_low (suc high.index) between low back (omega (arith, h))) (and-false (leb least high.index))
falls_from least (r ∷ front) high between low back h = rw (falls_from (suc r.index) front high between low back h) (and-false (leb least r.index))

-- References do not rise if one of them comes, next to it or later, after one of the same or a higher index.
pub falling : (front : List Ref) (high : Ref) (between : List Ref) (low : Ref) (back : List Ref) → low.index ≤ high.index
    → rising (front ++ (high ∷ between ++ (low ∷ back))) ≡ false
falling front high between low back h = rising_from_zero _ ∙ falls_from 0 front high between low back h
