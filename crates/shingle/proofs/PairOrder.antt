-- Pairs: their order is linear, and the test for equal pairs decides.
use mathlib.Core.Bool.{Bool, true, false, ◌&&◌}
use mathlib.Core.Path.{◌≡◌, refl, sym, ap, ◌∙◌}
use borrow.Author.Tests.{eqb-true, eq-eqb}
use lib.Dec.{eqb}
use Rattle.entries.proofs.Linear.{Compared, less, equal, greater, Linear, both}
use Rattle.entries.proofs.Order.{Keys, ahead, alike, behind, keys, earlier_alike, earlier_transitive}
use Rattle.shingle.specs.Shingles.{Pair, lower}
use Rattle.shingle.specs.Rising.{same_pair}

compare_keys : (a b : Pair) → Keys a.level a.previous a.own b.level b.previous b.own → Compared lower a b
unfolding lower
compare_keys a b (ahead e f) = less (e _) (f _)
compare_keys a b (alike e f g) = equal (λ i. record { level = e i; previous = f i; own = g i })
compare_keys a b (behind e f) = greater (e _) (f _)

lower_irreflexive : (a : Pair) → lower a a ≡ false
unfolding lower
lower_irreflexive a = earlier_alike _ _ _ _ _ _ _ refl refl refl

lower_transitive : (a b c : Pair) → lower a b ≡ true → lower b c ≡ true → lower a c ≡ true
unfolding lower
lower_transitive a b c = earlier_transitive _ _ _ _ _ _ _ _ _ _ _ _ (λ e f. e)

pub pairs_linear : Linear lower
pairs_linear = record { compare = λ a b. compare_keys a b (keys _ _ _ _ _ _); irreflexive = lower_irreflexive; transitive = lower_transitive }

pub and_true : (s t : Bool) → (s && t) ≡ true → (s ≡ true) × (t ≡ true)
and_true true t e = (refl, e)
and_true false t e = absurd (both e refl)

pub same_true : (a b : Pair) → same_pair a b ≡ true → a ≡ b
unfolding same_pair
same_true a b e =
    let p = and_true (eqb a.level b.level) _ e in
    let q = and_true (eqb a.previous b.previous) _ p.1 in
    let one = eqb-true a.level b.level p.0 in
    let two = eqb-true a.previous b.previous q.0 in
    let three = eqb-true a.own b.own q.1 in
    λ i. record { level = one i; previous = two i; own = three i }

pub same_self : (a : Pair) → same_pair a a ≡ true
unfolding same_pair
same_self a = rw (eq-eqb a.level a.level refl, eq-eqb a.previous a.previous refl, eq-eqb a.own a.own refl)

pub same_equal : (a b : Pair) → a ≡ b → same_pair a b ≡ true
same_equal a b e = ap (same_pair a) (sym e) ∙ same_self a

pub same_false : (a b : Pair) → same_pair a b ≡ false → a ≡ b → ⊥
same_false a b e f = both (same_equal a b f) e

pub same_lower : (a b : Pair) → lower a b ≡ true → same_pair a b ≡ false
same_lower a b e = go (same_pair a b) refl
  where
    go : (t : Bool) → same_pair a b ≡ t → same_pair a b ≡ false
    go true f = absurd (both e (ap (lower a) (sym (same_true a b f)) ∙ lower_irreflexive a))
    go false f = f
