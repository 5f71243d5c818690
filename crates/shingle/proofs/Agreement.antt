-- The test for equal shingles decides.
use mathlib.Core.Bool.{true}
use mathlib.Core.Path.{◌≡◌, refl, sym, ap, ◌∙◌}
use borrow.Author.Tests.{eqb-true, eq-eqb}
use lib.Dec.{eqb}
use Rattle.shingle.specs.declared.Shingle.{Shingle}
use Rattle.shingle.specs.Table.{agree}
use Rattle.shingle.proofs.PairOrder.{and_true}

pub agree_true : (a b : Shingle) → agree a b ≡ true → a ≡ b
unfolding agree
agree_true a b e =
    let p = and_true (eqb a.previous b.previous) _ e in
    let q = and_true (eqb a.own b.own) _ p.1 in
    let r = and_true (eqb a.level b.level) _ q.1 in
    let one = eqb-true a.previous b.previous p.0 in
    let two = eqb-true a.own b.own q.0 in
    let three = eqb-true a.level b.level r.0 in
    let four = eqb-true a.count b.count r.1 in
    λ i. record { previous = one i; own = two i; level = three i; count = four i }

pub agree_self : (a : Shingle) → agree a a ≡ true
unfolding agree
agree_self a =
    rw (eq-eqb a.previous a.previous refl, eq-eqb a.own a.own refl, eq-eqb a.level a.level refl, eq-eqb a.count a.count refl)

pub agree_equal : (a b : Shingle) → a ≡ b → agree a b ≡ true
agree_equal a b e = ap (agree a) (sym e) ∙ agree_self a
