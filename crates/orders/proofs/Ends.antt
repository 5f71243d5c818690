-- All orders of taking that go on until no single cell is left end alike.
use mathlib.Core.Bool.{Bool, true, false, not, ◌&&◌, ◌||◌}
use mathlib.Core.List.{List, [], ◌∷◌}
use mathlib.Core.Path.{◌≡◌, refl, sym, ap, ◌∙◌}
use Prim.Native.Nat.{ℕ, ◌≤◌}
use Rattle.entries.proofs.Linear.{both}
use Rattle.shingle.proofs.PairOrder.{and_true}
use Rattle.sketch.specs.Opening.{Signed, signed_cells, single}
use Rattle.orders.specs.Taking.{taken_along, peeled_along, Whole}
use Rattle.orders.specs.Left.{alike, among, not_taken}
use Rattle.orders.specs.Orders.{SameEnd}
use Rattle.orders.proofs.Kept.{alike_true, among-keep, keep_both}
use Rattle.orders.proofs.Removing.{less, alone_there}
use Rattle.orders.proofs.Along.{AllWithin, TruthfulFrom, Truly, Run, run, stays}

-- Of two lists of members, what is left decides what was taken.
decide : (d a b : Bool) → (a ≡ true → d ≡ true) → (b ≡ true → d ≡ true) → (d && not a) ≡ (d && not b) → a ≡ b
decide true true true p q e = refl
decide true true false p q e = sym e
decide true false true p q e = sym e
decide true false false p q e = refl
decide false true b p q e = absurd (both (p refl) refl)
decide false false true p q e = absurd (both (q refl) refl)
decide false false false p q e = refl

-- What is taken was there.
pub taken_there : (q : ℕ) (zs : List Signed) (order : List ℕ) (taken : List Signed) → Truly q zs order taken → (x : Signed) → among x taken ≡ true → among x zs ≡ true
unfolding Truly
taken_there q zs [] taken t x e = absurd (both e (ap (among x) t ∙ (unfold among in refl)))
taken_there q zs (i ∷ order) taken t x e =
    go (alike x t.0) refl (unfold among in sym (ap (among x) t.2) ∙ e) (λ f. taken_there q (less t.0 zs) order t.1 t.5 x f)
  where
    go : (b : Bool) → alike x t.0 ≡ b → (alike x t.0 || among x t.1) ≡ true → (among x t.1 ≡ true → among x (less t.0 zs) ≡ true)
        → among x zs ≡ true
    go true f g ih = ap (λ (y : Signed). among y zs) (alike_true x t.0 f) ∙ (alone_there q i t.0 zs t.4).0
    go false f g ih =
        (and_true (among x zs) (not (among x (t.0 ∷ []))) (sym (among-keep x (λ (y : Signed). not (among y (t.0 ∷ []))) zs) ∙ ih (rw f at g))).0

module _ (q levels : ℕ) (some : 1 ≤ q) (low : levels ≤ 4) (zs : List Signed) (within : AllWithin levels zs) (truthful : TruthfulFrom q levels zs)
    (order other : List ℕ) (one : Whole q levels (signed_cells q zs) order) (two : Whole q levels (signed_cells q zs) other) where
  abbrev takes : List Signed
  takes = taken_along q (signed_cells q zs) order

  abbrev takes' : List Signed
  takes' = taken_along q (signed_cells q zs) other

  first : Run q zs order
  first = run q levels some low zs order within truthful one.singly

  second : Run q zs other
  second = run q levels some low zs other within truthful two.singly

  -- Each leaves a part of what the other leaves.
  same_rest : not_taken takes zs ≡ not_taken takes' zs
  same_rest =
      keep_both (λ (z : Signed). not (among z takes)) (λ (z : Signed). not (among z takes')) (not_taken takes zs) (not_taken takes' zs)
      (stays q levels some low zs other takes' within second.truly (λ (z : Signed). not (among z takes))
      (λ j h. ap (λ (c : List ℕ). single q levels c j) (sym first.left) ∙ one.ended j h))
      (stays q levels some low zs order takes within first.truly (λ (z : Signed). not (among z takes'))
      (λ j h. ap (λ (c : List ℕ). single q levels c j) (sym second.left) ∙ two.ended j h))

  pub same_end : SameEnd (peeled_along q (signed_cells q zs) order) (peeled_along q (signed_cells q zs) other)
  same_end =
      record {
        cells = first.left ∙ (ap (signed_cells q) same_rest ∙ sym second.left);
        set = λ z.
            decide (among z zs) (among z takes) (among z takes')
            (taken_there q zs order takes first.truly z) (taken_there q zs other takes' second.truly z)
            (sym (among-keep z _ zs) ∙ (ap (among z) same_rest ∙ among-keep z _ zs));
      }
