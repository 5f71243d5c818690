-- Nothing is left of a difference that can be lined up: the first of the line that is left would be alone in its cell.
use mathlib.Core.Bool.{Bool, true, false, cond, not, ◌||◌}
use mathlib.Core.List.{List, [], ◌∷◌}
use mathlib.Core.Path.{◌≡◌, refl, sym, ap, ◌∙◌}
use Prim.Native.Nat.{ℕ, ◌≤◌}
use Rattle.entries.proofs.Linear.{both}
use Rattle.shingle.specs.Table.{holds}
use Rattle.shingle.proofs.PairOrder.{and_true}
use Rattle.sketch.specs.Opening.{Signed, signed_cells, lies_in, shingles_of, no_shingle_twice}
use Rattle.sketch.proofs.NewList.{or_right, not_true}
use Rattle.orders.specs.Taking.{NoneSingle}
use Rattle.orders.specs.Left.{alike, among, keep, lying_in, EachAlone}
use Rattle.orders.proofs.Cell.{one_single}
use Rattle.orders.proofs.Kept.{alike_true, alike_self, among-keep}
use Rattle.orders.proofs.Removing.{alone_there}
use Rattle.orders.proofs.Along.{AllWithin}
use Rattle.orders.proofs.Signs.{among-holds}

-- One that lies in the cell, and no other does.
module _ (q i : ℕ) where
  none_lying : (zs : List Signed) → ((x : Signed) → among x zs ≡ true → lies_in q i x.shingle ≡ true → ⊥) → lying_in q i zs ≡ []
  unfolding keep among
  none_lying [] h = refl
  none_lying (x ∷ zs) h = go (lies_in q i x.shingle) refl (none_lying zs (λ y e. h y (or_right (alike y x) e)))
    where
      go : (t : Bool) → lies_in q i x.shingle ≡ t → lying_in q i zs ≡ [] → cond t (x ∷ lying_in q i zs) (lying_in q i zs) ≡ []
      go true e ih = absurd (h x (rw (alike_self x) refl) e)
      go false e ih = ih

  pub lone_lying : (z : Signed) (zs : List Signed) → no_shingle_twice (shingles_of zs) ≡ true → among z zs ≡ true → lies_in q i z.shingle ≡ true
      → ((x : Signed) → among x zs ≡ true → lies_in q i x.shingle ≡ true → x ≡ z) → lying_in q i zs ≡ z ∷ []
  unfolding keep among no_shingle_twice shingles_of
  lone_lying z [] once there lies same = absurd (both there refl)
  lone_lying z (x ∷ zs) once there lies same =
      let tests = and_true (not (holds x.shingle (shingles_of zs))) (no_shingle_twice (shingles_of zs)) once in
      let later : (y : Signed) → among y zs ≡ true → lies_in q i y.shingle ≡ true → y ≡ z = λ y e f. same y (or_right (alike y x) e) f in
      go (lies_in q i x.shingle) refl (not_true (holds x.shingle (shingles_of zs)) tests.0) later (λ e. lone_lying z zs tests.1 e lies later)
    where
      go : (t : Bool) → lies_in q i x.shingle ≡ t → holds x.shingle (shingles_of zs) ≡ false
          → ((y : Signed) → among y zs ≡ true → lies_in q i y.shingle ≡ true → y ≡ z)
          → (among z zs ≡ true → lying_in q i zs ≡ z ∷ []) → cond t (x ∷ lying_in q i zs) (lying_in q i zs) ≡ z ∷ []
      go true e out later ih =
          let first = same x (rw (alike_self x) refl) e in
          let others = none_lying zs (λ y f g.
          both (ap (λ (w : Signed). holds w.shingle (shingles_of zs)) (first ∙ sym (later y f g)) ∙ among-holds y zs f) out) in
          λ j. first j ∷ others j
      go false e out later ih = ih (rest (alike z x) refl there)
        where
          rest : (t : Bool) → alike z x ≡ t → (t || among z zs) ≡ true → among z zs ≡ true
          rest true f g = absurd (both (ap (λ (w : Signed). lies_in q i w.shingle) (sym (alike_true z x f)) ∙ lies) e)
          rest false f g = g

pub lined_empty : (q levels : ℕ) → 1 ≤ q → levels ≤ 4 → (line zs : List Signed) → EachAlone q line → no_shingle_twice (shingles_of zs) ≡ true
    → AllWithin levels zs → NoneSingle q levels (signed_cells q zs) → ((x : Signed) → among x zs ≡ true → among x line ≡ true) → zs ≡ []
unfolding EachAlone among
lined_empty q levels some low [] [] each once within none sub = refl
lined_empty q levels some low [] (z ∷ zs) each once within none sub = absurd (both (sub z (rw (alike_self z) refl)) refl)
lined_empty q levels some low (z ∷ line) zs each once within none sub =
    lined_empty q levels some low line zs each.1 once within none (λ x e. go x e (alike x z) refl (sub x e))
  where
    not_there : among z zs ≡ true → ⊥
    not_there there =
        let lies = (alone_there q each.0.cell z (z ∷ line) each.0.alone).1 in
        let lone = lone_lying q each.0.cell z zs once there lies (λ x e f. only x (sub x e) f) in
        both (one_single q each.0.cell some each.0.within levels low z (within z there) zs lone lies) (none each.0.cell each.0.within)
      where
        only : (x : Signed) → among x (z ∷ line) ≡ true → lies_in q each.0.cell x.shingle ≡ true → x ≡ z
        only x e f =
            let here : among x (z ∷ []) ≡ true =
            sym (ap (among x) each.0.alone) ∙ (among-keep x (λ (y : Signed). lies_in q each.0.cell y.shingle) (z ∷ line) ∙ rw (e, f) refl) in
            one x (alike x z) refl here
          where
            one : (x : Signed) (t : Bool) → alike x z ≡ t → (t || false) ≡ true → x ≡ z
            one x true g h = alike_true x z g
            one x false g h = absurd (both h refl)

    go : (x : Signed) → among x zs ≡ true → (t : Bool) → alike x z ≡ t → (t || among x line) ≡ true → among x line ≡ true
    go x e true f g = absurd (not_there (ap (λ (y : Signed). among y zs) (sym (alike_true x z f)) ∙ e))
    go x e false f g = g
