-- An order takes at most 3q times: each taking empties a cell for good.
use mathlib.Core.Bool.{Bool, cond, not}
use mathlib.Core.List.{List, [], ◌∷◌}
use mathlib.Core.Path.{◌≡◌, refl, ap, ◌∙◌}
use Prim.Native.Nat.{ℕ, zero, suc, ◌+◌, ◌*◌, ◌≤◌, ◌<◌}
use native.Mathlib.Decide.{ℕ_discrete}
use native.Mathlib.Omega.{arith}
use lib.ListN.{length}
use Rattle.sketch.specs.Opening.{Signed, signed_cells, lies_in, single}
use Rattle.orders.specs.Taking.{taken_along, left_along, NoneSingle}
use Rattle.orders.specs.Left.{among, keep, not_taken, lying_in}
use Rattle.orders.proofs.Cell.{none_single}
use Rattle.orders.proofs.Kept.{keep_swap, not_taken_cons, one_alike}
use Rattle.orders.proofs.Removing.{less}
use Rattle.orders.proofs.Along.{Truly, Run}

module _ (q : ℕ) where
  -- Cells in which something lies, among the first n.
  unfoldable is_some : List Signed → ℕ
  is_some [] = 0
  is_some (z ∷ zs) = 1

  unfoldable filled : ℕ → List Signed → ℕ
  filled zero zs = 0
  filled (suc n) zs = is_some (lying_in q n zs) + filled n zs

  some_few : (zs : List Signed) → is_some zs ≤ 1
  unfolding is_some
  some_few [] = omega arith
  some_few (z ∷ zs) = omega arith

  none_some : (zs : List Signed) → is_some zs ≡ 0 → zs ≡ []
  unfolding is_some
  none_some [] e = refl
  none_some (z ∷ zs) e = absurd (omega arith)

  some_keep : (p : Signed → Bool) (zs : List Signed) → is_some (keep p zs) ≤ is_some zs
  unfolding is_some keep
  some_keep p [] = omega arith
  some_keep p (z ∷ zs) = some_few (cond (p z) (z ∷ keep p zs) (keep p zs))

  filled_few : (n : ℕ) (zs : List Signed) → filled n zs ≤ n
  unfolding filled
  filled_few zero zs = omega arith
  filled_few (suc n) zs = let h = filled_few n zs in let g = some_few (lying_in q n zs) in omega (arith, h, g)

  filled-keep : (n : ℕ) (p : Signed → Bool) (zs : List Signed) → filled n (keep p zs) ≤ filled n zs
  unfolding filled
  filled-keep zero p zs = omega arith
  filled-keep (suc n) p zs =
      let h = filled-keep n p zs in
      let g = some_keep p (lying_in q n zs) in
      let e = ap is_some (keep_swap (λ (x : Signed). lies_in q n x.shingle) p zs) in
      omega (arith, h, g, e)

  -- A taking empties its cell.
  filled-less : (n i : ℕ) (z : Signed) (zs : List Signed) → i < n → lying_in q i zs ≡ z ∷ [] → filled n (less z zs) + 1 ≤ filled n zs
  unfolding filled
  filled-less zero i z zs h lone = absurd (omega arith)
  filled-less (suc n) i z zs h lone =
      elim (ℕ_discrete i n) [
        | yes e ↦
            let here : lying_in q n zs ≡ z ∷ [] = rw e at lone in
            let full : is_some (lying_in q n zs) ≡ 1 = ap is_some here ∙ (unfold is_some in refl) in
            let empty : is_some (lying_in q n (less z zs)) ≡ 0 =
            ap is_some (keep_swap (λ (x : Signed). lies_in q n x.shingle) (λ (x : Signed). not (among x (z ∷ []))) zs ∙ ap (less z) here)
            ∙ (unfold keep is_some in rw (one_alike z) refl) in
            let others = filled-keep n (λ (x : Signed). not (among x (z ∷ []))) zs in
            omega (arith, full, empty, others)
        | no e ↦
            let ih = filled-less n i z zs (omega arith) lone in
            let g = some_keep (λ (x : Signed). not (among x (z ∷ []))) (lying_in q n zs) in
            let f = ap is_some (keep_swap (λ (x : Signed). lies_in q n x.shingle) (λ (x : Signed). not (among x (z ∷ []))) zs) in
            omega (arith, ih, g, f)
      ]

  all_empty : (n : ℕ) (zs : List Signed) → filled n zs ≡ 0 → (i : ℕ) → i < n → lying_in q i zs ≡ []
  unfolding filled
  all_empty zero zs e i h = absurd (omega arith)
  all_empty (suc n) zs e i h =
      elim (ℕ_discrete i n) [
        | yes f ↦ rw f (none_some (lying_in q n zs) (omega arith))
        | no f ↦ all_empty n zs (omega arith) i (omega arith)
      ]

  -- So the takings and the cells that are still filled are no more than the cells filled at first.
  bounded : (zs : List Signed) (order : List ℕ) (taken : List Signed) → Truly q zs order taken → length order + filled (q * 3) (not_taken taken zs) ≤ filled (q * 3) zs
  unfolding Truly
  bounded zs [] taken t = let h = filled-keep (q * 3) (λ (x : Signed). not (among x taken)) zs in omega (arith, h)
  bounded zs (i ∷ order) taken t =
      let ih = bounded (less t.0 zs) order t.1 t.5 in
      let step = filled-less (q * 3) i t.0 zs t.3 t.4 in
      let same = ap (filled (q * 3)) (ap (λ (ts : List Signed). not_taken ts zs) t.2 ∙ not_taken_cons t.0 t.1 zs) in
      omega (arith, ih, step, same)

-- An order that takes truly has at most 3q takings, and after so many nothing lies in any cell.
module _ (q levels : ℕ) (some : 1 ≤ q) (zs : List Signed) (order : List ℕ) (taking : Run q zs order) where
  abbrev taken : List Signed
  taken = taken_along q (signed_cells q zs) order

  pub few : length order ≤ q * 3
  few = let b = bounded q zs order taken taking.truly in omega (arith, b, filled_few q (q * 3) zs)

  pub enough : length order ≡ q * 3 → NoneSingle q levels (left_along q (signed_cells q zs) order)
  enough full i h =
      let b = bounded q zs order taken taking.truly in
      let empty : filled q (q * 3) (not_taken taken zs) ≡ 0 = omega (arith, b, filled_few q (q * 3) zs, full) in
      ap (λ (c : List ℕ). single q levels c i) taking.left
      ∙ none_single q i some h levels (not_taken taken zs) (all_empty q (q * 3) (not_taken taken zs) empty i h)
