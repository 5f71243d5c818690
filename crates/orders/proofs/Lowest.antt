-- Document 01's order, "the single cell of lowest index .., at most 3q times", goes on until no single cell is left.
use mathlib.Core.Bool.{Bool, true, false, cond}
use mathlib.Core.List.{List, [], ◌∷◌}
use mathlib.Core.Logic.{◌⊎◌, inl, inr, ⊎_elim}
use mathlib.Core.Path.{◌≡◌, refl, ap, ◌∙◌}
use Prim.Native.Nat.{ℕ, zero, suc, ◌+◌, ◌*◌, ◌≤◌, ◌<◌}
use native.Mathlib.Decide.{ℕ_discrete}
use native.Mathlib.Omega.{arith}
use borrow.Author.Tests.{ltb-true, ltb-false}
use lib.Dec.{ltb}
use lib.ListN.{length}
use Rattle.sketch.specs.Opening.{Signed, signed_cells, single, first_from, lowest, held_by, without, Peeled, after, take_one, peel}
use Rattle.single.proofs.First.{lowest-single}
use Rattle.orders.specs.Taking.{taken_along, left_along, Singly, NoneSingle, Whole}
use Rattle.orders.specs.Left.{not_taken}
use Rattle.orders.proofs.Cell.{none_single}
use Rattle.orders.proofs.Along.{AllWithin, TruthfulFrom, Run, run}
use Rattle.orders.proofs.Bound.{enough}

-- Document 01's order: the lowest single cell, at most so many times.
none_first : (test : ℕ → Bool) (n i : ℕ) → i + n ≤ first_from test n i → (j : ℕ) → i ≤ j → j < i + n → test j ≡ false
unfolding first_from
none_first test zero i h j a b = absurd (omega arith)
none_first test (suc n) i h j a b = go (test i) refl h (λ g c d. none_first test n (suc i) g j c d)
  where
    go : (t : Bool) → test i ≡ t → i + suc n ≤ cond t i (first_from test n (suc i))
        → (suc i + n ≤ first_from test n (suc i) → suc i ≤ j → j < suc i + n → test j ≡ false) → test j ≡ false
    go true e h rest = absurd (omega arith)
    go false e h rest =
        elim (ℕ_discrete j i) [
          | yes f ↦ ap test f ∙ e
          | no f ↦ rest (omega arith) (omega arith) (omega arith)
        ]

module _ (q levels : ℕ) where
  pub none_lowest : (cells : List ℕ) → q * 3 ≤ lowest q levels cells → NoneSingle q levels cells
  unfolding lowest
  none_lowest cells h i l = none_first (single q levels cells) (q * 3) 0 (omega arith) i (omega arith) (omega arith)

  -- The cells that it takes from.
  unfoldable pub order_step : (List ℕ → List ℕ) → List ℕ → ℕ → Bool → List ℕ
  order_step next cells i true = i ∷ next (without q (held_by cells i) cells)
  order_step next cells i false = []

  unfoldable pub lowest_order : ℕ → List ℕ → List ℕ
  lowest_order zero cells = []
  lowest_order (suc n) cells = order_step (λ (rest : List ℕ). lowest_order n rest) cells (lowest q levels cells) (ltb (lowest q levels cells) (q * 3))

  -- Taking so is taking in that order, until no single cell is left or n were taken.
  pub record PeelsBy (p : Peeled) (cells order : List ℕ) (n : ℕ) : Type 0 where
    pub singly : Singly q levels cells order
    pub taken : p.taken ≡ taken_along q cells order
    pub left : p.left ≡ left_along q cells order
    pub ends : NoneSingle q levels (left_along q cells order) ⊎ (length order ≡ n)

  pub peels : (n : ℕ) (cells : List ℕ) → PeelsBy (peel q levels n cells) cells (lowest_order n cells) n
  unfolding peel lowest_order take_one order_step after Singly taken_along left_along
  peels zero cells = record { singly = tt; taken = refl; left = refl; ends = inr refl }
  peels (suc n) cells =
      go (ltb (lowest q levels cells) (q * 3)) refl
      (peels n (without q (held_by cells (lowest q levels cells)) cells))
    where
      go : (t : Bool) → ltb (lowest q levels cells) (q * 3) ≡ t
          → PeelsBy (peel q levels n (without q (held_by cells (lowest q levels cells)) cells)) (without q (held_by cells (lowest q levels cells)) cells)
          (lowest_order n (without q (held_by cells (lowest q levels cells)) cells)) n
          → PeelsBy (take_one q (λ (rest : List ℕ). peel q levels n rest) cells (lowest q levels cells) t) cells
          (order_step (λ (rest : List ℕ). lowest_order n rest) cells (lowest q levels cells) t) (suc n)
      go true e r =
          let h = ltb-true (lowest q levels cells) (q * 3) e in
          record {
            singly = (h, lowest-single q levels cells h, r.singly);
            taken = ap (λ (zs : List Signed). held_by cells (lowest q levels cells) ∷ zs) r.taken;
            left = r.left;
            ends = ⊎_elim (λ none. inl none) (λ f. inr (ap suc f)) r.ends;
          }
      go false e r =
          record { singly = tt; taken = refl; left = refl; ends = inl (none_lowest cells (ltb-false (lowest q levels cells) (q * 3) e)) }

module _ (q levels : ℕ) (some : 1 ≤ q) (low : levels ≤ 4) (zs : List Signed) (within : AllWithin levels zs) (truthful : TruthfulFrom q levels zs) where
  abbrev own_order : List ℕ
  own_order = lowest_order q levels (q * 3) (signed_cells q zs)

  pub own_whole : Whole q levels (signed_cells q zs) own_order
  own_whole =
      let by = peels q levels (q * 3) (signed_cells q zs) in
      let taking = run q levels some low zs own_order within truthful by.singly in
      record { singly = by.singly; ended = ⊎_elim (λ none. none) (λ full. enough q levels some zs own_order taking full) by.ends }
