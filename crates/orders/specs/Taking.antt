-- An order of taking is a row of cell indexes: the shingle is taken from each of these cells in turn.
use Rattle.std.specs.Prelude.{true, false, List, [], ◌∷◌, ◌≡◌, ℕ, ◌*◌, ◌<◌}
use Rattle.sketch.specs.Opening.{Signed, single, held_by, without, Peeled, peeled}

-- What is taken, and the cells that are left.
unfoldable pub taken_along : ℕ → List ℕ → List ℕ → List Signed
taken_along q cells [] = []
taken_along q cells (i ∷ order) = held_by cells i ∷ taken_along q (without q (held_by cells i) cells) order

unfoldable pub left_along : ℕ → List ℕ → List ℕ → List ℕ
left_along q cells [] = cells
left_along q cells (i ∷ order) = left_along q (without q (held_by cells i) cells) order

abbrev pub peeled_along : ℕ → List ℕ → List ℕ → Peeled
peeled_along q cells order = peeled (taken_along q cells order) (left_along q cells order)

-- "taking single cells": each cell is single when its turn comes.
unfoldable pub Singly : (q levels : ℕ) → List ℕ → List ℕ → Type 0
Singly q levels cells [] = Unit {0}
Singly q levels cells (i ∷ order) =
    (i < q * 3) × (single q levels cells i ≡ true) × Singly q levels (without q (held_by cells i) cells) order

-- "no single cell is left"
abbrev pub NoneSingle : (q levels : ℕ) → List ℕ → Type 0
NoneSingle q levels cells = (i : ℕ) → i < q * 3 → single q levels cells i ≡ false

-- An "order of taking that goes on until no single cell is left".
pub record Whole (q levels : ℕ) (cells order : List ℕ) : Type 0 where
  pub singly : Singly q levels cells order
  pub ended : NoneSingle q levels (left_along q cells order)
