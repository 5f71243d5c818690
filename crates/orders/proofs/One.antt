-- A difference of one shingle: its three cells are single and truly hold it, no other cell is single, and one taking empties all three.
use mathlib.Core.Bool.{Bool, true, false, cond}
use mathlib.Core.List.{List, [], ◌∷◌}
use mathlib.Core.Path.{◌≡◌, refl, sym, ap, subst, ◌∙◌}
use Prim.Native.Nat.{ℕ, ◌+◌, ◌*◌, ◌%◌, ◌≤◌, ◌<◌}
use native.Mathlib.Nat.{mod-lt}
use native.Mathlib.Omega.{arith}
use borrow.Author.Tests.{eq-eqb}
use Rattle.entries.proofs.Linear.{both}
use Rattle.sketch.specs.Cells.{tag_of, cell_of}
use Rattle.sketch.specs.Opening.{Signed, signed_cells, lies_in, single, held_by, without}
use Rattle.orders.specs.Taking.{taken_along, left_along, Singly}
use Rattle.orders.specs.Left.{keep, not_taken, lying_in, HoldsOne, EachAlone}
use Rattle.orders.specs.Limits.{Limited}
use Rattle.orders.proofs.Cell.{one_held, none_single}
use Rattle.orders.proofs.Kept.{one_alike, not_taken_none}
use Rattle.orders.proofs.Removing.{alone_there, removed}
use Rattle.orders.proofs.Along.{TruthfulFrom}

module _ (q levels : ℕ) (some : 1 ≤ q) (low : levels ≤ 4) (z : Signed) (limited : Limited levels z.shingle) where
  one_lies : (i : ℕ) → i < q * 3 → single q levels (signed_cells q (z ∷ [])) i ≡ true → lying_in q i (z ∷ []) ≡ z ∷ []
  unfolding keep
  one_lies i h e = go (lies_in q i z.shingle) refl
    where
      go : (t : Bool) → lies_in q i z.shingle ≡ t → cond t (z ∷ []) [] ≡ z ∷ []
      go true f = refl
      go false f = absurd (both e (none_single q i some h levels (z ∷ []) (rw f refl)))

  after_one : (i : ℕ) → i < q * 3 → single q levels (signed_cells q (z ∷ [])) i ≡ true
      → without q (held_by (signed_cells q (z ∷ [])) i) (signed_cells q (z ∷ [])) ≡ signed_cells q []
  after_one i h e =
      let lone = one_lies i h e in
      ap (λ (x : Signed). without q x (signed_cells q (z ∷ []))) (one_held q i some h levels low z limited (z ∷ []) lone)
      ∙ (removed q i z (alone_there q i z (z ∷ []) lone).1 (z ∷ []) lone ∙ ap (signed_cells q) (unfold keep in rw (one_alike z) refl))

  nothing_single : (i : ℕ) → i < q * 3 → single q levels (signed_cells q []) i ≡ true → ⊥
  nothing_single i h e = both e (none_single q i some h levels [] (unfold keep in refl))

  nothing_after : (order : List ℕ) (i : ℕ) → Singly q levels (signed_cells q []) order → i < q * 3 → single q levels (left_along q (signed_cells q []) order) i ≡ true → ⊥
  unfolding Singly left_along
  nothing_after [] i turn h e = nothing_single i h e
  nothing_after (j ∷ order) i turn h e = nothing_single j turn.0 turn.1

  pub one_truthful : TruthfulFrom q levels (z ∷ [])
  unfolding Singly left_along taken_along
  one_truthful = record { truly = truly }
    where
      truly : (order : List ℕ) → Singly q levels (signed_cells q (z ∷ [])) order → (i : ℕ) → i < q * 3
          → single q levels (left_along q (signed_cells q (z ∷ [])) order) i ≡ true → HoldsOne q i (not_taken (taken_along q (signed_cells q (z ∷ [])) order) (z ∷ []))
      truly [] turn i h e = subst (HoldsOne q i) (sym (not_taken_none (z ∷ []))) (record { one = z; alone = one_lies i h e })
      truly (j ∷ order) turn i h e =
          let next = after_one j turn.0 turn.1 in
          absurd (nothing_after order i (subst (λ (c : List ℕ). Singly q levels c order) next turn.2) h
          (sym (ap (λ (c : List ℕ). single q levels (left_along q c order) i) next) ∙ e))

  -- It is alone in its first cell.
  pub one_alone : EachAlone q (z ∷ [])
  unfolding EachAlone keep lies_in cell_of
  one_alone =
      let first = 0 * q + tag_of 0 z.shingle % q in
      let low-hash = mod-lt (tag_of 0 z.shingle) some in
      (record { cell = first; within = omega (arith, low-hash); alone = rw (eq-eqb first first refl) refl }, tt)
