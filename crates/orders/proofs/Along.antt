-- Orders of taking over the cells of signed shingles. Where each single cell truly holds one shingle, a taking removes just that one; so a state
-- is what is left of the difference, and no order can leave behind what another takes: it would be alone in its cell there too.
use mathlib.Core.Bool.{Bool, true, false, not, ◌&&◌}
use mathlib.Core.List.{List, [], ◌∷◌}
use mathlib.Core.Path.{◌≡◌, refl, sym, ap, subst, ◌∙◌}
use Prim.Native.Nat.{ℕ, ◌*◌, ◌≤◌, ◌<◌}
use Rattle.entries.proofs.Linear.{both}
use Rattle.shingle.proofs.PairOrder.{and_true}
use Rattle.sketch.specs.Opening.{Signed, signed_cells, lies_in, single, held_by, without}
use Rattle.orders.specs.Taking.{taken_along, left_along, Singly, NoneSingle}
use Rattle.orders.specs.Left.{alike, among, keep, not_taken, lying_in, HoldsOne}
use Rattle.orders.specs.Limits.{Limited}
use Rattle.orders.proofs.Cell.{one_held, one_single}
use Rattle.orders.proofs.Kept.{alike_true, keep-keep, keep_same, keep_swap, among-keep, not_taken_cons, not_taken_none, alike_one, one_alike}
use Rattle.orders.proofs.Removing.{less, alone_there, removed}

-- All of these are within document 01's limits.
abbrev pub AllWithin : ℕ → List Signed → Type 0
AllWithin levels zs = (z : Signed) → among z zs ≡ true → Limited levels z.shingle

pub within_keep : {levels : ℕ} (p : Signed → Bool) (zs : List Signed) → AllWithin levels zs → AllWithin levels (keep p zs)
within_keep p zs h z e = h z (and_true (among z zs) (p z) (sym (among-keep z p zs) ∙ e)).0

-- Each single cell that any order comes to truly holds one of what is left.
pub record TruthfulFrom (q levels : ℕ) (zs : List Signed) : Type 0 where
  pub truly : (order : List ℕ) → Singly q levels (signed_cells q zs) order → (i : ℕ) → i < q * 3
      → single q levels (left_along q (signed_cells q zs) order) i ≡ true → HoldsOne q i (not_taken (taken_along q (signed_cells q zs) order) zs)

-- An order takes these one after the other, each alone in its cell.
unfoldable pub Truly : ℕ → List Signed → List ℕ → List Signed → Type 0
Truly q zs [] taken = taken ≡ []
Truly q zs (i ∷ order) taken =
    (z : Signed) × (rest : List Signed) × (taken ≡ z ∷ rest) × (i < q * 3) × (lying_in q i zs ≡ z ∷ []) × Truly q (less z zs) order rest

pub record Run (q : ℕ) (zs : List Signed) (order : List ℕ) : Type 0 where
  pub truly : Truly q zs order (taken_along q (signed_cells q zs) order)
  pub left : left_along q (signed_cells q zs) order ≡ signed_cells q (not_taken (taken_along q (signed_cells q zs) order) zs)

module _ (q levels : ℕ) (some : 1 ≤ q) (low : levels ≤ 4) where
  module _ (zs : List Signed) (within : AllWithin levels zs) (truthful : TruthfulFrom q levels zs) (i : ℕ) (in-range : i < q * 3)
      (is-single : single q levels (signed_cells q zs) i ≡ true) where
    first_holds : HoldsOne q i zs
    unfolding Singly left_along taken_along
    first_holds = subst (HoldsOne q i) (not_taken_none zs) (truthful.truly [] tt i in-range is-single)

    abbrev it : Signed
    it = first_holds.one

    lone : lying_in q i zs ≡ it ∷ []
    lone = first_holds.alone

    held : held_by (signed_cells q zs) i ≡ it
    held = one_held q i some in-range levels low it (within it (alone_there q i it zs lone).0) zs lone

    next_cells : without q (held_by (signed_cells q zs) i) (signed_cells q zs) ≡ signed_cells q (less it zs)
    next_cells = ap (λ (z : Signed). without q z (signed_cells q zs)) held ∙ removed q i it (alone_there q i it zs lone).1 zs lone

    next_taken : (order : List ℕ) → not_taken (held_by (signed_cells q zs) i ∷ taken_along q (without q (held_by (signed_cells q zs) i) (signed_cells q zs)) order) zs
        ≡ not_taken (taken_along q (signed_cells q (less it zs)) order) (less it zs)
    next_taken order =
        (λ k. not_taken (held k ∷ taken_along q (next_cells k) order) zs) ∙ not_taken_cons it (taken_along q (signed_cells q (less it zs)) order) zs

    next_truthful : TruthfulFrom q levels (less it zs)
    unfolding left_along taken_along Singly
    next_truthful =
        record {
          truly = λ order turn j h s.
              let before = subst (λ (c : List ℕ). Singly q levels c order) (sym next_cells) turn in
              let there = truthful.truly (i ∷ order) (in-range, is-single, before) j h
              (ap (λ (c : List ℕ). single q levels (left_along q c order) j) next_cells ∙ s) in
              subst (HoldsOne q j) (next_taken order) there;
        }

    next_run : (order : List ℕ) → Run q (less it zs) order → Run q zs (i ∷ order)
    unfolding left_along taken_along Truly
    next_run order r =
        record {
          truly = (it, taken_along q (signed_cells q (less it zs)) order, (λ k. held k ∷ taken_along q (next_cells k) order), in-range, lone, r.truly);
          left = ap (λ (c : List ℕ). left_along q c order) next_cells ∙ (r.left ∙ ap (signed_cells q) (sym (next_taken order)));
        }

  pub run : (zs : List Signed) (order : List ℕ) → AllWithin levels zs → TruthfulFrom q levels zs → Singly q levels (signed_cells q zs) order → Run q zs order
  unfolding Singly left_along taken_along Truly
  run zs [] within truthful turn = record { truly = refl; left = ap (signed_cells q) (sym (not_taken_none zs)) }
  run zs (i ∷ order) within truthful turn =
      let z = it zs within truthful i turn.0 turn.1 in
      next_run zs within truthful i turn.0 turn.1 order
      (run (less z zs) order (within_keep (λ (x : Signed). not (among x (z ∷ []))) zs within) (next_truthful zs within truthful i turn.0 turn.1)
      (subst (λ (c : List ℕ). Singly q levels c order) (next_cells zs within truthful i turn.0 turn.1) turn.2))

  -- A shingle that is kept lies alone in its cell among those kept, so that the cell is single.
  kept_single : (zs : List Signed) (i : ℕ) (z : Signed) (p : Signed → Bool) → AllWithin levels zs → i < q * 3 → lying_in q i zs ≡ z ∷ [] → p z ≡ true
      → single q levels (signed_cells q (keep p zs)) i ≡ true
  kept_single zs i z p within h lone e =
      let there = alone_there q i z zs lone in
      let still : lying_in q i (keep p zs) ≡ z ∷ [] =
      keep_swap (λ (x : Signed). lies_in q i x.shingle) p zs ∙ (ap (keep p) lone ∙ (unfold keep in rw e refl)) in
      one_single q i some h levels low z (within z there.0) (keep p zs) still there.1

  -- One that is not kept may be taken before.
  not_kept : (zs : List Signed) (z : Signed) (p : Signed → Bool) → p z ≡ false → keep p zs ≡ keep p (less z zs)
  not_kept zs z p e =
      keep_same p (λ (x : Signed). not (among x (z ∷ [])) && p x) zs (λ x. go x (alike x z) refl)
      ∙ sym (keep-keep p (λ (x : Signed). not (among x (z ∷ []))) zs)
    where
      go : (x : Signed) (t : Bool) → alike x z ≡ t → p x ≡ (not (among x (z ∷ [])) && p x)
      go x true f = let same = alike_true x z f in rw (same, one_alike z, e) refl
      go x false f = rw (alike_one x z f) refl

  -- What can be left where no cell is single loses nothing to another order.
  pub stays : (zs : List Signed) (order : List ℕ) (taken : List Signed) → AllWithin levels zs → Truly q zs order taken → (p : Signed → Bool)
      → NoneSingle q levels (signed_cells q (keep p zs)) → keep p zs ≡ keep p (not_taken taken zs)
  unfolding Truly
  stays zs [] taken within t p none = ap (keep p) (sym (ap (λ (ts : List Signed). not_taken ts zs) t ∙ not_taken_none zs))
  stays zs (i ∷ order) taken within t p none =
      let z = t.0 in
      let rest = t.1 in
      let gone = dropped (p z) refl in
      let ih = stays (less z zs) order rest (within_keep (λ (x : Signed). not (among x (z ∷ []))) zs within) t.5 p
      (λ j h. ap (λ (ws : List Signed). single q levels (signed_cells q ws) j) (sym gone) ∙ none j h) in
      gone ∙ (ih ∙ ap (keep p) (sym (ap (λ (ts : List Signed). not_taken ts zs) t.2 ∙ not_taken_cons z rest zs)))
    where
      dropped : (b : Bool) → p t.0 ≡ b → keep p zs ≡ keep p (less t.0 zs)
      dropped true e = absurd (both (kept_single zs i t.0 p within t.3 t.4 e) (none i t.3))
      dropped false e = not_kept zs t.0 p e
