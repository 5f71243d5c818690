-- Ids placed from the last down, and the pile that they make.
use mathlib.Core.List.{List, [], ◌∷◌, ◌++◌, map}
use mathlib.Core.Path.{◌≡◌, refl, sym, ap, ◌∙◌}
use Prim.Native.Nat.{ℕ, zero, suc, ◌+◌, ◌-◌, ◌≤◌, ◌<◌}
use native.Mathlib.Omega.{arith}
use borrow.Author.Tests.{le-leb, lt-leb}
use lib.ListN.{length, get_or, set, take, drop, length-set, length-drop, drop_of_length-le}
use lib.Seq.{drop-cons, get_or-take, get_or-set_same, get_or-set_other, length-take-le}
use Rattle.copying.specs.declared.Waiting.{Waiting}
use Rattle.copying.specs.Copying.{pile_of}
use Rattle.protocol.specs.State.{Pending, pending}
use Rattle.state.specs.Pushing.{placed, pushed, Pushes}

-- A place at or above the top is no part of the pile.
pub pile_above : (n i : ℕ) (places : List Waiting) (w : Waiting) → n ≤ i → pile_of n (set places i w) ≡ pile_of n places
unfolding pile_of
pile_above zero i places w h = refl
pile_above (suc n) i places w h =
    rw (get_or-set_other places i n w (record { level = 0; id = 0 }) (λ e. omega arith), pile_above n i places w (omega arith))

length-placed : (places : List Waiting) (at level : ℕ) (ids : List ℕ) → length (placed places at level ids) ≡ length places
unfolding placed
length-placed places at level [] = refl
length-placed places at level (id ∷ ids) = length-set (placed places at level ids) (at + length ids) _ ∙ length-placed places at level ids

-- Ids placed are pending nodes of that level, the first the top, on the pile that there was.
pub placed_pile : (places : List Waiting) (at level : ℕ) (ids : List ℕ) → at + length ids ≤ length places
    → pile_of (at + length ids) (placed places at level ids) ≡ map (pending level) ids ++ pile_of at places
unfolding pile_of placed
placed_pile places at level [] h = let none : at + 0 ≡ at = omega arith in ap (λ (n : ℕ). pile_of n places) none
placed_pile places at level (id ∷ ids) h =
    let top = at + length ids in
    let under = placed places at level ids in
    let w : Waiting = record { level = level; id = id } in
    let next : at + suc (length ids) ≡ suc top = omega arith in
    let long = length-placed places at level ids in
    ap (λ (n : ℕ). pile_of n (set under top w)) next
    ∙ (ap (λ (p : Waiting). pending p.level p.id ∷ pile_of top (set under top w))
    (get_or-set_same under top w (record { level = 0; id = 0 }) (omega arith))
    ∙ ap (λ (l : List Pending). pending level id ∷ l)
    (pile_above top top under w (omega arith) ∙ placed_pile places at level ids (omega arith)))

module _ (places₀ : List Waiting) (waiting level count : ℕ) (ids : List ℕ) where
  -- The last k ids are placed.
  pub record Placing (places : List Waiting) (k : ℕ) : Type 0 where
    pub few : count ≤ 32
    pub fits : waiting + count ≤ 128
    pub ids_long : length ids ≡ 32
    pub long : length places ≡ 128
    pub far : k ≤ count
    pub same : places ≡ placed places₀ waiting level (drop (count - k) (take count ids))

  pub placing_start : count ≤ 32 → waiting + count ≤ 128 → length ids ≡ 32 → length places₀ ≡ 128 → Placing places₀ 0
  unfolding placed
  placing_start few fits ids_long long =
      let size = length-take-le count ids (omega arith) in
      record {
        few = few;
        fits = fits;
        ids_long = ids_long;
        long = long;
        far = omega arith;
        same = sym (ap (placed places₀ waiting level) (drop_of_length-le (take count ids) {i = count - 0} (omega arith)));
      }

  module _ (places : List Waiting) (k : ℕ) (p : Placing places k) where
    pub placing_next : k < count → Placing (set places (waiting + k) (record { level = level; id = get_or ids (count - 1 - k) 0 })) (k + 1)
    unfolding placed
    placing_next some =
        let few = p.few in
        let ids_long = p.ids_long in
        let size = length-take-le count ids (omega arith) in
        let step : suc (count - 1 - k) ≡ count - k = omega arith in
        let next : count - (k + 1) ≡ count - 1 - k = omega arith in
        let w : Waiting = record { level = level; id = get_or ids (count - 1 - k) 0 } in
        let rest = drop (count - k) (take count ids) in
        let behind = length-drop (count - k) (take count ids) in
        let here : waiting + k ≡ waiting + length rest = omega arith in
        let split : drop (count - (k + 1)) (take count ids) ≡ get_or ids (count - 1 - k) 0 ∷ rest =
        ap (λ (m : ℕ). drop m (take count ids)) next
        ∙ (drop-cons (take count ids) (count - 1 - k) 0 (omega arith)
        ∙ (ap (λ (x : ℕ). x ∷ drop (suc (count - 1 - k)) (take count ids)) (get_or-take count ids (count - 1 - k) 0 (omega arith))
        ∙ ap (λ (m : ℕ). get_or ids (count - 1 - k) 0 ∷ drop m (take count ids)) step)) in
        record {
          few = p.few;
          fits = p.fits;
          ids_long = p.ids_long;
          long = length-set places (waiting + k) w ∙ p.long;
          far = omega arith;
          same = ap (λ (l : List Waiting). set l (waiting + k) w) p.same
              ∙ (ap (λ (m : ℕ). set (placed places₀ waiting level rest) m w) here ∙ sym (ap (placed places₀ waiting level) split));
        }

    pub placing_end : count ≤ k → places ≡ placed places₀ waiting level (take count ids)
    placing_end h =
        let none : count - k ≡ 0 = omega arith in
        p.same ∙ ap (λ (m : ℕ). placed places₀ waiting level (drop m (take count ids))) none

module _ (places : List Waiting) (waiting level : ℕ) (ids : List ℕ) (count : ℕ) where
  pub pushed_none : 32 < count → Pushes places waiting level ids count places
  unfolding pushed
  pushed_none h = record { whole = rw (lt-leb count 32 h); pile = λ few fits. absurd (omega arith) }

  pub pushed_no_room : count ≤ 32 → 128 - count < waiting → Pushes places waiting level ids count places
  unfolding pushed
  pushed_no_room few h =
      record { whole = rw (le-leb count 32 few, lt-leb (waiting + count) 128 (omega arith)); pile = λ few fits. absurd (omega arith) }

  pub pushed_all : {r : List Waiting} → length places ≡ 128 → length ids ≡ 32 → count ≤ 32 → waiting ≤ 128 - count
      → r ≡ placed places waiting level (take count ids) → Pushes places waiting level ids count r
  unfolding pushed
  pushed_all long ids_long few room e =
      let size = length-take-le count ids (omega arith) in
      let more : waiting + count ≡ waiting + length (take count ids) = omega arith in
      record {
        whole = e ∙ rw (le-leb count 32 few, le-leb (waiting + count) 128 (omega arith));
        pile = λ few fits. ap (pile_of (waiting + count)) e
            ∙ (ap (λ (n : ℕ). pile_of n (placed places waiting level (take count ids))) more
            ∙ placed_pile places waiting level (take count ids) (omega arith));
      }
