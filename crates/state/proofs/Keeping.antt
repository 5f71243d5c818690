-- The struct that a state is kept in stands for it; a pile's places, and clearing those above its top.
use mathlib.Core.List.{List, [], ◌∷◌, ◌++◌}
use mathlib.Core.Path.{◌≡◌, refl, sym, ap, subst, ◌∙◌}
use Prim.Native.Nat.{ℕ, zero, suc, ◌+◌, ◌≤◌, ◌<◌}
use native.Mathlib.Numerals.{add-one}
use native.Mathlib.Omega.{arith}
use native.Mathlib.Decide.{dec_lt}
use lib.ListN.{length, get_or, set, take, length-set, length-replicate, get_or-replicate, get_or-eq_default}
use lib.Seq.{take_all, take-suc, take-suc-set, get_or-take, get_or-set_same, get_or-set_other, set_out}
use Rattle.tree.specs.declared.Settings.{Settings}
use Rattle.copying.specs.declared.Waiting.{Waiting}
use Rattle.copying.specs.Copying.{pile_of}
use Rattle.protocol.specs.State.{Pending, pending, Phase, unopened, opened, ended, State, initial, going}
use Rattle.state.specs.declared.Receiver.{Receiver}
use Rattle.state.specs.Receivers.{phase_of, state_of, empty_pile, phase_number, places_of, receiver_of, Holds}
use Rattle.state.proofs.Nine.{length_pile}
use Rattle.state.proofs.Pushing.{pile_above}

abbrev none : Waiting
none = record { level = 0; id = 0 }

length_places : (pile : List Pending) → length (places_of pile) ≡ 128
unfolding places_of
length_places [] = length-replicate {A = Waiting} 128 none
length_places (top ∷ rest) = length-set (places_of rest) (length rest) _ ∙ length_places rest

-- Reading a pile from its places.
pub pile_placed : (pile : List Pending) → length pile ≤ 128 → pile_of (length pile) (places_of pile) ≡ pile
unfolding pile_of places_of
pile_placed [] few = refl
pile_placed (top ∷ rest) few =
    let w : Waiting = record { level = top.level; id = top.id } in
    let long = length_places rest in
    ap (λ (p : Waiting). pending p.level p.id ∷ pile_of (length rest) (set (places_of rest) (length rest) w))
    (get_or-set_same (places_of rest) (length rest) w none (omega arith))
    ∙ ap (λ (l : List Pending). top ∷ l) (pile_above (length rest) (length rest) (places_of rest) w (omega arith) ∙ pile_placed rest (omega arith))

phase_numbered : (phase : Phase) → phase_of (phase_number phase) ≡ phase
unfolding phase_of phase_number
phase_numbered unopened = refl
phase_numbered opened = refl
phase_numbered ended = refl

-- The struct that a state is kept in stands for that state.
pub kept_stands : (s : State) → length s.pile ≤ 128 → state_of (receiver_of s) ≡ s
unfolding state_of receiver_of
kept_stands s few =
    λ j. record {
      settings = s.settings;
      session = s.session;
      phase = phase_numbered s.phase j;
      size = s.size;
      root = s.root;
      built = s.built;
      taken = s.taken;
      pile = pile_placed s.pile few j;
    }

pub starts : (σ : Settings) (session : ℕ) → state_of (receiver_of (initial σ session)) ≡ initial σ session
unfolding initial
starts σ session = kept_stands (initial σ session) (omega arith)

pub holds_by : {a b : State} {r : Receiver} → b ≡ a → Holds a r → Holds b r
holds_by {r = r} e h = subst (λ (s : State). Holds s r) (sym e) h

-- Above a pile's top its places are zero entries.
above_zero : (w k : ℕ) (places : List Waiting) → w ≤ k → get_or (places_of (pile_of w places)) k none ≡ none
unfolding places_of pile_of
above_zero zero k places h =
    elim (dec_lt k 128) [
      | yes low ↦ get_or-replicate {A = Waiting} 128 k none none low
      | no high ↦ get_or-eq_default empty_pile none {n = k} (omega (arith, length-replicate {A = Waiting} 128 none, high))
    ]
above_zero (suc w) k places h =
    get_or-set_other (places_of (pile_of w places)) (length (pile_of w places)) k _ none (λ e. omega (arith, e, length_pile w places, h))
    ∙ above_zero w k places (omega arith)

-- Up to its top they are the places that it was read from.
front_same : (w : ℕ) (places : List Waiting) → length places ≡ 128 → take w (places_of (pile_of w places)) ≡ take w places
unfolding places_of pile_of
front_same zero places long = refl
front_same (suc w) places long =
    let under = places_of (pile_of w places) in
    let size = length_places (pile_of w places) in
    let top = get_or places w none in
    ap (λ (n : ℕ). take (suc w) (set under n top)) (length_pile w places)
    ∙ elim (dec_lt w 128) [
      | yes low ↦ take-suc-set under w top (omega (arith, low, size))
          ∙ (ap (λ (l : List Waiting). l ++ (top ∷ [])) (front_same w places long) ∙ sym (take-suc places w none (omega (arith, low, long))))
      | no high ↦ ap (take (suc w)) (set_out under w top (omega (arith, high, size))
          ∙ (sym (take_all w under (omega (arith, high, size))) ∙ (front_same w places long ∙ take_all w places (omega (arith, high, long)))))
    ]

-- A pile is read from the places up to its top.
pile_front : (n w : ℕ) (places : List Waiting) → n ≤ w → pile_of n (take w places) ≡ pile_of n places
unfolding pile_of
pile_front zero w places h = refl
pile_front (suc n) w places h = rw (get_or-take w places n none (omega arith), pile_front n w places (omega arith))

module _ (pile : List Waiting) (waiting : ℕ) where
  abbrev kept : List Waiting
  kept = places_of (pile_of waiting pile)

  -- The places up to `above` are the kept ones.
  pub record Clearing (places : List Waiting) (above : ℕ) : Type 0 where
    pub long : length places ≡ 128
    pub far : waiting ≤ above
    pub same : take above places ≡ take above kept

  pub clearing_start : length pile ≡ 128 → Clearing pile waiting
  clearing_start long = record { long = long; far = omega arith; same = sym (front_same waiting pile long) }

  module _ (places : List Waiting) (above : ℕ) (c : Clearing places above) where
    pub clearing_next : above < 128 → Clearing (set places above none) (above + 1)
    clearing_next low =
        let size = length_places (pile_of waiting pile) in
        record {
          long = length-set places above none ∙ c.long;
          far = omega (arith, c.far);
          same = rw add-one
              (take-suc-set places above none (omega (arith, c.long))
              ∙ (ap (λ (l : List Waiting). l ++ (none ∷ [])) c.same
              ∙ (ap (λ (w : Waiting). take above kept ++ (w ∷ [])) (sym (above_zero waiting above pile c.far))
              ∙ sym (take-suc kept above none (omega (arith, size))))));
        }

    pub clearing_end : 128 ≤ above → places ≡ kept
    clearing_end high =
        sym (take_all above places (omega (arith, c.long)))
        ∙ (c.same ∙ take_all above kept (omega (arith, length_places (pile_of waiting pile))))

-- Going on with the places cleared.
pub goes_on : (s : Receiver) {size root built taken waiting : ℕ} (pile : List Waiting) {cleared : List Waiting} → length pile ≡ 128 → cleared ≡ places_of (pile_of waiting pile)
    → Holds (going (state_of s) size root built taken (pile_of waiting pile))
    (record {
      settings = s.settings;
      session = s.session;
      phase = 1;
      size = size;
      root = root;
      built = built;
      taken = taken;
      waiting = waiting;
      pile = cleared;
    })
unfolding state_of phase_of receiver_of phase_number going
goes_on s {size} {root} {built} {taken} {waiting} pile {cleared} long e =
    record {
      whole = λ j. record {
        settings = s.settings;
        session = s.session;
        phase = 1;
        size = size;
        root = root;
        built = built;
        taken = taken;
        waiting = sym (length_pile waiting pile) j;
        pile = e j;
      };
      state = ap (going (state_of s) size root built taken)
          (sym (pile_front waiting waiting cleared (omega arith))
          ∙ (ap (λ (l : List Waiting). pile_of waiting (take waiting l)) e
          ∙ (ap (pile_of waiting) (front_same waiting pile long) ∙ pile_front waiting waiting pile (omega arith))));
    }
