-- Reading a state from rows: place by place, and all fields together.
use mathlib.Core.List.{List, ◌∷◌, ◌++◌, append-nil}
use mathlib.Core.Path.{◌≡◌, refl, sym, ap, ◌∙◌}
use Prim.Native.Nat.{ℕ, suc, ◌+◌, ◌*◌, ◌-◌, ◌≤◌, ◌<◌}
use native.Mathlib.Numerals.{add-one}
use native.Mathlib.Omega.{arith}
use borrow.Author.Tests.{le-leb, lt-leb}
use lib.ListN.{length, get_or, set, take, length-set}
use lib.Seq.{take-suc-set, append_snoc, take_all}
use Rattle.tree.specs.declared.Settings.{Settings}
use Rattle.copying.specs.declared.Waiting.{Waiting}
use Rattle.rows.specs.Rows.{words_of}
use Rattle.state.specs.declared.Receiver.{Receiver}
use Rattle.state.specs.Receivers.{receiver_of, zeros}
use Rattle.state_bytes.specs.Bytes.{settings_from, place_at, places_from, state_from, state_in}

module _ (rows : List ℕ) where
  -- The places read and those still to come are all.
  pub record Reading (places : List Waiting) (k : ℕ) : Type 0 where
    pub far : k ≤ 128
    pub long : length places ≡ 128
    pub all : take k places ++ places_from rows (128 - k) k ≡ places_from rows 128 0

  pub reading_start : {places : List Waiting} → length places ≡ 128 → Reading places 0
  reading_start e = record { far = omega arith; long = e; all = refl }

  module _ (places : List Waiting) (k : ℕ) (reading : Reading places k) where
    pub reading_next : (level id : ℕ) → k < 128 → level ≡ get_or rows (12 + k * 2) 0 → id ≡ get_or rows (13 + k * 2) 0
        → Reading (set places k (record { level = level; id = id })) (k + 1)
    unfolding places_from
    reading_next level id h l i =
        let w : Waiting = record { level = level; id = id } in
        let long = reading.long in
        let is : w ≡ place_at rows k = λ j. record { level = l j; id = i j } in
        let left : 128 - k ≡ suc (128 - (k + 1)) = omega arith in
        let rest = places_from rows (128 - (k + 1)) (suc k) in
        record {
          far = omega arith;
          long = length-set places k w ∙ reading.long;
          all = ap (λ (n : ℕ). take n (set places k w) ++ places_from rows (128 - (k + 1)) n) (add-one k)
              ∙ (ap (λ (l : List Waiting). l ++ rest) (take-suc-set places k w (omega arith))
              ∙ (append_snoc (take k places) w rest
              ∙ (ap (λ (v : Waiting). take k places ++ v ∷ rest) is
              ∙ (ap (λ (n : ℕ). take k places ++ places_from rows n k) (sym left) ∙ reading.all))));
        }

    pub reading_end : 128 ≤ k → places ≡ places_from rows 128 0
    unfolding places_from
    reading_end h =
        let long = reading.long in
        let far = reading.far in
        let none_left : 128 - k ≡ 0 = omega arith in
        sym (take_all k places (omega arith))
        ∙ (sym (append-nil (take k places)) ∙ (ap (λ (n : ℕ). take k places ++ places_from rows n k) (sym none_left) ∙ reading.all))

-- Fewer bytes than a state has.
pub held_none : (t : List ℕ) {r : Receiver} → length t < 2144 → r ≡ receiver_of zeros → r ≡ state_in t
unfolding state_in
held_none t h e = e ∙ sym (rw (lt-leb 2144 (length t) h))

-- The fields, each from its row.
pub held_all : (t : List ℕ) {σ : Settings} {session phase size root built taken waiting : ℕ} {pile : List Waiting} → 2144 ≤ length t
    → σ ≡ settings_from (words_of t) → session ≡ get_or (words_of t) 5 0 → phase ≡ get_or (words_of t) 6 0 → size ≡ get_or (words_of t) 7 0
    → root ≡ get_or (words_of t) 8 0 → built ≡ get_or (words_of t) 9 0 → taken ≡ get_or (words_of t) 10 0 → waiting ≡ get_or (words_of t) 11 0
    → pile ≡ places_from (words_of t) 128 0
    → ◌≡◌ {A = Receiver} (record {
      settings = σ;
      session = session;
      phase = phase;
      size = size;
      root = root;
      built = built;
      taken = taken;
      waiting = waiting;
      pile = pile;
    }) (state_in t)
unfolding state_in state_from
held_all t h e0 e1 e2 e3 e4 e5 e6 e7 e8 =
    rw (le-leb 2144 (length t) h)
    (λ j. record {
      settings = e0 j;
      session = e1 j;
      phase = e2 j;
      size = e3 j;
      root = e4 j;
      built = e5 j;
      taken = e6 j;
      waiting = e7 j;
      pile = e8 j;
    })
