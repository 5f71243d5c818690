-- The next candidate. `Low` is the candidate's comparison as a claim for each side. A position p whose value m is below all from a on and not above
-- the h after it is low unless a value before a is at most m. The last of these, if it is within h of p, bars all positions from p on that are within h
-- of it.
use mathlib.Core.Bool.{Bool, true, false, ◌&&◌, false≢true}
use mathlib.Core.List.{List}
use mathlib.Core.Path.{◌≡◌, refl, sym, ap, subst}
use Prim.Native.Nat.{ℕ, zero, suc, ◌+◌, ◌-◌, ◌≤◌, ◌<◌}
use native.Mathlib.Decide.{dec_lt, ℕ_discrete}
use native.Mathlib.Omega.{arith}
use lib.Dec.{leb, ltb}
use lib.ListN.{length}
use borrow.Author.Tests.{le-leb, leb-true, lt-ltb, ltb-true}
use Rattle.partition.specs.Cuts.{value_at, lowest, candidate}
use Rattle.partition.specs.Scans.{Low, Floor, AfterLastLow, FirstLow, NextCandidate}
use Rattle.partition.specs.Runs.{Level}

both : (a b : Bool) → (a && b) ≡ true → (a ≡ true) × (b ≡ true)
both true b e = (refl, e)
both false b e = absurd (false≢true e)

joined : (a b : Bool) → a ≡ true → b ≡ true → (a && b) ≡ true
joined a b e f = rw (e, f)

refuted : (b : Bool) → (b ≡ true → ⊥) → b ≡ false
refuted true h = absurd (h refl)
refuted false h = refl

-- One further away on either side.
low_more : (v : ℕ → ℕ) (i d : ℕ) → v i < v (i - suc d) → v i ≤ v (i + suc d) → Low v d i → Low v (suc d) i
low_more v i d left right nearer = record { before = λ j x y. at j x y (ℕ_discrete i (j + suc d)); after = λ j x y. to j x y (ℕ_discrete j (i + suc d)) }
  where
    at : (j : ℕ) → i ≤ j + suc d → j < i → Dec (i ≡ j + suc d) → v i < v j
    at j x y (yes q) = subst (λ (k : ℕ). v i < v k) (let r : i - suc d ≡ j = omega arith in r) left
    at j x y (no q) = nearer.before j (omega arith) y

    to : (j : ℕ) → i ≤ j → j ≤ i + suc d → Dec (j ≡ i + suc d) → v i ≤ v j
    to j x y (yes q) = subst (λ (k : ℕ). v i ≤ v k) (sym q) right
    to j x y (no q) = nearer.after j x (omega arith)

lowest_low : (v : ℕ → ℕ) (i d : ℕ) → lowest v i d ≡ true → Low v d i
unfolding lowest
lowest_low v i zero e =
    record { before = λ j x y. absurd (omega arith); after = λ j x y. subst (λ (k : ℕ). v i ≤ v k) (let q : i ≡ j = omega arith in q) (omega arith) }
lowest_low v i (suc d) e =
    let p = both (ltb (v i) (v (i - suc d))) (leb (v i) (v (i + suc d)) && lowest v i d) e in
    let q = both (leb (v i) (v (i + suc d))) (lowest v i d) p.1 in
    low_more v i d (ltb-true (v i) (v (i - suc d)) p.0) (leb-true (v i) (v (i + suc d)) q.0) (lowest_low v i d q.1)

low_lowest : (v : ℕ → ℕ) (i d : ℕ) → d ≤ i → Low v d i → lowest v i d ≡ true
unfolding lowest
low_lowest v i zero l low = refl
low_lowest v i (suc d) l low =
    joined (ltb (v i) (v (i - suc d))) (leb (v i) (v (i + suc d)) && lowest v i d)
    (lt-ltb (v i) (v (i - suc d)) (low.before (i - suc d) (omega arith) (omega arith)))
    (joined (leb (v i) (v (i + suc d))) (lowest v i d)
    (le-leb (v i) (v (i + suc d)) (low.after (i + suc d) (omega arith) (omega arith)))
    (low_lowest v i d (omega arith) (record { before = λ j x y. low.before j (omega arith) y; after = λ j x y. low.after j x (omega arith) })))

-- What a candidate is.
pub record Candidate (w h s : ℕ) (bytes : List ℕ) (i : ℕ) : Type 0 where
  pub left : h ≤ i
  pub right : i + w + h ≤ length bytes
  pub low : Low (value_at w s bytes) h i

pub candidate_is : (w h s : ℕ) (bytes : List ℕ) (i : ℕ) → candidate w h s bytes i ≡ true → Candidate w h s bytes i
unfolding candidate
candidate_is w h s bytes i e =
    let p = both (leb h i) (leb (i + w + h) (length bytes) && lowest (value_at w s bytes) i h) e in
    let q = both (leb (i + w + h) (length bytes)) (lowest (value_at w s bytes) i h) p.1 in
    record { left = leb-true h i p.0; right = leb-true (i + w + h) (length bytes) q.0; low = lowest_low (value_at w s bytes) i h q.1 }

is_candidate : (w h s : ℕ) (bytes : List ℕ) (i : ℕ) → Candidate w h s bytes i → candidate w h s bytes i ≡ true
unfolding candidate
is_candidate w h s bytes i c =
    joined (leb h i) (leb (i + w + h) (length bytes) && lowest (value_at w s bytes) i h) (le-leb h i c.left)
    (joined (leb (i + w + h) (length bytes)) (lowest (value_at w s bytes) i h) (le-leb (i + w + h) (length bytes) c.right)
    (low_lowest (value_at w s bytes) i h c.left c.low))

pub not_candidate : (w h s : ℕ) (bytes : List ℕ) (i : ℕ) → (Candidate w h s bytes i → ⊥) → candidate w h s bytes i ≡ false
not_candidate w h s bytes i c = refuted (candidate w h s bytes i) (λ e. c (candidate_is w h s bytes i e))

-- A position p whose value m is below all from a on and not above the h after it, and what lies before a.
module _ (v : ℕ → ℕ) (h a end p m : ℕ) (far : h ≤ a) (F : FirstLow v h a end p m) (inside : p < end) where
  low_if : ((j : ℕ) → p ≤ j + h → j < a → m < v j) → Low v h p
  low_if left = record { before = λ j x y. at j x y (dec_lt j a); after = F.after inside }
    where
      at : (j : ℕ) → p ≤ j + h → j < p → Dec (j < a) → v p < v j
      at j x y (yes q) = omega (arith, left j x q)
      at j x y (no q) = F.falls j (omega arith) y

  module _ (t : ℕ) (T : AfterLastLow v m (p - h) a t) (near : p < t + h) where
    not_below : (j : ℕ) → t ≤ j → j < t + h → m ≤ v j
    not_below j x y = at (dec_lt j a) (dec_lt j p)
      where
        at : Dec (j < a) → Dec (j < p) → m ≤ v j
        at (yes q) d = omega (arith, T.after j x q)
        at (no q) (yes r) = omega (arith, F.falls j (omega arith) r)
        at (no q) (no r) = omega (arith, F.after inside j (omega arith) (omega arith))

    not_low : (j : ℕ) → a ≤ j → j < t + h → Low v h j → ⊥
    not_low j x y low = at (dec_lt j p)
      where
        at : Dec (j < p) → ⊥
        at (yes q) = F.barred j x q low
        at (no q) = omega (arith, T.found (omega arith), not_below j (omega arith) y, low.before (t - 1) (omega arith) (omega arith))

-- The positions from `from` up to a are no candidates, and the h before a have no value below f.
pub record Searched (w h s : ℕ) (bytes : List ℕ) (from a f : ℕ) : Type 0 where
  pub low : from ≤ a
  pub none : (j : ℕ) → from ≤ j → j < a → candidate w h s bytes j ≡ false
  pub floor : Floor (value_at w s bytes) h f a

pub searched_start : (w h s : ℕ) (bytes : List ℕ) (from f : ℕ) → Floor (value_at w s bytes) h f from → Searched w h s bytes from from f
searched_start w h s bytes from f F = record { low = omega arith; none = λ j a b. absurd (omega arith); floor = F }

-- On past values that are as the one before them.
pub searched_past : (w h s : ℕ) (bytes : List ℕ) (from here a b f : ℕ) → h ≤ from → Searched w h s bytes from here f → a ≡ here
    → Level h (value_at w s bytes) a b → Searched w h s bytes from b f
searched_past w h s bytes from here a b f far S e L =
    record { low = omega arith; none = λ j x y. none j x y (dec_lt j a); floor = record { before = λ j x y. floor j x y (dec_lt j a) } }
  where
    none : (j : ℕ) → from ≤ j → j < b → Dec (j < a) → candidate w h s bytes j ≡ false
    none j x y (yes q) = S.none j x (omega arith)
    none j x y (no q) =
        not_candidate w h s bytes j
        (λ c.
        let some = L.near (omega arith) in
        omega (arith, L.same j (omega arith) y, before (dec_lt (j - 1) a), c.low.before (j - 1) (omega arith) (omega arith)))
      where
        before : Dec (j - 1 < a) → value_at w s bytes (j - 1) ≡ value_at w s bytes (a - 1)
        before (yes r) = ap (value_at w s bytes) (let e : j - 1 ≡ a - 1 = omega arith in e)
        before (no r) = L.same (j - 1) (omega arith) (omega arith)

    floor : (j : ℕ) → b ≤ j + h → j < b → Dec (j < a) → f ≤ value_at w s bytes j
    floor j x y (yes q) = S.floor.before j (omega arith) (omega arith)
    floor j x y (no q) =
        let some = L.near (omega arith) in
        omega (arith, L.same j (omega arith) y, S.floor.before (a - 1) (omega arith) (omega arith))

module _ (w h s : ℕ) (bytes : List ℕ) (from end : ℕ) (far : h ≤ from) (some : from < end) (within : end + w + h ≤ length bytes + 1) (a f : ℕ)
    (S : Searched w h s bytes from a f) where
  pub next_none : end ≤ a → (j : ℕ) → from ≤ j → j < end → candidate w h s bytes j ≡ false
  next_none l j x y = S.none j x (omega arith)

  none_before : (p : ℕ) → ((j : ℕ) → a ≤ j → j < p → Low (value_at w s bytes) h j → ⊥) → (j : ℕ) → from ≤ j → j < p → candidate w h s bytes j ≡ false
  none_before p barred j x y = at (dec_lt j a)
    where
      at : Dec (j < a) → candidate w h s bytes j ≡ false
      at (yes q) = S.none j x q
      at (no q) = not_candidate w h s bytes j (λ c. barred j (omega arith) y c.low)

  pub next_past : ((j : ℕ) → a ≤ j → j < end → Low (value_at w s bytes) h j → ⊥) → (j : ℕ) → from ≤ j → j < end → candidate w h s bytes j ≡ false
  next_past barred = none_before end barred

  module _ (p m : ℕ) (F : FirstLow (value_at w s bytes) h a end p m) where
    module _ (inside : p < end) where
      here : Low (value_at w s bytes) h p → NextCandidate w h s bytes from end p m
      here low =
          record {
            first =
                record {
                  low = omega arith;
                  high = omega arith;
                  before = none_before p F.barred;
                  found = λ x. is_candidate w h s bytes p (record { left = omega arith; right = omega arith; low = low });
                };
            value = λ x. F.value;
          }

      pub next_known : m < f → NextCandidate w h s bytes from end p m
      next_known l =
          here (low_if (value_at w s bytes) h a end p m (omega arith) F inside (λ j x y. omega (arith, S.floor.before j (omega arith) y)))

      module _ (t : ℕ) (T : AfterLastLow (value_at w s bytes) m (p - h) a t) where
        pub next_here : t + h ≤ p → NextCandidate w h s bytes from end p m
        next_here l = here (low_if (value_at w s bytes) h a end p m (omega arith) F inside (λ j x y. T.after j (omega arith) y))

        -- On from the first position out of reach of the last value that is not greater.
        pub searched_on : p < t + h → Searched w h s bytes from (t + h) m
        searched_on l =
            record {
              low = omega arith;
              none = λ j x y. at j x y (dec_lt j a);
              floor = record { before = λ j x y. not_below (value_at w s bytes) h a end p m (omega arith) F inside t T l j (omega arith) y };
            }
          where
            at : (j : ℕ) → from ≤ j → j < t + h → Dec (j < a) → candidate w h s bytes j ≡ false
            at j x y (yes q) = S.none j x q
            at j x y (no q) =
                not_candidate w h s bytes j (λ c. not_low (value_at w s bytes) h a end p m (omega arith) F inside t T l j (omega arith) y c.low)
