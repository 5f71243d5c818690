-- The records of the scans, one position further: each is also its loop's invariant.
use Prim.Native.Nat.{ℕ, ◌+◌, ◌-◌, ◌≤◌, ◌<◌}
use mathlib.Core.Path.{◌≡◌, subst}
use native.Mathlib.Decide.{dec_lt}
use native.Mathlib.Omega.{arith}
use Rattle.std.specs.Prelude.{Option, Some, None}
use Rattle.partition.specs.Scans.{Low, AfterLastLow, FirstLow}
use Rattle.partition.specs.Places.{LastLow}

-- What holds of the positions from `from` up to i, and of i, holds up to i + 1.
one_more : (P : ℕ → Type 0) (from i : ℕ) → ((j : ℕ) → from ≤ j → j < i → P j) → P i → (j : ℕ) → from ≤ j → j < i + 1 → P j
one_more P from i all here j low high = at (dec_lt j i)
  where
    at : Dec (j < i) → P j
    at (yes h) = all j low h
    at (no h) = subst P (let e : i ≡ j = omega arith in e) here

module _ (v : ℕ → ℕ) (m from : ℕ) where
  pub last_none : {to : ℕ} → to ≤ from → AfterLastLow v m from to from
  last_none l = record { low = omega arith; high = omega arith; after = λ j a b. omega arith; found = λ h. omega arith }

  pub last_here : (j : ℕ) → from ≤ j → v j ≤ m → AfterLastLow v m from (j + 1) (j + 1)
  last_here j l h =
      let e : j ≡ j + 1 - 1 = omega arith in
      record { low = omega arith; high = omega arith; after = λ k a b. omega arith; found = λ x. subst (λ (k : ℕ). v k ≤ m) e h }

  pub last_not : {j r : ℕ} → AfterLastLow v m from j r → m < v j → AfterLastLow v m from (j + 1) r
  last_not {j} {r = last} r h =
      record { low = r.low; high = omega arith; after = one_more (λ k. m < v k) last j r.after h; found = r.found }

  -- The last is as it was after a value above m.
  pub last_more : (j : ℕ) (last : Option ℕ) → LastLow v m from j last → m < v j → LastLow v m from (j + 1) last
  last_more j None r h = last_not r h
  last_more j (Some last) r h = (r.0, last_not r.1 h)

-- The values from `to` up to `end` are all above m: what is known after a look back as far as `to`.
pub record Above (v : ℕ → ℕ) (m to end : ℕ) : Type 0 where
  pub high : to ≤ end
  pub above : (j : ℕ) → to ≤ j → j < end → m < v j

-- The value at p is below all before it and not above any after it, as far as j, which is at most h further. No position before p is low.
pub record Falling (v : ℕ → ℕ) (h from p j : ℕ) : Type 0 where
  pub low : from ≤ p
  pub here : p ≤ j
  pub near : j ≤ p + h
  pub barred : (k : ℕ) → from ≤ k → k < p → Low v h k → ⊥
  pub falls : (k : ℕ) → from ≤ k → k < p → v p < v k
  pub after : (k : ℕ) → p ≤ k → k < j + 1 → v p ≤ v k

module _ (v : ℕ → ℕ) (h from : ℕ) where
  pub falling_start : Falling v h from from from
  falling_start =
      record {
        low = omega arith;
        here = omega arith;
        near = omega arith;
        barred = λ k a b low. omega arith;
        falls = λ k a b. omega arith;
        after = one_more (λ k. v from ≤ v k) from from (λ k a b. omega arith) (omega arith);
      }

  pub falling_on : {p j : ℕ} → Falling v h from p j → j < p + h → v p ≤ v (j + 1) → Falling v h from p (j + 1)
  falling_on {p} {j} r l e =
      record { low = r.low; here = omega arith; near = omega arith; barred = r.barred; falls = r.falls; after = one_more (λ k. v p ≤ v k) p (j + 1) r.after e }

  -- A smaller value within h bars all positions since p.
  pub falling_to : {p j : ℕ} → Falling v h from p j → j < p + h → v (j + 1) < v p → Falling v h from (j + 1) (j + 1)
  falling_to {p} {j} r l e =
      record {
        low = omega arith;
        here = omega arith;
        near = omega arith;
        barred = λ k a b low. not_low k a b low (dec_lt k p);
        falls = λ k a b. below k a b (dec_lt k p);
        after = one_more (λ k. v (j + 1) ≤ v k) (j + 1) (j + 1) (λ k a b. omega arith) (omega arith);
      }
    where
      not_low : (k : ℕ) → from ≤ k → k < j + 1 → Low v h k → Dec (k < p) → ⊥
      not_low k a b low (yes q) = r.barred k a q low
      not_low k a b low (no q) = omega (arith, low.after (j + 1) (omega arith) (omega arith), r.after k (omega arith) b)

      below : (k : ℕ) → from ≤ k → k < j + 1 → Dec (k < p) → v (j + 1) < v k
      below k a b (yes q) = omega (arith, r.falls k a q)
      below k a b (no q) = omega (arith, r.after k (omega arith) b)

  -- Where the value falls at the end, no position before it is low.
  pub low_none : (end : ℕ) {p : ℕ} → Falling v h from p p → end ≤ p → (j : ℕ) → from ≤ j → j < end → Low v h j → ⊥
  low_none end r l j a b = r.barred j a (omega arith)

  module _ (end : ℕ) {p j m : ℕ} (r : Falling v h from p j) (e : m ≡ v p) where
    pub low_reached : p + h ≤ j → FirstLow v h from end p m
    low_reached l = record { value = e; low = r.low; barred = r.barred; falls = r.falls; after = λ i k a b. r.after k a (omega arith) }

    pub low_zero : m ≡ 0 → FirstLow v h from end p m
    low_zero z = record { value = e; low = r.low; barred = r.barred; falls = r.falls; after = λ i k a b. omega arith }
