-- A row of zeros that is filled from the front with the elements of a list.
use mathlib.Core.List.{List, [], ◌∷◌, ◌++◌, append_assoc, append-nil}
use mathlib.Core.Path.{◌≡◌, refl, sym, ap, ◌∙◌}
use Prim.Native.Nat.{ℕ, suc, ◌+◌, ◌-◌, ◌<◌, ◌≤◌}
use native.Mathlib.Omega.{arith}
use native.Mathlib.Numerals.{add-one}
use lib.ListN.{length, get_or, set, take, replicate, length-replicate, get_or-replicate}
use lib.Seq.{set_at, take-suc, length-take-le, take_all}
use Rattle.trail.specs.Search.{Chained}

pub fill_next : (row source : List ℕ) (n i : ℕ) → i < n → i < length source → row ≡ take i source ++ replicate (n - i) 0 →
    set row i (get_or source i 0) ≡ take (i + 1) source ++ replicate (n - (i + 1)) 0
fill_next row source n i h l e =
    let more : n - i ≡ suc (n - (i + 1)) = omega arith in
    ap (λ (r : List ℕ). set r i (get_or source i 0)) (e ∙ ap (λ (m : ℕ). take i source ++ replicate m 0) more)
    ∙ set_at (take i source) 0 (replicate (n - (i + 1)) 0) (get_or source i 0) i (length-take-le i source (omega arith))
    ∙ sym (rw (add-one i, take-suc source i 0 l) (append_assoc (take i source) (get_or source i 0 ∷ []) (replicate (n - suc i) 0)))

fill_end : (row source : List ℕ) (n i : ℕ) → length source ≤ i → row ≡ take i source ++ replicate (n - i) 0 → i ≤ length source → row ≡ source ++ replicate (n - length source) 0
fill_end row source n i h e l = let same : i ≡ length source = omega arith in e ∙ (λ j. take_all i source h j ++ replicate (n - same j) 0)

-- All places are filled.
pub copied : (row source : List ℕ) (i : ℕ) → length source ≡ 32 → i ≡ 32 → row ≡ take i source ++ replicate (32 - i) 0 → row ≡ source
copied row source i l h e =
    fill_end row source 32 i (omega arith) e (omega arith) ∙ ap (λ (n : ℕ). source ++ replicate (32 - n) 0) l ∙ append-nil source

-- The columns of the pairs of a sequence, i rows done.
pub record Chaining (xs previouses owns counts : List ℕ) (v i : ℕ) : Type 0 where
  pub bound : i ≤ length xs
  pub previous : previouses ≡ take i (0 ∷ xs) ++ replicate (32 - i) 0
  pub own : owns ≡ take i xs ++ replicate (32 - i) 0
  pub count : counts ≡ take i (replicate (length xs) 1) ++ replicate (32 - i) 0
  pub last : v ≡ get_or (0 ∷ xs) i 0

pub chain_start : (xs : List ℕ) → Chaining xs (replicate 32 0) (replicate 32 0) (replicate 32 0) 0 0
chain_start xs = record { bound = omega arith; previous = refl; own = refl; count = refl; last = refl }

pub chain_next : {xs ps os cs : List ℕ} {v i : ℕ} → length xs ≤ 32 → i < length xs → Chaining xs ps os cs v i →
    Chaining xs (set ps i v) (set os i (get_or xs i 0)) (set cs i 1) (get_or xs i 0) (i + 1)
chain_next {xs} {ps} {os} {cs} {v} {i} few h c =
    let low : i < 32 = omega arith in
    let ones : i < length (replicate {A = ℕ} (length xs) 1) = rw (length-replicate {A = ℕ} (length xs) 1) h in
    record {
      bound = omega arith;
      previous = ap (λ (x : ℕ). set ps i x) c.last ∙ fill_next ps (0 ∷ xs) 32 i low (omega arith) c.previous;
      own = fill_next os xs 32 i low h c.own;
      count = ap (λ (x : ℕ). set cs i x) (sym (get_or-replicate (length xs) i 1 0 h)) ∙ fill_next cs (replicate (length xs) 1) 32 i low ones c.count;
      last = rw (add-one i);
    }

pub chain_end : {xs ps os cs : List ℕ} {v i : ℕ} → length xs ≤ i → Chaining xs ps os cs v i → Chained xs ps os cs
chain_end {xs} {ps} {os} {cs} {v} {i} h c =
    let b = c.bound in
    let same : i ≡ length xs = omega arith in
    let ones : length (replicate {A = ℕ} (length xs) 1) ≡ length xs = length-replicate {A = ℕ} (length xs) 1 in
    record {
      previous = c.previous ∙ (λ j. take (same j) (0 ∷ xs) ++ replicate (32 - same j) 0);
      own = fill_end os xs 32 i h c.own b;
      count = fill_end cs (replicate (length xs) 1) 32 i (omega arith) c.count (omega arith) ∙ ap (λ (n : ℕ). replicate (length xs) 1 ++ replicate (32 - n) 0) ones;
    }

-- The last k of 32 places at the front.
pub front_end : (moved source : List ℕ) (k i : ℕ) → length source ≡ k → k ≤ i → i ≤ k → moved ≡ take i source ++ replicate (32 - i) 0 → moved ≡ source ++ replicate (32 - k) 0
front_end moved source k i l h b e =
    fill_end moved source 32 i (omega arith) e (omega arith) ∙ ap (λ (n : ℕ). source ++ replicate (32 - n) 0) l
