-- The first number that passes a test, and whether all rows are 0: scans from the first on.
use Rattle.std.proofs.Common.{◌≡◌, ℕ, zero, suc, ◌+◌, ◌-◌, ◌*◌, ◌<◌, ◌≤◌, Bool, true, false, cond, ◌&&◌, eqb, List, length, get_or, drop, sym, refl, ap, ◌∙◌, add-one, arith, drop_of_length-le, drop-cons, eq-eqb, ne_eqb}
use Rattle.sketch.specs.Opening.{first_from, single, lowest, all_zero}

pub first_passes : (test : ℕ → Bool) (n i : ℕ) → first_from test n i < i + n → test (first_from test n i) ≡ true
unfolding first_from
first_passes test zero i h = absurd (omega arith)
first_passes test (suc n) i h = go (test i) refl h (λ g. first_passes test n (suc i) g)
  where
    go : (t : Bool) → test i ≡ t → cond t i (first_from test n (suc i)) < i + suc n
        → (first_from test n (suc i) < suc i + n → test (first_from test n (suc i)) ≡ true) → test (cond t i (first_from test n (suc i))) ≡ true
    go true e h rest = e
    go false e h rest = rest (omega arith)

-- The search has come to i without finding one.
pub record Searching (test : ℕ → Bool) (n i : ℕ) : Type 0 where
  pub low : i ≤ n
  pub is : first_from test (n - i) i ≡ first_from test n 0

pub search_start : (test : ℕ → Bool) (n : ℕ) → Searching test n 0
search_start test n = record { low = omega arith; is = ap (λ (m : ℕ). first_from test m 0) {x = n - 0} {y = n} (omega arith) }

module _ (test : ℕ → Bool) (n i : ℕ) (s : Searching test n i) where
  one_more : i < n → first_from test (n - i) i ≡ cond (test i) i (first_from test (n - (i + 1)) (i + 1))
  unfolding first_from
  one_more h =
      ap (λ (m : ℕ). first_from test m i) {x = n - i} {y = suc (n - (i + 1))} (omega arith)
      ∙ ap (λ (m : ℕ). cond (test i) i (first_from test (n - (i + 1)) m)) (sym (add-one i))

  pub search_found : i < n → test i ≡ true → i ≡ first_from test n 0
  search_found h e = ap (λ (t : Bool). cond t i (first_from test (n - (i + 1)) (i + 1))) (sym e) ∙ (sym (one_more h) ∙ s.is)

  pub search_next : i < n → test i ≡ false → Searching test n (i + 1)
  search_next h e =
      record {
        low = omega arith;
        is = sym (ap (λ (t : Bool). cond t i (first_from test (n - (i + 1)) (i + 1))) e) ∙ (sym (one_more h) ∙ s.is);
      }

  pub search_end : n ≤ i → i ≡ first_from test n 0
  unfolding first_from
  search_end h = ap (λ (m : ℕ). first_from test m i) {x = 0} {y = n - i} (omega (arith, s.low)) ∙ s.is

pub lowest_is : (q levels n r : ℕ) (rows : List ℕ) → n ≡ q * 3 → r ≡ first_from (single q levels rows) n 0 → r ≡ lowest q levels rows
unfolding lowest
lowest_is q levels n r rows e f = f ∙ ap (λ (m : ℕ). first_from (single q levels rows) m 0) e

-- Below 3q it is a single cell.
pub lowest-single : (q levels : ℕ) (rows : List ℕ) → lowest q levels rows < q * 3 → single q levels rows (lowest q levels rows) ≡ true
unfolding lowest
lowest-single q levels rows h = first_passes (single q levels rows) (q * 3) 0 (omega arith)

-- The rows before k are 0.
module _ (rows : List ℕ) (k x : ℕ) (is : x ≡ get_or rows k 0) (h : k < length rows) (so_far : all_zero (drop k rows) ≡ all_zero rows) where
  split : all_zero (drop k rows) ≡ (eqb x 0 && all_zero (drop (k + 1) rows))
  unfolding all_zero
  split = ap all_zero (drop-cons rows k 0 h) ∙ rw (add-one, ← is)

  pub zeros_broken : (x ≡ 0 → ⊥) → false ≡ all_zero rows
  zeros_broken n = ap (λ (t : Bool). t && all_zero (drop (k + 1) rows)) (sym (ne_eqb x 0 n)) ∙ (sym split ∙ so_far)

  pub zeros_next : x ≡ 0 → all_zero (drop (k + 1) rows) ≡ all_zero rows
  zeros_next z = ap (λ (t : Bool). t && all_zero (drop (k + 1) rows)) (sym (eq-eqb x 0 z)) ∙ (sym split ∙ so_far)

pub zeros_end : (rows : List ℕ) (k : ℕ) → length rows ≤ k → all_zero (drop k rows) ≡ all_zero rows → true ≡ all_zero rows
unfolding all_zero
zeros_end rows k h e = ap all_zero (sym (drop_of_length-le rows {i = k} h)) ∙ e
