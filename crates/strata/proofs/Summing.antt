-- The sum from the highest stratum down: each turn takes one stratum, and the estimate from what is left is the whole estimate.
use Rattle.std.proofs.Common.{None, Some}
use mathlib.Core.Bool.{Bool, true, false, cond}
use mathlib.Core.List.{List}
use mathlib.Core.Path.{◌≡◌, refl, sym, ap, ◌∙◌}
use Prim.Native.Nat.{ℕ, zero, suc, ◌+◌, ◌*◌, ◌-◌, ◌^◌, ◌%◌, ◌≤◌, ◌<◌}
use native.Mathlib.Decide.{dec_le}
use native.Mathlib.Nat.{mul_assoc, mul-le-mul_right, pow-suc}
use native.Mathlib.Omega.{arith}
use lib.ListN.{length, take, drop}
use lib.Pow.{pow-add, shl_exact}
use Rattle.shingle.specs.declared.Shingle.{Shingle}
use Rattle.shingle.specs.Table.{shingles_in}
use Rattle.strata.specs.Strata.{of_stratum, stratum_rows, taken_in, stratum_opens, estimate_from, estimate_of}
use Rattle.strata.specs.Steps.{Listed}
use Rattle.strata.proofs.Verdict.{twelve}

-- So many strata are left, and the others gave this sum.
pub record Summing (levels : ℕ) (theirs own shingles : List ℕ) (sum left : ℕ) : Type 0 where
  pub most : left ≤ 16
  pub small : sum ≤ (16 - left) * 12
  pub is : estimate_from levels left sum theirs own (shingles_in shingles) ≡ estimate_of levels theirs own (shingles_in shingles)

pub sum_start : (levels : ℕ) (theirs own shingles : List ℕ) → Summing levels theirs own shingles 0 16
unfolding estimate_of
sum_start levels theirs own shingles = record { most = omega arith; small = omega arith; is = refl }

-- The part of a table that is lent for stratum i, by its start and end.
abbrev part : ℕ → List ℕ → List ℕ
part i t = take (i * 480 + 480 - i * 480) (drop (i * 480) t)

module _ (levels : ℕ) (theirs own shingles : List ℕ) (sum left : ℕ) (s : Summing levels theirs own shingles sum left) (h : 0 < left) where
  room : (left - 1) * 480 + 480 - (left - 1) * 480 ≡ 480
  room = omega arith

  -- One turn of the definition.
  turn : estimate_from levels left sum theirs own (shingles_in shingles)
      ≡ cond (stratum_opens (of_stratum (left - 1) (shingles_in shingles)) (taken_in levels (left - 1) theirs own))
      (estimate_from levels (left - 1) (sum + length (taken_in levels (left - 1) theirs own).taken) theirs own (shingles_in shingles))
      (sum * 2 ^ left)
  unfolding estimate_from
  turn =
      ap (λ (n : ℕ). estimate_from levels n sum theirs own (shingles_in shingles)) {x = left} {y = suc (left - 1)} (omega arith)
      ∙ ap (λ (n : ℕ). cond (stratum_opens (of_stratum (left - 1) (shingles_in shingles)) (taken_in levels (left - 1) theirs own))
      (estimate_from levels (left - 1) (sum + length (taken_in levels (left - 1) theirs own).taken) theirs own (shingles_in shingles))
      (sum * 2 ^ n)) {x = left - 1 + 1} {y = left} (omega arith)

  pub sum_stop : Listed levels (left - 1) (part (left - 1) theirs) (part (left - 1) own) shingles None → (places : ℕ) → places ≡ left
      → (sum * 2 ^ places) % 2 ^ 64 ≡ estimate_of levels theirs own (shingles_in shingles)
  sum_stop unlisted places same =
      let most = s.most in
      let small = s.small in
      let closed : stratum_opens (of_stratum (left - 1) (shingles_in shingles)) (taken_in levels (left - 1) theirs own) ≡ false = rw room at unlisted in
      ap (λ (n : ℕ). (sum * 2 ^ n) % 2 ^ 64) same
      ∙ shl_exact {a = sum} 8 left 64 (omega arith) (omega arith)
      ∙ (sym (turn ∙ rw closed) ∙ s.is)

  module _ (count : ℕ) (l : Listed levels (left - 1) (part (left - 1) theirs) (part (left - 1) own) shingles (Some count)) where
    opened : stratum_opens (of_stratum (left - 1) (shingles_in shingles)) (taken_in levels (left - 1) theirs own) ≡ true
    opened = rw room at l.0

    number : count ≡ length (taken_in levels (left - 1) theirs own).taken
    number = rw room at l.1

    pub sum_fits : sum + count ≤ 192
    sum_fits =
        let most = s.most in
        let small = s.small in
        omega (arith, number, twelve levels (stratum_rows (left - 1) theirs) (stratum_rows (left - 1) own))

    pub sum_next : Summing levels theirs own shingles (sum + count) (left - 1)
    sum_next =
        let most = s.most in
        let small = s.small in
        record {
          most = omega arith;
          small = omega (arith, number, twelve levels (stratum_rows (left - 1) theirs) (stratum_rows (left - 1) own));
          is = ap (λ (n : ℕ). estimate_from levels (left - 1) (sum + n) theirs own (shingles_in shingles)) number ∙ (sym (turn ∙ rw opened) ∙ s.is);
        }

pub sum_end : (levels : ℕ) (theirs own shingles : List ℕ) (sum left : ℕ) → Summing levels theirs own shingles sum left → left ≤ 0
    → sum ≡ estimate_of levels theirs own (shingles_in shingles)
unfolding estimate_from
sum_end levels theirs own shingles sum left s h =
    ap (λ (n : ℕ). estimate_from levels n sum theirs own (shingles_in shingles)) {x = 0} {y = left} (omega arith) ∙ s.is

-- No estimate is above 12 shingles times 2^15, which 24 times 2^14 is too.
suc-pow : (n : ℕ) → suc n ≤ 2 ^ n
suc-pow zero = omega arith
suc-pow (suc n) = omega (arith, suc-pow n, pow-suc 2 n)

times_few : (i sum : ℕ) → i ≤ 15 → sum ≤ (15 - i) * 12 → sum * 2 ^ (i + 1) ≤ 393216
times_few i sum h k =
    elim (dec_le i 14) [
      | yes low ↦
          let most : sum ≤ 12 * 2 ^ (14 - i) = omega (arith, suc-pow (14 - i)) in
          let power : 2 ^ (14 - i) * 2 ^ (i + 1) ≡ 32768 =
          sym (pow-add 2 (14 - i) (i + 1)) ∙ ap (λ (n : ℕ). 2 ^ n) {x = 14 - i + (i + 1)} {y = 15} (omega arith) in
          omega (arith, mul-le-mul_right (2 ^ (i + 1)) most, mul_assoc 12 (2 ^ (14 - i)) (2 ^ (i + 1)), power)
      | no high ↦ let none : sum ≡ 0 = omega arith in omega (arith, ap (λ (n : ℕ). n * 2 ^ (i + 1)) none)
    ]

few_from : (levels left sum : ℕ) (theirs own : List ℕ) (list : List Shingle) → left ≤ 16 → sum ≤ (16 - left) * 12
    → estimate_from levels left sum theirs own list ≤ 393216
unfolding estimate_from
few_from levels zero sum theirs own list h k = omega arith
few_from levels (suc i) sum theirs own list h k =
    go (stratum_opens (of_stratum i list) (taken_in levels i theirs own))
    (few_from levels i (sum + length (taken_in levels i theirs own).taken) theirs own list (omega arith)
    (omega (arith, twelve levels (stratum_rows i theirs) (stratum_rows i own))))
  where
    go : (t : Bool) → estimate_from levels i (sum + length (taken_in levels i theirs own).taken) theirs own list ≤ 393216
        → cond t (estimate_from levels i (sum + length (taken_in levels i theirs own).taken) theirs own list) (sum * 2 ^ (i + 1)) ≤ 393216
    go true m = m
    go false m = times_few i sum (omega arith) (omega arith)

pub estimate_few : (levels : ℕ) (theirs own : List ℕ) (list : List Shingle) → estimate_of levels theirs own list ≤ 393216
unfolding estimate_of
estimate_few levels theirs own list = few_from levels 16 0 theirs own list (omega arith) (omega arith)

pub sum_few : (levels : ℕ) (theirs own : List ℕ) (list : List Shingle) (r : ℕ) → r ≡ estimate_of levels theirs own list → r ≤ 393216
sum_few levels theirs own list r e = omega (arith, e, estimate_few levels theirs own list)
