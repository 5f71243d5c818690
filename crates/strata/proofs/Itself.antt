-- Tables with the same strata estimate 0, whatever they and the list hold: all differences are 0, and no such cell is single.
use mathlib.Core.Bool.{Bool, true, false}
use mathlib.Core.List.{List, []}
use mathlib.Core.Path.{◌≡◌, refl, ap, ◌∙◌}
use Prim.Native.Nat.{ℕ, zero, suc, ◌+◌, ◌*◌, ◌<◌}
use native.Mathlib.Omega.{arith}
use borrow.Author.Tests.{ltb-true}
use lib.Dec.{ltb}
use lib.ListN.{length, get_or}
use Rattle.entries.proofs.Linear.{both}
use Rattle.shingle.specs.declared.Shingle.{Shingle}
use Rattle.sketch.specs.Sums.{along, minus, difference_of}
use Rattle.sketch.specs.Opening.{is_negative, single, lowest, peeled, take_one, peel, taken_of, all_zero, no_shingle_twice, all_held, none_held}
use Rattle.sketch.specs.Opening.{positives, negatives, shingles_of}
use Rattle.sketch.proofs.Sums.{along_same}
use Rattle.sketch.proofs.Difference.{neg_cancels}
use Rattle.single.proofs.First.{lowest-single}
use Rattle.strata.specs.Strata.{of_stratum, stratum_rows, taken_in, stratum_opens, estimate_from, estimate_of}

-- Rows of zeros.
abbrev zeros : ℕ → ℕ → List ℕ
zeros n i = along n i (λ (k : ℕ). 0)

less_itself : (rows : List ℕ) → difference_of rows rows ≡ zeros (length rows) 0
unfolding difference_of minus
less_itself rows = along_same (length rows) 0 _ _ (λ k. neg_cancels (get_or rows k 0))

row_zero : (n i k : ℕ) → get_or (zeros n i) k 0 ≡ 0
unfolding along
row_zero zero i k = refl
row_zero (suc n) i zero = refl
row_zero (suc n) i (suc k) = row_zero n (suc i) k

all_zero_lem : (n i : ℕ) → all_zero (zeros n i) ≡ true
unfolding along all_zero
all_zero_lem zero i = refl
all_zero_lem (suc n) i = all_zero_lem n (suc i)

-- Their number is neither 1 nor 2^64 - 1.
not_single : (q levels n i : ℕ) → single q levels (zeros n 0) i ≡ false
unfolding single is_negative
not_single q levels n i = rw (row_zero n 0 (i * 5))

nothing_taken : (q levels turns n : ℕ) → peel q levels turns (zeros n 0) ≡ peeled [] (zeros n 0)
unfolding peel take_one
nothing_taken q levels zero n = refl
nothing_taken q levels (suc turns) n = go (ltb (lowest q levels (zeros n 0)) (q * 3)) refl
  where
    go : (t : Bool) → ltb (lowest q levels (zeros n 0)) (q * 3) ≡ t
        → take_one q (λ (rest : List ℕ). peel q levels turns rest) (zeros n 0) (lowest q levels (zeros n 0)) t ≡ peeled [] (zeros n 0)
    go true e = absurd (both (lowest-single q levels (zeros n 0) (ltb-true _ _ e)) (not_single q levels n _))
    go false e = refl

taken_itself : (q levels : ℕ) (rows : List ℕ) → taken_of q levels rows rows ≡ peeled [] (zeros (length rows) 0)
unfolding taken_of
taken_itself q levels rows = ap (peel q levels (q * 3)) (less_itself rows) ∙ nothing_taken q levels (q * 3) (length rows)

opens_itself : (own : List Shingle) (n : ℕ) → stratum_opens own (peeled [] (zeros n 0)) ≡ true
unfolding stratum_opens no_shingle_twice all_held none_held positives negatives shingles_of
opens_itself own n = rw (all_zero_lem n 0)

-- Strata of the same rows add nothing.
sum_stays : (levels left sum : ℕ) (theirs own : List ℕ) (list : List Shingle) → ((i : ℕ) → i < left → stratum_rows i theirs ≡ stratum_rows i own)
    → estimate_from levels left sum theirs own list ≡ sum
unfolding estimate_from
sum_stays levels zero sum theirs own list same = refl
sum_stays levels (suc i) sum theirs own list same =
    let rows = stratum_rows i own in
    let taken : taken_in levels i theirs own ≡ peeled [] (zeros (length rows) 0) =
    ap (λ (l : List ℕ). taken_of 4 levels l rows) (same i (omega arith)) ∙ taken_itself 4 levels rows in
    rw (taken, opens_itself (of_stratum i list) (length rows)) (sum_stays levels i (sum + 0) theirs own list (λ j h. same j (omega arith)) ∙ omega arith)

pub estimate_same : (levels : ℕ) (theirs own : List ℕ) (list : List Shingle) → ((i : ℕ) → i < 16 → stratum_rows i theirs ≡ stratum_rows i own)
    → estimate_of levels theirs own list ≡ 0
unfolding estimate_of
estimate_same levels theirs own list same = sum_stays levels 16 0 theirs own list same

pub estimate_itself : (levels : ℕ) (table : List ℕ) (list : List Shingle) → estimate_of levels table table list ≡ 0
estimate_itself levels table list = estimate_same levels table table list (λ i h. refl)
