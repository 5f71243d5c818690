-- Strata as they were built: equal lists estimate 0, and where every stratum opens to its true difference, the estimate is the number of
-- differing shingles.
use mathlib.Core.List.{List}
use mathlib.Core.Path.{◌≡◌, sym, ap, ap₂, ◌∙◌}
use Prim.Native.Nat.{ℕ, zero, suc, ◌+◌, ◌≤◌, ◌<◌}
use native.Mathlib.Omega.{arith}
use lib.ListN.{length, get_or, drop}
use lib.Seq.{ext_get_or}
use Rattle.shingle.specs.declared.Shingle.{Shingle}
use Rattle.shingle.specs.Table.{shingles_in}
use Rattle.shingle.specs.Rising.{Rising}
use Rattle.shingle.proofs.PairOrder.{and_true}
use Rattle.sketch.specs.Sums.{Part, along, sums, row_bytes}
use Rattle.sketch.specs.Cells.{all_parts, cells_of}
use Rattle.sketch.specs.Opening.{taken_of, all_zero, all_held, positives, negatives, shingles_of, no_shingle_twice, kept, true_difference}
use Rattle.sketch.proofs.Sums.{length-along, get_d_along, length-sums, words_sums}
use Rattle.sketch.proofs.NewList.{rising_kept}
use Rattle.single.specs.Peeling.{rows_in}
use Rattle.opening.proofs.Verdict.{signs_apart}
use Rattle.strata.specs.Strata.{of_stratum, strata_table, stratum_rows, taken_in, stratum_opens, estimate_from, estimate_of}
use Rattle.strata.specs.Laws.{taken_between, OpensToDifference}
use Rattle.strata.proofs.Parts.{cells_within}
use Rattle.strata.proofs.Verdict.{taken_count}
use Rattle.strata.proofs.Itself.{estimate_same}
use Rattle.strata.proofs.Counting.{as_many, rising_of, lacks_of, in_first, in_sixteen, length_difference}

-- Strata are read as they were built.
rows_sums : (n : ℕ) (ps : List Part) → along n 0 (λ (k : ℕ). get_or (sums n ps) k 0) ≡ sums n ps
rows_sums n ps =
    ext_get_or 0 _ _ (length-along n 0 row ∙ sym (length-sums n ps))
    (λ k h. get_d_along n 0 k row (omega (arith, length-along n 0 row)) ∙ ap row {x = 0 + k} {y = k} (omega arith))
  where
    row : ℕ → ℕ
    row = λ (k : ℕ). get_or (sums n ps) k 0

read_cells : (ss : List Shingle) → rows_in 4 (row_bytes (cells_of 4 ss)) ≡ cells_of 4 ss
unfolding rows_in cells_of
read_cells ss = ap (λ (l : List ℕ). along 60 0 (λ (k : ℕ). get_or l k 0)) (words_sums 60 (all_parts 4 ss)) ∙ rows_sums 60 (all_parts 4 ss)

pub stratum_read : (i : ℕ) (shingles table : List ℕ) → i < 16
    → stratum_rows i (strata_table shingles table) ≡ cells_of 4 (of_stratum i (shingles_in shingles))
unfolding strata_table
stratum_read i shingles table h =
    let ss = shingles_in shingles in
    ap (rows_in 4) (cells_within i ss h (drop 7680 table)) ∙ read_cells (of_stratum i ss)

-- Equal lists estimate 0.
pub estimate_equal : (levels : ℕ) (theirs own t u : List ℕ) (list : List Shingle) → shingles_in theirs ≡ shingles_in own
    → estimate_of levels (strata_table theirs t) (strata_table own u) list ≡ 0
estimate_equal levels theirs own t u list e =
    estimate_same levels _ _ list
    (λ i h. stratum_read i theirs t h ∙ (ap (λ (l : List Shingle). cells_of 4 (of_stratum i l)) e ∙ sym (stratum_read i own u h)))

-- A stratum that opens to its true difference lists as many shingles as differ in it.
number_taken : (levels i : ℕ) {theirs own : List Shingle} → Rising theirs → Rising own → OpensToDifference levels i theirs own
    → length (taken_between levels i theirs own).taken ≡ length (of_stratum i (kept own theirs)) + length (of_stratum i (kept theirs own))
unfolding stratum_opens
number_taken levels i {theirs} {own} r p d =
    let taken = taken_between levels i theirs own in
    let tests = (and_true (all_zero taken.left) _ d.opens).1 in
    let once = and_true (no_shingle_twice (shingles_of taken.taken)) _ tests in
    let apart = and_true (all_held (of_stratum i own) (negatives taken.taken)) _ once.1 in
    let each = and_true (no_shingle_twice (positives taken.taken)) (no_shingle_twice (negatives taken.taken))
    (sym (signs_apart (of_stratum i own) taken.taken apart.0 apart.1) ∙ once.0) in
    let new = as_many (positives taken.taken) (rising_of i (rising_kept own r)) each.0 (λ s. d.positive s ∙ lacks_of i s theirs own) in
    let gone = as_many (negatives taken.taken) (rising_of i (rising_kept theirs p)) each.1 (λ s. d.negative s ∙ lacks_of i s own theirs) in
    sym (taken_count taken.taken) ∙ ap₂ (λ (m n : ℕ). m + n) new gone

-- From n strata on down: the sum so far, and what differs in them.
module _ (levels : ℕ) (theirs own t u : List ℕ) (r : Rising (shingles_in theirs)) (p : Rising (shingles_in own))
    (opens : (i : ℕ) → i < 16 → OpensToDifference levels i (shingles_in theirs) (shingles_in own)) where
  taken_read : (i : ℕ) → i < 16
      → taken_in levels i (strata_table theirs t) (strata_table own u) ≡ taken_between levels i (shingles_in theirs) (shingles_in own)
  taken_read i h = ap₂ (taken_of 4 levels) (stratum_read i theirs t h) (stratum_read i own u h)

  sum_from : (n sum : ℕ) → n ≤ 16 → estimate_from levels n sum (strata_table theirs t) (strata_table own u) (shingles_in own)
      ≡ sum + (in_first n (kept (shingles_in own) (shingles_in theirs)) + in_first n (kept (shingles_in theirs) (shingles_in own)))
  unfolding estimate_from in_first
  sum_from zero sum h = omega arith
  sum_from (suc i) sum h =
      rw (taken_read i (omega arith), (opens i (omega arith)).opens)
      (sum_from i _ (omega arith) ∙ omega (arith, number_taken levels i r p (opens i (omega arith))))

pub estimate_exact : (levels : ℕ) (theirs own t u : List ℕ) → Rising (shingles_in theirs) → Rising (shingles_in own)
    → ((i : ℕ) → i < 16 → OpensToDifference levels i (shingles_in theirs) (shingles_in own))
    → estimate_of levels (strata_table theirs t) (strata_table own u) (shingles_in own) ≡ length (true_difference (shingles_in theirs) (shingles_in own))
unfolding estimate_of
estimate_exact levels theirs own t u r p opens =
    let a = shingles_in theirs in
    let b = shingles_in own in
    sum_from levels theirs own t u r p opens 16 0 (omega arith)
    ∙ omega (arith, in_sixteen (kept b a), in_sixteen (kept a b), length_difference a b)
