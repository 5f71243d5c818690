-- A table of strata in three parts: the strata before stratum i, its cells, and the strata after it.
use mathlib.Core.List.{List, [], ◌++◌}
use mathlib.Core.Path.{◌≡◌, refl, ap, ◌∙◌}
use Prim.Native.Nat.{ℕ, zero, suc, ◌+◌, ◌*◌, ◌-◌, ◌<◌}
use native.Mathlib.Omega.{arith}
use lib.ListN.{length, take, drop, replicate, length-append, length-drop}
use lib.Seq.{take_at, drop_at, take-append-le, drop-append-le}
use Rattle.rows.specs.Rows.{bytes_of}
use Rattle.shingle.specs.declared.Shingle.{Shingle}
use Rattle.sketch.specs.Sums.{along, sums, sum_at, row_bytes}
use Rattle.sketch.specs.Cells.{all_parts, cells_of}
use Rattle.sketch.proofs.Sums.{length_rows, length-sums, rows_append}
use Rattle.strata.specs.Strata.{strata_bytes, of_stratum, strata_from, strata_of}
use Rattle.strata.proofs.Building.{strata_split}

pub length_cells : (ss : List Shingle) → length (row_bytes (cells_of 4 ss)) ≡ 480
unfolding cells_of
length_cells ss = length_rows (sums 60 (all_parts 4 ss)) ∙ ap (λ (n : ℕ). n * 8) (length-sums 60 (all_parts 4 ss))

length_strata : (count i : ℕ) (ss : List Shingle) → length (row_bytes (strata_from count i ss)) ≡ count * 480
unfolding strata_from row_bytes
length_strata zero i ss = refl
length_strata (suc count) i ss =
    ap length (rows_append (cells_of 4 (of_stratum i ss)) (strata_from count (suc i) ss))
    ∙ (length-append (row_bytes (cells_of 4 (of_stratum i ss))) (row_bytes (strata_from count (suc i) ss))
    ∙ omega (arith, length_cells (of_stratum i ss), length_strata count (suc i) ss))

pub strata_bytes_lem : (ss : List Shingle) → length (row_bytes (strata_of ss)) ≡ strata_bytes
unfolding strata_of
strata_bytes_lem ss = length_strata 16 0 ss

-- The strata of no shingle.
pub none_zeros : replicate strata_bytes 0 ≡ row_bytes (strata_of [])
unfolding strata_of strata_from of_stratum cells_of all_parts sums along sum_at row_bytes bytes_of
none_zeros = refl

abbrev pub before : ℕ → List Shingle → List ℕ
before i ss = row_bytes (strata_from i 0 ss)

abbrev pub cells_at : ℕ → List Shingle → List ℕ
cells_at i ss = row_bytes (cells_of 4 (of_stratum i ss))

abbrev pub after : ℕ → List Shingle → List ℕ
after i ss = row_bytes (strata_from (15 - i) (suc i) ss)

module _ (i : ℕ) (ss : List Shingle) (h : i < 16) where
  three_parts : row_bytes (strata_of ss) ≡ before i ss ++ (cells_at i ss ++ after i ss)
  unfolding strata_of
  three_parts =
      let split : strata_from 16 0 ss ≡ strata_from i 0 ss ++ (cells_of 4 (of_stratum i ss) ++ strata_from (15 - i) (suc i) ss) =
      ap (λ (n : ℕ). strata_from n 0 ss) {x = 16} {y = i + suc (15 - i)} (omega arith)
      ∙ (strata_split i (15 - i) 0 ss
      ∙ ap (λ (n : ℕ). strata_from i 0 ss ++ (cells_of 4 (of_stratum n ss) ++ strata_from (15 - i) (suc n) ss)) {x = 0 + i} {y = i} (omega arith)) in
      rw split (simp rows_append)

  pub take-before : take (i * 480) (row_bytes (strata_of ss)) ≡ before i ss
  take-before = ap (take (i * 480)) three_parts ∙ take_at (before i ss) (cells_at i ss ++ after i ss) (i * 480) (length_strata i 0 ss)

  drop_before : drop (i * 480) (row_bytes (strata_of ss)) ≡ cells_at i ss ++ after i ss
  drop_before = ap (drop (i * 480)) three_parts ∙ drop_at (before i ss) (cells_at i ss ++ after i ss) (i * 480) (length_strata i 0 ss)

  pub take_cells : take 480 (drop (i * 480) (row_bytes (strata_of ss))) ≡ cells_at i ss
  take_cells = ap (take 480) drop_before ∙ take_at (cells_at i ss) (after i ss) 480 (length_cells (of_stratum i ss))

  pub drop_cells : drop 480 (drop (i * 480) (row_bytes (strata_of ss))) ≡ after i ss
  drop_cells = ap (drop 480) drop_before ∙ drop_at (cells_at i ss) (after i ss) 480 (length_cells (of_stratum i ss))

  -- The same of a table with bytes past the strata.
  pub cells_within : (rest : List ℕ) → take 480 (drop (i * 480) (row_bytes (strata_of ss) ++ rest)) ≡ cells_at i ss
  cells_within rest =
      let all = row_bytes (strata_of ss) in
      let long = strata_bytes_lem ss in
      ap (take 480) (drop-append-le (i * 480) all rest (omega arith))
      ∙ (take-append-le 480 (drop (i * 480) all) rest (omega (arith, length-drop (i * 480) all)) ∙ take_cells)
