-- The strata estimator: document 02, request 3, in its order.
use Rattle.std.specs.Prelude.{Bool, cond, ◌&&◌, List, [], ◌∷◌, ◌++◌, ℕ, zero, suc, ◌+◌, ◌*◌, ◌^◌, min, eqb, length, take, drop}
use Rattle.std.specs.Int.Count.{count_trailing_zeros}
use Rattle.shingle.specs.declared.Shingle.{Shingle}
use Rattle.shingle.specs.Table.{shingles_in}
use Rattle.sketch.specs.Sums.{row_bytes}
use Rattle.sketch.specs.Cells.{tag_of, cells_of}
use Rattle.sketch.specs.Opening.{Peeled, taken_of, all_zero, no_shingle_twice, all_held, none_held, positives, negatives, shingles_of}
use Rattle.single.specs.Peeling.{rows_in}

-- "16 strata, each a sketch with q = 4": 12 cells, 480 bytes; 192 cells in all.
abbrev pub strata_count : ℕ
strata_count = 16

abbrev pub stratum_width : ℕ
stratum_width = 4

abbrev pub stratum_bytes : ℕ
stratum_bytes = 480

abbrev pub strata_bytes : ℕ
strata_bytes = 7680

-- "the stratum given by the trailing zero bits of its F(3), 15 at most"
unfoldable pub stratum_from : ℕ → ℕ
stratum_from hash = min 15 (count_trailing_zeros 64 hash)

unfoldable pub stratum_of : Shingle → ℕ
stratum_of s = stratum_from (tag_of 3 s)

-- The shingles of stratum i, in the list's order.
unfoldable pub of_stratum : ℕ → List Shingle → List Shingle
of_stratum i [] = []
of_stratum i (s ∷ ss) = cond (eqb (stratum_of s) i) (s ∷ of_stratum i ss) (of_stratum i ss)

-- The rows of so many strata from stratum i on, each the sketch of its shingles.
unfoldable pub strata_from : (count i : ℕ) → List Shingle → List ℕ
strata_from zero i ss = []
strata_from (suc count) i ss = cells_of stratum_width (of_stratum i ss) ++ strata_from count (suc i) ss

unfoldable pub strata_of : List Shingle → List ℕ
strata_of ss = strata_from strata_count 0 ss

-- "Building it, from a setup's shingle list": what that leaves of a table for 192 cells or more. "what lies past an answer is untouched"
unfoldable pub strata_table : (shingles table : List ℕ) → List ℕ
strata_table shingles table = row_bytes (strata_of (shingles_in shingles)) ++ drop strata_bytes table

-- The rows of stratum i of any table.
abbrev pub stratum_rows : ℕ → List ℕ → List ℕ
stratum_rows i table = rows_in stratum_width (take stratum_bytes (drop (i * stratum_bytes) table))

-- "the shingles that each opened stratum lists": what is taken from the cells of stratum i of two tables, and the cells that are left.
abbrev pub taken_in : (levels i : ℕ) (theirs own : List ℕ) → Peeled
taken_in levels i theirs own = taken_of stratum_width levels (stratum_rows i theirs) (stratum_rows i own)

-- "A stratum opens by document 01's rule, but own list means own shingles of that stratum, and the last two conditions, size and pairs, are
-- dropped." Document 01: "The sketch opens if all cells end at 0, no shingle was taken twice, negative ones are in the own list, positive ones
-- are not, and the new list .." `own` is the own shingles of the stratum.
unfoldable pub stratum_opens : (own : List Shingle) → Peeled → Bool
stratum_opens own p =
    all_zero p.left
    && (no_shingle_twice (shingles_of p.taken)
    && (all_held own (negatives p.taken)
    && none_held own (positives p.taken)))

-- "Go from stratum 15 down, adding the shingles that each opened stratum lists; at the first stratum i that does not open, the estimate is the
-- sum so far times 2^(i+1). If all open it is the plain sum." So many strata are left: the next is the highest of them.
unfoldable pub estimate_from : (levels left sum : ℕ) (theirs own : List ℕ) → List Shingle → ℕ
estimate_from levels zero sum theirs own list = sum
estimate_from levels (suc i) sum theirs own list =
    cond (stratum_opens (of_stratum i list) (taken_in levels i theirs own))
    (estimate_from levels i (sum + length (taken_in levels i theirs own).taken) theirs own list)
    (sum * 2 ^ (i + 1))

-- "estimating, from two and the own list .. any cells are estimated so"
unfoldable pub estimate_of : (levels : ℕ) (theirs own : List ℕ) → List Shingle → ℕ
estimate_of levels theirs own list = estimate_from levels strata_count 0 theirs own list
