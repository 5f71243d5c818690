-- Words for the law that says when the estimate is exact.
use Rattle.std.specs.Prelude.{true, not, ◌&&◌, List, ◌≡◌, ℕ}
use Rattle.shingle.specs.declared.Shingle.{Shingle}
use Rattle.shingle.specs.Table.{holds}
use Rattle.sketch.specs.Cells.{cells_of}
use Rattle.sketch.specs.Opening.{Peeled, taken_of, positives, negatives}
use Rattle.strata.specs.Strata.{stratum_width, of_stratum, stratum_opens}

-- What is taken from stratum i of two lists' strata, and the cells that are left.
abbrev pub taken_between : (levels i : ℕ) (theirs own : List Shingle) → Peeled
taken_between levels i theirs own = taken_of stratum_width levels (cells_of stratum_width (of_stratum i theirs)) (cells_of stratum_width (of_stratum i own))

-- Stratum i of two lists' strata opens to its true difference: "what the sender's shingle list has and the own lacks, as positive, and the
-- reverse, as negative", of the shingles of that stratum.
pub record OpensToDifference (levels i : ℕ) (theirs own : List Shingle) : Type 0 where
  pub opens : stratum_opens (of_stratum i own) (taken_between levels i theirs own) ≡ true
  pub positive : (s : Shingle) → holds s (positives (taken_between levels i theirs own).taken)
      ≡ (holds s (of_stratum i theirs) && not (holds s (of_stratum i own)))
  pub negative : (s : Shingle) → holds s (negatives (taken_between levels i theirs own).taken)
      ≡ (holds s (of_stratum i own) && not (holds s (of_stratum i theirs)))
