-- Opening a sketch in one call: deciding, and writing the new list where it opens.
use Rattle.std.specs.Prelude.{cond, List, ◌≡◌, ℕ, ◌+◌, ◌^◌, eqb, length}
use Rattle.shingle.specs.declared.Shingle.{Shingle}
use Rattle.shingle.specs.Table.{shingles_in}
use Rattle.sketch.specs.Opening.{taken_of, new_list}
use Rattle.single.specs.Peeling.{rows_in, list_table}
use Rattle.opening.specs.Deciding.{open_refusal}

-- The list that an opened sketch leaves.
unfoldable pub opened_list : (levels width : ℕ) (theirs own shingles : List ℕ) → List Shingle
opened_list levels width theirs own shingles =
    new_list (shingles_in shingles) (taken_of width levels (rows_in width theirs) (rows_in width own)).taken

-- What opening promises: its answer, and every byte of the shingle table. "A no .. changes nothing".
pub record Opened (levels width : ℕ) (theirs own before after : List ℕ) (r : ℕ) : Type 0 where
  pub answer : r ≡ cond (eqb (open_refusal levels width theirs own before) 0) (2 ^ 32 + length (opened_list levels width theirs own before))
      (open_refusal levels width theirs own before)
  pub table : after ≡ cond (eqb (open_refusal levels width theirs own before) 0) (list_table (length before) (opened_list levels width theirs own before))
      before
