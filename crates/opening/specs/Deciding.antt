-- Whether a sketch opens over the own shingle list: document 01, 'Questions, in order'.
use Rattle.std.specs.Prelude.{cond, ◌&&◌, List, [], ◌≡◌, ℕ, ◌*◌, leb, eqb, length, Result, Ok, Err}
use Rattle.tree.specs.Questions.{within, ask}
use Rattle.shingle.specs.Table.{shingles_in}
use Rattle.sketch.specs.Opening.{Signed, taken_of, opens, positives, negatives}
use Rattle.single.specs.Peeling.{rows_in, list_table}
use Rattle.opening.specs.declared.Opening.{Opening}
use Rattle.opening.specs.Steps.{size_refusal}
use Rattle.refusal.specs.declared.Refusal.{Refusal}
use Rattle.refusal.specs.Answer.{number_of}

-- 0, or the number of the first question that is answered no: "3 L 1 to 4? .. 5 q 1 to 64? .. 7 lent tables long enough for ..
-- 4,096 shingles, 3q cells? .. 14 does the sketch open?"
unfoldable pub open_refusal : (levels width : ℕ) (theirs own shingles : List ℕ) → ℕ
open_refusal levels width theirs own shingles =
    ask (within 1 4 levels) 3
    (ask (within 1 64 width) 5
    (ask (leb (width * 120) (length theirs) && (leb (width * 120) (length own) && leb 98304 (length shingles))) 7
    (ask (opens width levels (rows_in width theirs) (rows_in width own) (shingles_in shingles)) 14
    0)))

-- What is taken from the sketch: nothing where 3, 5 or 7 refuses.
unfoldable pub taken_after : (levels width : ℕ) (theirs own shingles : List ℕ) → List Signed
taken_after levels width theirs own shingles =
    cond (eqb (size_refusal levels width (length theirs) (length own) (length shingles)) 0)
    (taken_of width levels (rows_in width theirs) (rows_in width own)).taken
    []

-- What deciding promises: the refusal; where there is none, tables that list what was taken as positive and as negative; and every
-- byte of the tables, refusals included.
pub record Decided (levels width : ℕ) (theirs own shingles : List ℕ) (refusal : ℕ) (new gone : List ℕ) : Type 0 where
  pub answer : refusal ≡ open_refusal levels width theirs own shingles
  pub positive : refusal ≡ 0 → shingles_in new ≡ positives (taken_of width levels (rows_in width theirs) (rows_in width own)).taken
  pub negative : refusal ≡ 0 → shingles_in gone ≡ negatives (taken_of width levels (rows_in width theirs) (rows_in width own)).taken
  pub new_bytes : new ≡ list_table 4608 (positives (taken_after levels width theirs own shingles))
  pub gone_bytes : gone ≡ list_table 4608 (negatives (taken_after levels width theirs own shingles))

-- The same of an answer: a refusal has no tables.
abbrev pub Decides : (levels width : ℕ) (theirs own shingles : List ℕ) → Result Opening Refusal → Type 0
Decides levels width theirs own shingles (Ok opening) = Decided levels width theirs own shingles 0 opening.new opening.gone
Decides levels width theirs own shingles (Err question) = number_of question ≡ open_refusal levels width theirs own shingles
