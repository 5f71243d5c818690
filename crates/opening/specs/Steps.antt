-- What the steps of deciding and of writing the new list say to each other.
use Rattle.std.specs.Prelude.{Bool, ◌&&◌, List, ◌++◌, map, ◌≡◌, ℕ, ◌+◌, ◌*◌, leb, length, take}
use Rattle.tree.specs.Questions.{within, ask}
use Rattle.entries.specs.Entries.{table_of}
use Rattle.shingle.specs.declared.Shingle.{Shingle}
use Rattle.shingle.specs.Table.{entry_of, shingles_in}
use Rattle.sketch.specs.Opening.{no_shingle_twice, all_held, none_held, kept}
use Rattle.pairs.specs.Once.{few_once}

-- Questions 3, 5 and 7, of lengths in bytes.
unfoldable pub size_refusal : (levels width theirs own shingles : ℕ) → ℕ
size_refusal levels width theirs own shingles =
    ask (within 1 4 levels) 3
    (ask (within 1 64 width) 5
    (ask (leb (width * 120) theirs && (leb (width * 120) own && leb 98304 shingles)) 7
    0))

-- Whether a sketch opens, from what was taken as positive and as negative, and asked of the new list before it is sorted. A positive
-- shingle that was taken twice is a pair twice, and so is one that is kept of the own list.
unfoldable pub opens_with : (empty : Bool) (new gone own : List Shingle) → Bool
opens_with empty new gone own =
    empty
    && (no_shingle_twice gone
    && (all_held own gone
    && (none_held gone new && few_once new gone own)))

-- What is kept of a table's list is in the table's front.
pub record Kept (gone before after : List ℕ) : Type 0 where
  pub long : length after ≡ length before
  pub front :
      take (length (kept (shingles_in gone) (shingles_in before))) (table_of after)
      ≡ map entry_of (kept (shingles_in gone) (shingles_in before))

-- A table's list follows the first entries of another.
pub record Appended (new : List ℕ) (from : ℕ) (before after : List ℕ) : Type 0 where
  pub long : length after ≡ length before
  pub front : take (from + length (shingles_in new)) (table_of after) ≡ take from (table_of before) ++ map entry_of (shingles_in new)
