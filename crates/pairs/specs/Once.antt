-- The question that the new list of an opening is asked: document 01, 'Shingles and sketch', third paragraph.
use Rattle.std.specs.Prelude.{Bool, ◌&&◌, List, ◌++◌, ◌+◌, leb, length}
use Rattle.shingle.specs.declared.Shingle.{Shingle}
use Rattle.sketch.specs.Opening.{kept, no_pair_twice}

-- "the new list has at most 4,096 shingles with no pair twice at one level", asked before the list is sorted.
unfoldable pub few_once : (new gone own : List Shingle) → Bool
few_once new gone own = leb (length (kept gone own) + length new) 4096 && no_pair_twice (kept gone own ++ new)
