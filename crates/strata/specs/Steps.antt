-- What the crate's own functions promise each other.
use Rattle.std.specs.Prelude.{Bool, true, false, ◌&&◌, List, ◌≡◌, ℕ, length, Option, MatchOption}
use Rattle.shingle.specs.declared.Shingle.{Shingle}
use Rattle.shingle.specs.Table.{shingles_in}
use Rattle.sketch.specs.Opening.{no_shingle_twice, all_held, none_held, taken_of}
use Rattle.single.specs.Peeling.{rows_in}
use Rattle.strata.specs.Strata.{stratum_width, of_stratum, stratum_opens}

-- Each shingle of a list is an own one, or none is.
unfoldable pub each_held : Bool → (own : List Shingle) → List Shingle → Bool
each_held true own ss = all_held own ss
each_held false own ss = none_held own ss

-- Whether a stratum opens, from what was taken as positive and as negative. Where "negative ones are in the own list, positive ones are not",
-- none was taken with both signs, so that each sign is asked alone whether one was taken twice.
unfoldable pub opens_with : (empty : Bool) (new gone own : List Shingle) → Bool
opens_with empty new gone own = empty && (each_held true own gone && (each_held false own new && (no_shingle_twice new && no_shingle_twice gone)))

-- Stratum i, of its two tables of cells: how many shingles were taken from it, if it opens.
abbrev pub Listed : (levels i : ℕ) (theirs own shingles : List ℕ) (listed : Option ℕ) → Type 0
Listed levels i theirs own shingles listed =
    let taken = taken_of stratum_width levels (rows_in stratum_width theirs) (rows_in stratum_width own) in
    let opened = stratum_opens (of_stratum i (shingles_in shingles)) taken in
    MatchOption listed (opened ≡ false) (λ count. (opened ≡ true) × (count ≡ length taken.taken))
