-- Whether a string has as many blocks as the bound: the file of request 6 no longer has, where that is more than one; some strings still have.
use mathlib.Core.List.{List, [], ◌∷◌}
use mathlib.Core.Path.{◌≡◌, refl}
use Prim.Native.Nat.{ℕ, ◌≤◌, ◌<◌}
use lib.ListN.{length}
use Rattle.fnv.specs.Fnv.{hash_onward, next_hash}
use Rattle.spread.specs.Spreading.{spread_of}
use Rattle.partition.specs.Cuts.{number_from, window_at, value_at, lowest, candidate, cons_if, passing, spaced, cuts_of}
use Rattle.partition.specs.Blocks.{blocks_from, blocks_of}
use Rattle.partition.proofs.Runs.{run_one_block}
use Rattle.most_blocks.specs.Most.{most_blocks_of, zero_file}

-- "above 1 its file no longer reaches it"
pub file_below : (w h s n : ℕ) → 1 ≤ h → 1 < most_blocks_of n w h → length (blocks_of w h s (zero_file n)) < most_blocks_of n w h
file_below w h s n some more = rw (run_one_block 0 w h s n some) more

-- Nine bytes that are cut at 2 and 5, by w = 2, h = 2 and s = 4: three blocks, and the bound is 3.
abbrev nine : List ℕ
nine = 0 ∷ 1 ∷ 0 ∷ 0 ∷ 1 ∷ 0 ∷ 0 ∷ 0 ∷ 0 ∷ []

pub nine_reach : length (blocks_of 2 2 4 nine) ≡ most_blocks_of 9 2 2
unfolding blocks_of blocks_from cuts_of spaced passing cons_if candidate lowest value_at window_at number_from spread_of hash_onward next_hash most_blocks_of
nine_reach = refl
