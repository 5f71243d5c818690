-- No string of a length has more blocks from one cutting than `most_blocks_of`: its cuts lie h apart and h from either end of the range.
use mathlib.Core.List.{List, [], ◌∷◌}
use Prim.Native.Nat.{ℕ, suc, ◌+◌, ◌*◌, ◌/◌, ◌≤◌, max}
use native.Mathlib.Nat.{suc-mul, le-div_iff_mul-le}
use native.Mathlib.Omega.{arith}
use lib.ListN.{length}
use Rattle.partition.specs.Blocks.{blocks_of}
use Rattle.partition.specs.Apart.{Apart, none, cut}
use Rattle.partition.proofs.Placed.{cuts_apart, cuts_few}
use Rattle.partition.proofs.Blocks.{blocks_count}
use Rattle.most_blocks.specs.Most.{most_blocks_of}

-- Cuts that are d apart need so much room.
apart_room : {d from to c : ℕ} {cs : List ℕ} → Apart d from (c ∷ cs) to → from + suc (length cs) * d ≤ to
apart_room {d} {cs = []} (cut low high rest) = omega (arith, suc-mul 0 d)
apart_room {d} {cs = x ∷ cs} (cut low high rest) = omega (arith, apart_room rest, suc-mul (suc (length cs)) d)

-- They are one fewer than the blocks that fit.
apart_fits : {h to : ℕ} {cs : List ℕ} → 1 ≤ h → Apart h h cs to → suc (length cs) ≤ max 1 (to / h)
apart_fits {cs = []} some none = omega arith
apart_fits {h} {to} {cs = c ∷ cs} some s =
    let room : suc (suc (length cs)) * h ≤ to = omega (arith, apart_room s, suc-mul (suc (length cs)) h) in
    let fit : suc (suc (length cs)) ≤ to / h = (le-div_iff_mul-le some).1 room in
    omega arith

-- "no string of that length has more blocks from one cutting"
pub blocks_bounded : (w h s : ℕ) (bytes : List ℕ) → 1 ≤ h → length (blocks_of w h s bytes) ≤ most_blocks_of (length bytes) w h
unfolding most_blocks_of
blocks_bounded w h s bytes some =
    omega (arith, blocks_count w h s bytes, cuts_few w h s bytes, apart_fits some (cuts_apart w h s bytes))
