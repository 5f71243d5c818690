-- What an accepted answer says of strings: none of the length has more blocks, and where the bound is above 1 the zero file has fewer.
use mathlib.Core.Bool.{Bool, true, false, cond, and-eq-true_iff}
use mathlib.Core.List.{List}
use mathlib.Core.Path.{◌≡◌, refl, ◌∙◌}
use Prim.Native.Nat.{ℕ, ◌+◌, ◌^◌, ◌≤◌, ◌<◌}
use native.Mathlib.Omega.{arith}
use borrow.Author.Tests.{leb-true}
use lib.Dec.{leb}
use lib.ListN.{length}
use Rattle.tree.specs.Questions.{within}
use Rattle.partition.specs.Blocks.{blocks_of}
use Rattle.most_blocks.specs.Most.{most_blocks_of, in_range, most_answer, zero_file}
use Rattle.most_blocks.proofs.Bounded.{blocks_bounded}
use Rattle.most_blocks.proofs.Reached.{file_below}

pub apart : (n w h : ℕ) → in_range n w h ≡ true → 1 ≤ h
apart n w h ranges =
    let distance = ((and-eq-true_iff (within 1 32768 h) _).0 ((and-eq-true_iff (within 2 12 w) _).0 ranges).1).0 in
    leb-true 1 h ((and-eq-true_iff (leb 1 h) _).0 distance).0

-- An answer from 2^32 on is no question's number.
accepted : (n w h : ℕ) → 2 ^ 32 ≤ most_answer n w h → in_range n w h ≡ true
unfolding most_answer
accepted n w h = at (in_range n w h)
  where
    at : (ranges : Bool) → 2 ^ 32 ≤ cond ranges (2 ^ 32 + most_blocks_of n w h) 24 → ranges ≡ true
    at true large = refl
    at false large = absurd (omega arith)

module _ (n w h : ℕ) {r : ℕ} (call : r ≡ most_answer n w h) (large : 2 ^ 32 ≤ r) where
  passed : in_range n w h ≡ true
  passed = accepted n w h (rw (← call) large)

  counts : r ≡ 2 ^ 32 + most_blocks_of n w h
  unfolding most_answer
  counts = call ∙ rw passed

  pub no_string_has_more : (s : ℕ) (bytes : List ℕ) → length bytes ≡ n → 2 ^ 32 + length (blocks_of w h s bytes) ≤ r
  no_string_has_more s bytes e = omega (arith, counts, rw e at (blocks_bounded w h s bytes (apart n w h passed)))

  pub file_has_fewer : (s : ℕ) → 2 ^ 32 + 1 < r → 2 ^ 32 + length (blocks_of w h s (zero_file n)) < r
  file_has_fewer s more = omega (arith, counts, file_below w h s n (apart n w h passed) (omega (arith, counts)))
