-- The laws of the two definitions, for whoever uses them: the listed trails are exactly the sequences with the table's pairs, they rise,
-- and number and order are inverse to each other.
use mathlib.Core.Bool.{true}
use mathlib.Core.List.{List, [], Memᴰ}
use mathlib.Core.Path.{◌≡◌, refl, ap, subst, ◌∙◌}
use Prim.Native.Nat.{ℕ, ◌<◌, ◌≤◌, min}
use native.Mathlib.Omega.{arith}
use lib.ListN.{length}
use Rattle.trail.specs.Trails.{Multiset, pairs_from, pairs_of, total, rising, trails_from, before, count_before, trails_like, trail_number, trails_over, order_of}
use Rattle.trail.proofs.Every.{every_at, rising_at}
use Rattle.trail.proofs.Ids.{rising_up}
use Rattle.trail.proofs.Inverse.{count_at, at_count}
use Rattle.trail.proofs.Tally.{Sized}
use Rattle.trail.proofs.Trails.{sound, complete, Covers, trails_rise}
use Rattle.trail.proofs.Weigh.{trail_length, any_ids, owns_cover, ids_cover}

module _ (ps os cs : List ℕ) (long : (length ps ≡ length cs) × (length os ≡ length cs)) where
  sized : Sized (total cs) (pairs_of ps os cs)
  sized = record { previouses = ps; owns = os; counts = cs; long = long; gives = refl; size = refl }

  -- Every listed sequence has exactly the multiset's pairs.
  pub listed_pairs : (i : ℕ) → i < length (trails_over ps os cs) → pairs_from 0 (order_of ps os cs i) ≡ pairs_of ps os cs
  unfolding trails_over order_of
  listed_pairs i h = every_at [] (sound (total cs) (rising os) 0 (pairs_of ps os cs) sized) i h

  -- So it has as many ids as there are pairs.
  pub listed_length : (i : ℕ) → i < length (trails_over ps os cs) → length (order_of ps os cs i) ≡ total cs
  listed_length i h = trail_length 0 (order_of ps os cs i) sized (listed_pairs i h)

  -- The list rises strictly.
  pub list_rises : (i j : ℕ) → i < j → j < length (trails_over ps os cs) → before (order_of ps os cs i) (order_of ps os cs j) ≡ true
  unfolding trails_over order_of
  list_rises i j h l = rising_at [] (trails_rise (total cs) 0 (pairs_of ps os cs) (rising_up os)) i j h l

  -- The trails over a table are those over the pairs of any sequence that has them.
  pub same_trails : (xs : List ℕ) → pairs_from 0 xs ≡ pairs_of ps os cs → trails_like xs ≡ trails_over ps os cs
  unfolding trails_like trails_over
  same_trails xs e =
      (λ i. trails_from (trail_length 0 xs sized e i) (rising xs) 0 (e i))
      ∙ any_ids (rising xs) (rising os) 0 sized (rising_up xs) (subst (λ (pairs : Multiset). Covers (rising xs) pairs) e (ids_cover 0 xs)) (rising_up os) (owns_cover ps os cs)

  -- Every sequence that has the multiset's pairs is listed, at the place that says how many come before it.
  pub pairs_listed : (xs : List ℕ) → pairs_from 0 xs ≡ pairs_of ps os cs →
      (count_before xs (trails_over ps os cs) < length (trails_over ps os cs)) × (order_of ps os cs (count_before xs (trails_over ps os cs)) ≡ xs)
  unfolding trails_over order_of
  pairs_listed xs e = at_count (trails_rise (total cs) 0 (pairs_of ps os cs) (rising_up os))
      (subst (λ (n : ℕ). Memᴰ xs (trails_from n (rising os) 0 (pairs_of ps os cs))) (trail_length 0 xs sized e) (complete (rising os) 0 xs (pairs_of ps os cs) (owns_cover ps os cs) e))

  -- So its number, which is no greater than that place, is a trail's.
  pub number_listed : (xs : List ℕ) → pairs_from 0 xs ≡ pairs_of ps os cs → trail_number xs < length (trails_over ps os cs)
  unfolding trail_number
  number_listed xs e = let same = ap (count_before xs) (same_trails xs e) in omega (arith, same, (pairs_listed xs e).0)

  -- Number, then order: a number up to 4,095 gives the sequence again.
  pub order_of_number : (xs : List ℕ) → pairs_from 0 xs ≡ pairs_of ps os cs → trail_number xs ≤ 4095 →
      (trail_number xs < length (trails_over ps os cs)) × (order_of ps os cs (trail_number xs) ≡ xs)
  unfolding trail_number
  order_of_number xs e h =
      let same : min 4096 (count_before xs (trails_like xs)) ≡ count_before xs (trails_over ps os cs) = let q = ap (count_before xs) (same_trails xs e) in omega arith in
      (number_listed xs e, ap (order_of ps os cs) same ∙ (pairs_listed xs e).1)

  -- Order, then number: the number again, up to 4,096.
  pub number_of_order : (i : ℕ) → i < length (trails_over ps os cs) → trail_number (order_of ps os cs i) ≡ min 4096 i
  unfolding trail_number
  number_of_order i h = ap (min 4096) (ap (count_before (order_of ps os cs i)) (same_trails (order_of ps os cs i) (listed_pairs i h)) ∙ place_of i h)
    where
      place_of : (i : ℕ) → i < length (trails_over ps os cs) → count_before (order_of ps os cs i) (trails_over ps os cs) ≡ i
      place_of i h = unfold trails_over order_of in count_at (trails_rise (total cs) 0 (pairs_of ps os cs) (rising_up os)) i h
