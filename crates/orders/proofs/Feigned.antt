-- Cells that feign a shingle. The last step of FNV-1a multiplies by a prime after the last byte, which is the count's: so counts 1 and 2 change the
-- check hash of two pairs alike, and in one cell a pair whose count goes from 1 to 2 and another of count 1 look like that other of count 2.
use mathlib.Core.Bool.{Bool, true, false, ◌||◌}
use mathlib.Core.List.{List, [], ◌∷◌}
use mathlib.Core.Path.{◌≡◌, refl, sym, ap, subst, ◌∙◌}
use Prim.Native.Nat.{ℕ, ◌≤◌}
use native.Mathlib.Omega.{arith}
use lib.ListN.{get_or, replicate}
use Rattle.entries.proofs.Linear.{both}
use Rattle.entries.specs.Order.{first, earlier}
use Rattle.rows.specs.Rows.{bytes_of}
use Rattle.fnv.specs.Fnv.{next_hash, hash_onward}
use Rattle.sort.specs.Sort.{insert_of, sort_of}
use Rattle.shingle.specs.declared.Shingle.{Shingle}
use Rattle.shingle.specs.Rising.{same_pair}
use Rattle.shingle.specs.Table.{agree, holds}
use Rattle.shingle.proofs.Agreement.{agree_true}
use Rattle.sketch.specs.Sums.{sum_at, along, sums, neg, minus, difference_of, plus, negated}
use Rattle.sketch.specs.Cells.{shingle_bytes, four_bytes, tag_of, cell_of, five_parts, in_cell, parts_of, all_parts, cells_of}
use Rattle.sketch.specs.Opening.{signed, signed_parts, is_negative, value_in, shingle_in, lies_in, fits, single, first_from, lowest, held_by, without}
use Rattle.sketch.specs.Opening.{Peeled, peeled, after, take_one, peel, taken_of, opens_to, all_zero, positives, negatives, shingles_of, no_shingle_twice, all_held, none_held}
use Rattle.sketch.specs.Opening.{kept, before, renewed, new_list, pair_in, no_pair_twice}
use Rattle.orders.specs.Taking.{left_along, Singly, NoneSingle, Whole}
use Rattle.orders.specs.Limits.{Limited, Lists}
use Rattle.orders.specs.Orders.{start_of}
use Rattle.orders.specs.Feigned.{EndApart, OpenWrongly}
use Rattle.orders.proofs.Lowest.{none_lowest}

-- A pair of level 1 with previous id 0.
abbrev shingle : (own count : ℕ) → Shingle
shingle own count = record { previous = 0; own = own; level = 1; count = count }

-- Own: a pair once. Theirs: the same pair twice, and another once.
abbrev own_list : ℕ → List Shingle
own_list x = shingle x 1 ∷ []

abbrev their_list : ℕ → ℕ → List Shingle
their_list x y = shingle x 2 ∷ shingle y 1 ∷ []

-- They keep the limits.
limited : (own count : ℕ) → own ≤ 9 → 1 ≤ count → count ≤ 2 → Limited 1 (shingle own count)
limited own count small low high =
    record { previous_id = omega arith; own_id = omega arith; level_high = omega arith; count_low = low; count_high = omega arith }

limited_first : (x : Shingle) (ss : List Shingle) → Limited 1 x → ((s : Shingle) → holds s ss ≡ true → Limited 1 s)
    → (s : Shingle) → holds s (x ∷ ss) ≡ true → Limited 1 s
unfolding holds
limited_first x ss here rest s h = go (agree s x) refl h
  where
    go : (t : Bool) → agree s x ≡ t → (t || holds s ss) ≡ true → Limited 1 s
    go true e f = subst (Limited 1) (sym (agree_true s x e)) here
    go false e f = rest s f

limited_none : (s : Shingle) → holds s [] ≡ true → Limited 1 s
unfolding holds
limited_none s h = absurd (both h refl)

lists : (q x y : ℕ) → 1 ≤ q → x ≤ 9 → y ≤ 9 → no_pair_twice (their_list x y) ≡ true → no_pair_twice (own_list x) ≡ true → Lists q 1 (their_list x y) (own_list x)
lists q x y some low low' once once' =
    record {
      some = some;
      low = omega arith;
      sender = record {
        each = limited_first (shingle x 2) (shingle y 1 ∷ []) (limited x 2 low (omega arith) (omega arith))
            (limited_first (shingle y 1) [] (limited y 1 low' (omega arith) (omega arith)) limited_none);
        few = omega arith;
        once = once;
      };
      receiver = record { each = limited_first (shingle x 1) [] (limited x 1 low (omega arith) (omega arith)) limited_none; few = omega arith; once = once' };
    }

-- The five values of a cell, and then those of the next ones.
abbrev cell : (number previous own tail tag : ℕ) → List ℕ → List ℕ
cell number previous own tail tag cells = number ∷ previous ∷ own ∷ tail ∷ tag ∷ cells

-- With q = 3 and own ids 3 and 7 the three shingles meet in cell 6 alone, which feigns the second pair twice. The lowest cells first, all is taken;
-- that cell first, nothing else is single, and much is left.
abbrev start_cells : List ℕ
start_cells =
    cell 1 0 3 65538 925040441434016394
    (cell 0 0 4 0 14791073889576441460
    (cell 0 0 0 0 0
    (cell 0 0 0 1 1099511628211
    (cell 1 0 7 65537 15716113231498829643
    (cell 0 0 0 0 0
    (cell 1 0 7 65538 15716114331010457854
    (cell 0 0 0 0 0
    (cell 0 0 0 0 0 []))))))))

abbrev down_cells : List ℕ
down_cells =
    cell 0 0 18446744073709551612 0 3655670184133110156
    (cell 0 0 4 0 14791073889576441460
    (cell 0 0 0 0 0
    (cell 0 0 0 1 1099511628211
    (cell 0 0 0 18446744073709551615 18446742974197923405
    (cell 0 0 0 0 0
    (cell 0 0 0 0 0
    (cell 0 0 0 0 0
    (cell 0 0 0 0 0 []))))))))

abbrev upward : List ℕ
upward = 0 ∷ 3 ∷ 1 ∷ []

abbrev downward : List ℕ
downward = 6 ∷ []

starts : start_of 3 (their_list 3 7) (own_list 3) ≡ start_cells
unfolding difference_of minus neg cells_of sums along sum_at all_parts parts_of in_cell five_parts cell_of tag_of shingle_bytes four_bytes bytes_of hash_onward next_hash
starts = refl

up_singly : Singly 3 1 start_cells upward
unfolding Singly held_by single fits lies_in shingle_in value_in is_negative without signed_parts plus negated neg along sum_at
    parts_of in_cell five_parts cell_of tag_of shingle_bytes four_bytes bytes_of hash_onward next_hash
up_singly = (omega arith, refl, (omega arith, refl, (omega arith, refl, tt)))

up_left : left_along 3 start_cells upward ≡ replicate 45 0
unfolding left_along held_by shingle_in value_in is_negative without signed_parts plus negated neg along sum_at cell_of tag_of shingle_bytes four_bytes bytes_of hash_onward next_hash in_cell five_parts parts_of
up_left = refl

down_singly : Singly 3 1 start_cells downward
unfolding Singly held_by single fits lies_in shingle_in value_in is_negative cell_of tag_of shingle_bytes four_bytes bytes_of hash_onward next_hash
down_singly = (omega arith, refl, tt)

down_left : left_along 3 start_cells downward ≡ down_cells
unfolding left_along held_by shingle_in value_in is_negative without signed_parts plus negated neg along sum_at cell_of tag_of shingle_bytes four_bytes bytes_of hash_onward next_hash in_cell five_parts parts_of
down_left = refl

-- No cell is single then.
up_ended : lowest 3 1 (replicate 45 0) ≡ 9
unfolding lowest first_from single fits lies_in shingle_in value_in is_negative neg cell_of tag_of shingle_bytes four_bytes bytes_of hash_onward next_hash
up_ended = refl

down_ended : lowest 3 1 down_cells ≡ 9
unfolding lowest first_from single fits lies_in shingle_in value_in is_negative neg cell_of tag_of shingle_bytes four_bytes bytes_of hash_onward next_hash
down_ended = refl

ended : (cells left order : List ℕ) → left_along 3 cells order ≡ left → lowest 3 1 left ≡ 9 → NoneSingle 3 1 (left_along 3 cells order)
ended cells left order e f = subst (NoneSingle 3 1) (sym e) (none_lowest 3 1 left (omega (arith, f)))

pub end_apart : EndApart
unfolding no_pair_twice pair_in same_pair
end_apart =
    record {
      q = 3;
      levels = 1;
      theirs = their_list 3 7;
      own = own_list 3;
      lists = lists 3 3 7 (omega arith) (omega arith) (omega arith) refl refl;
      order = upward;
      other = downward;
      one = subst (λ (c : List ℕ). Whole 3 1 c upward) (sym starts) (record { singly = up_singly; ended = ended start_cells (replicate 45 0) upward up_left up_ended });
      two = subst (λ (c : List ℕ). Whole 3 1 c downward) (sym starts) (record { singly = down_singly; ended = ended start_cells down_cells downward down_left down_ended });
      apart = λ same.
          let along = ap (λ (c : List ℕ). left_along 3 c upward) starts ∙ up_left in
          let other = ap (λ (c : List ℕ). left_along 3 c downward) starts ∙ down_left in
          let row : ◌≡◌ {A = ℕ} 0 18446744073709551612 = ap (λ (c : List ℕ). get_or c 2 0) (sym along ∙ (same.cells ∙ other)) in
          omega (arith, row);
    }

-- With q = 1 and own ids 1 and 5 they meet in all three cells, each of which feigns the second pair twice: it is taken, and nothing is left.
abbrev feigning_cells : List ℕ
feigning_cells =
    cell 1 0 5 65538 17543945025030500088
    (cell 1 0 5 65538 17543945025030500088
    (cell 1 0 5 65538 17543945025030500088 []))

feigning : start_of 1 (their_list 1 5) (own_list 1) ≡ feigning_cells
unfolding difference_of minus neg cells_of sums along sum_at all_parts parts_of in_cell five_parts cell_of tag_of shingle_bytes four_bytes bytes_of hash_onward next_hash
feigning = refl

peeled_once : peel 1 1 3 feigning_cells ≡ peeled (signed false (shingle 5 2) ∷ []) (replicate 15 0)
unfolding peel take_one after held_by lowest first_from single fits lies_in shingle_in value_in is_negative without signed_parts plus negated neg along sum_at
    parts_of in_cell five_parts cell_of tag_of shingle_bytes four_bytes bytes_of hash_onward next_hash
peeled_once = refl

feigned : taken_of 1 1 (cells_of 1 (their_list 1 5)) (cells_of 1 (own_list 1)) ≡ peeled (signed false (shingle 5 2) ∷ []) (replicate 15 0)
unfolding taken_of
feigned = ap (peel 1 1 3) feigning ∙ peeled_once

feigned_opens : opens_to (own_list 1) (peeled (signed false (shingle 5 2) ∷ []) (replicate 15 0)) ≡ true
unfolding opens_to all_zero no_shingle_twice shingles_of positives negatives all_held none_held holds agree new_list renewed kept sort_of insert_of before earlier first no_pair_twice pair_in same_pair
feigned_opens = refl

count_of : List Shingle → ℕ
count_of [] = 0
count_of (s ∷ ss) = s.count

feigned_wrong : new_list (own_list 1) (signed false (shingle 5 2) ∷ []) ≡ sort_of before (their_list 1 5) → ⊥
unfolding count_of positives negatives holds agree new_list renewed kept sort_of insert_of before earlier first
feigned_wrong e = let count : ◌≡◌ {A = ℕ} 1 2 = ap count_of e in omega (arith, count)

pub open_wrongly : OpenWrongly
unfolding no_pair_twice pair_in same_pair
open_wrongly =
    record {
      q = 1;
      levels = 1;
      theirs = their_list 1 5;
      own = own_list 1;
      lists = lists 1 1 5 (omega arith) (omega arith) (omega arith) refl refl;
      opens = ap (opens_to (own_list 1)) feigned ∙ feigned_opens;
      wrong = λ e. feigned_wrong (sym (ap (λ (p : Peeled). new_list (own_list 1) p.taken) feigned) ∙ e);
    }
