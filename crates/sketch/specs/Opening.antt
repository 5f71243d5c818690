-- Opening a sketch: document 01, 'Shingles and sketch', third paragraph, in its order. Cells are rows, five to a cell.
use Rattle.std.specs.Prelude.{◌≡◌, ℕ, zero, suc, ◌+◌, ◌-◌, ◌*◌, ◌/◌, ◌%◌, ◌^◌, Bool, true, false, cond, not, ◌&&◌, ◌||◌, List, [], ◌∷◌, ◌++◌, length, ◌==◌, nat_le, nat_lt, slice_index}
use Rattle.entries.specs.Order.{earlier}
use Rattle.sort.specs.Sort.{sort_of}
use Rattle.shingle.specs.declared.Shingle.{Shingle}
use Rattle.shingle.specs.Shingles.{pair_of}
use Rattle.shingle.specs.Table.{holds}
use Rattle.shingle.specs.Rising.{same_pair}
use Rattle.sketch.specs.Sums.{Part, sums, neg, negated, plus, difference_of}
use Rattle.sketch.specs.Cells.{tag_of, cell_of, parts_of}

-- A shingle with its sign.
pub record Signed : Type 0 where
  pub negative : Bool
  pub shingle : Shingle

abbrev pub signed : Bool → Shingle → Signed
signed negative s = record { negative = negative; shingle = s }

-- What it adds to its three cells.
unfoldable pub signed_parts : ℕ → Signed → List Part
signed_parts q z = cond z.negative (negated (parts_of q z.shingle)) (parts_of q z.shingle)

unfoldable pub all_signed : ℕ → List Signed → List Part
all_signed q [] = []
all_signed q (z ∷ zs) = signed_parts q z ++ all_signed q zs

unfoldable pub signed_cells : ℕ → List Signed → List ℕ
signed_cells q zs = sums (q * 15) (all_signed q zs)

-- "its number is 1, or 2^64−1 (then negate the other four)"
unfoldable pub is_negative : List ℕ → ℕ → Bool
is_negative cells i = slice_index cells (i * 5) == 2 ^ 64 - 1

-- One of a cell's sums, with the cell's sign.
unfoldable pub value_in : List ℕ → ℕ → ℕ → ℕ
value_in cells i m = cond (is_negative cells i) (neg (slice_index cells (i * 5 + m))) (slice_index cells (i * 5 + m))

-- The shingle that a cell holds if it is single.
unfoldable pub shingle_in : List ℕ → ℕ → Shingle
shingle_in cells i =
    record {
      previous = value_in cells i 1;
      own = value_in cells i 2;
      level = value_in cells i 3 / 65536;
      count = value_in cells i 3 % 65536;
    }

-- "this cell is one of that shingle's three"
unfoldable pub lies_in : ℕ → ℕ → Shingle → Bool
lies_in q i s = i == cell_of q 0 s || (i == cell_of q 1 s || i == cell_of q 2 s)

-- "the tail is below 2^32 with level 0 to L and count 1 to 4,096, F(3) fits"
unfoldable pub fits : ℕ → ℕ → ℕ → Shingle → Bool
fits levels tail tag s =
    nat_lt tail (2 ^ 32) && (nat_le s.level levels && (nat_le 1 s.count && (nat_le s.count 4096 && tag == tag_of 3 s)))

unfoldable pub single : ℕ → ℕ → List ℕ → ℕ → Bool
single q levels cells i =
    (slice_index cells (i * 5) == 1 || is_negative cells i)
    && (fits levels (value_in cells i 3) (value_in cells i 4) (shingle_in cells i) && lies_in q i (shingle_in cells i))

-- The first of n numbers from i on that passes the test, or i + n.
unfoldable pub first_from : (ℕ → Bool) → ℕ → ℕ → ℕ
first_from test zero i = i
first_from test (suc n) i = cond (test i) i (first_from test n (suc i))

-- "the single cell of lowest index", or 3q
unfoldable pub lowest : ℕ → ℕ → List ℕ → ℕ
lowest q levels cells = first_from (single q levels cells) (q * 3) 0

unfoldable pub held_by : List ℕ → ℕ → Signed
held_by cells i = signed (is_negative cells i) (shingle_in cells i)

-- "remove its shingle with that sign from its three cells"
unfoldable pub without : ℕ → Signed → List ℕ → List ℕ
without q z cells = plus cells (signed_parts q (signed (not z.negative) z.shingle))

-- What was taken, in order, and the cells that are left.
pub record Peeled : Type 0 where
  pub taken : List Signed
  pub left : List ℕ

abbrev pub peeled : List Signed → List ℕ → Peeled
peeled taken left = record { taken = taken; left = left }

-- With one shingle taken before.
unfoldable pub after : Signed → Peeled → Peeled
after z p = peeled (z ∷ p.taken) p.left

-- If there is a single cell, take it and go on; else stop.
unfoldable pub take_one : ℕ → (List ℕ → Peeled) → List ℕ → ℕ → Bool → Peeled
take_one q next cells i true = after (held_by cells i) (next (without q (held_by cells i) cells))
take_one q next cells i false = peeled [] cells

-- "Take the single cell of lowest index, remove .., repeat", at most so many times.
unfoldable pub peel : ℕ → ℕ → ℕ → List ℕ → Peeled
peel q levels zero cells = peeled [] cells
peel q levels (suc n) cells =
    take_one q (λ (rest : List ℕ). peel q levels n rest) cells (lowest q levels cells) (nat_lt (lowest q levels cells) (q * 3))

-- "all cells end at 0"
unfoldable pub all_zero : List ℕ → Bool
all_zero [] = true
all_zero (x ∷ xs) = x == 0 && all_zero xs

-- The shingles taken as positive, and those taken as negative.
unfoldable pub positives : List Signed → List Shingle
positives [] = []
positives (z ∷ zs) = cond z.negative (positives zs) (z.shingle ∷ positives zs)

unfoldable pub negatives : List Signed → List Shingle
negatives [] = []
negatives (z ∷ zs) = cond z.negative (z.shingle ∷ negatives zs) (negatives zs)

unfoldable pub shingles_of : List Signed → List Shingle
shingles_of [] = []
shingles_of (z ∷ zs) = z.shingle ∷ shingles_of zs

-- "no shingle was taken twice", whatever its sign
unfoldable pub no_shingle_twice : List Shingle → Bool
no_shingle_twice [] = true
no_shingle_twice (s ∷ ss) = not (holds s ss) && no_shingle_twice ss

-- "negative ones are in the own list, positive ones are not"
unfoldable pub all_held : List Shingle → List Shingle → Bool
all_held own [] = true
all_held own (s ∷ ss) = holds s own && all_held own ss

unfoldable pub none_held : List Shingle → List Shingle → Bool
none_held own [] = true
none_held own (s ∷ ss) = not (holds s own) && none_held own ss

-- The own list without the negative ones.
unfoldable pub kept : List Shingle → List Shingle → List Shingle
kept gone [] = []
kept gone (s ∷ ss) = cond (holds s gone) (kept gone ss) (s ∷ kept gone ss)

-- "sorted by level, previous id, own id, unsigned". Where a table lists a pair with several counts, the lower count is first.
unfoldable pub before : Shingle → Shingle → Bool
before a b = earlier a.level a.previous a.own b.level b.previous b.own (nat_lt a.count b.count)

-- The own list without the shingles that are gone and with the new ones, sorted.
unfoldable pub renewed : (own gone new : List Shingle) → List Shingle
renewed own gone new = sort_of before (kept gone own ++ new)

-- The new list: the own one without the negative ones and with the positive ones.
unfoldable pub new_list : List Shingle → List Signed → List Shingle
new_list own zs = renewed own (negatives zs) (positives zs)

-- "no pair twice at one level"
unfoldable pub pair_in : Shingle → List Shingle → Bool
pair_in s [] = false
pair_in s (x ∷ xs) = same_pair (pair_of s) (pair_of x) || pair_in s xs

unfoldable pub no_pair_twice : List Shingle → Bool
no_pair_twice [] = true
no_pair_twice (s ∷ ss) = not (pair_in s ss) && no_pair_twice ss

-- "The sketch opens if all cells end at 0, no shingle was taken twice, negative ones are in the own list, positive ones are not,
-- and the new list has at most 4,096 shingles with no pair twice at one level."
unfoldable pub opens_to : List Shingle → Peeled → Bool
opens_to own p =
    all_zero p.left
    && (no_shingle_twice (shingles_of p.taken)
    && (all_held own (negatives p.taken)
    && (none_held own (positives p.taken)
    && (nat_le (length (new_list own p.taken)) 4096 && no_pair_twice (new_list own p.taken)))))

-- "Opening a sketch: subtract own cells from the sender's." .. "at most 3q times": what is taken from the difference.
unfoldable pub taken_of : ℕ → ℕ → List ℕ → List ℕ → Peeled
taken_of q levels theirs own = peel q levels (q * 3) (difference_of theirs own)

unfoldable pub opens : ℕ → ℕ → List ℕ → List ℕ → List Shingle → Bool
opens q levels theirs own list = opens_to list (taken_of q levels theirs own)

-- The shingles of one list that the other lacks, with a sign.
unfoldable pub lacking : Bool → List Shingle → List Shingle → List Signed
lacking negative other [] = []
lacking negative other (s ∷ ss) = cond (holds s other) (lacking negative other ss) (signed negative s ∷ lacking negative other ss)

-- "The true difference is what the sender's shingle list has and the own lacks, as positive, and the reverse, as negative."
unfoldable pub true_difference : List Shingle → List Shingle → List Signed
true_difference theirs own = lacking false own theirs ++ lacking true theirs own

-- Signed shingles that are the true difference, in any order, no positive one twice.
pub record IsDifference (theirs own : List Shingle) (zs : List Signed) : Type 0 where
  pub positive : (s : Shingle) → holds s (positives zs) ≡ (holds s theirs && not (holds s own))
  pub negative : (s : Shingle) → holds s (negatives zs) ≡ (holds s own && not (holds s theirs))
  pub once : no_shingle_twice (positives zs) ≡ true
