-- A table of sums modulo 2^64, as lent bytes hold it: summands, each for one row, and the sums that they give.
use Rattle.std.specs.Prelude.{◌≡◌, ℕ, zero, suc, ◌+◌, ◌-◌, ◌*◌, ◌/◌, ◌%◌, ◌^◌, ◌<◌, Bool, cond, List, [], ◌∷◌, ◌++◌, length, drop, ◌==◌, slice_index}
use Rattle.rows.specs.Rows.{bytes_of, words_of}

-- A summand of one row.
pub record Part : Type 0 where
  pub row : ℕ
  pub value : ℕ

abbrev pub part : ℕ → ℕ → Part
part row value = record { row = row; value = value }

-- Summands of rows that follow one another, from row k on.
unfoldable pub parts_from : ℕ → List ℕ → List Part
parts_from k [] = []
parts_from k (x ∷ xs) = part k x ∷ parts_from (k + 1) xs

-- The sum of a row's summands.
unfoldable pub sum_at : ℕ → List Part → ℕ
sum_at k [] = 0
sum_at k (p ∷ ps) = cond (p.row == k) p.value 0 + sum_at k ps

-- f of n numbers from i on.
unfoldable pub along : ℕ → ℕ → (ℕ → ℕ) → List ℕ
along zero i f = []
along (suc n) i f = f i ∷ along n (suc i) f

-- n rows, "each modulo 2^64".
unfoldable pub sums : ℕ → List Part → List ℕ
sums n ps = along n 0 (λ (k : ℕ). sum_at k ps % 2 ^ 64)

-- The number that gives 0 with b, modulo 2^64.
unfoldable pub neg : ℕ → ℕ
neg b = (2 ^ 64 - b % 2 ^ 64) % 2 ^ 64

-- A value with its sign, modulo 2^64.
unfoldable pub with_sign : Bool → ℕ → ℕ
with_sign negative x = cond negative (neg x) x

-- "subtract own cells from the sender's", row by row.
unfoldable pub minus : ℕ → ℕ → ℕ
minus a b = (a + neg b) % 2 ^ 64

unfoldable pub difference_of : List ℕ → List ℕ → List ℕ
difference_of theirs own = along (length theirs) 0 (λ (k : ℕ). minus (slice_index theirs k) (slice_index own k))

-- Rows with summands added to them.
unfoldable pub plus : List ℕ → List Part → List ℕ
plus rows ps = along (length rows) 0 (λ (k : ℕ). (slice_index rows k + sum_at k ps) % 2 ^ 64)

-- The summands with the other sign.
unfoldable pub negated : List Part → List Part
negated [] = []
negated (p ∷ ps) = part p.row (neg p.value) ∷ negated ps

-- The bytes of rows, eight each, most significant first.
unfoldable pub row_bytes : List ℕ → List ℕ
row_bytes [] = []
row_bytes (x ∷ xs) = bytes_of x ++ row_bytes xs

-- Row k of one table less row k of another.
abbrev pub row_less : List ℕ → List ℕ → ℕ → ℕ
row_less theirs own k = minus (slice_index (words_of theirs) k) (slice_index (words_of own) k)

-- What subtracting leaves in a table: the differences of the two tables' rows in its whole rows. Bytes after them are as before.
unfoldable pub subtracted : List ℕ → List ℕ → List ℕ → List ℕ
subtracted theirs own t = row_bytes (along (length t / 8) 0 (row_less theirs own)) ++ drop (length t / 8 * 8) t

-- The rows of a table have these summands more. Fewer than eight bytes after its rows are as before.
pub record Added (before after : List ℕ) (ps : List Part) : Type 0 where
  pub more : (rows rest : List ℕ) → length rest < 8 → before ≡ row_bytes rows ++ rest → after ≡ row_bytes (plus rows ps) ++ rest
