-- Laws of the copied cells: the rows before k hold the message's values, and the table's rows are read back as those values.
use mathlib.Core.List.{List, ◌∷◌, ◌++◌, append_assoc}
use mathlib.Core.Path.{◌≡◌, refl, ap, ◌∙◌}
use Prim.Native.Nat.{ℕ, zero, suc, ◌+◌, ◌*◌, ◌-◌, ◌^◌, ◌≤◌, ◌<◌}
use native.Mathlib.Omega.{arith}
use lib.ListN.{length, get_or, drop, replicate, length-append, length-replicate, get_or-append}
use Rattle.rows.specs.Rows.{words_of, bytes_of, Stored}
use Rattle.rows.proofs.Rows.{words_cons}
use Rattle.sketch.specs.Sums.{along, row_bytes}
use Rattle.sketch.proofs.Sums.{length-along, get_d_along, length_rows}
use Rattle.sketch.proofs.Subtracting.{none_yet, one_more}
use Rattle.message.specs.Words.{link_words, plain}
use Rattle.message.specs.Fields.{value, parts_value}
use Rattle.message.specs.Parts.{CellRead}
use Rattle.message.proofs.Words.{rest_below}
use Rattle.announced.specs.Cells.{cell_at, value_count, cell_table, Copied}

-- Value after value.
pub copied_none : (message t : List ℕ) → Copied message 0 t t
copied_none message t = record { is = none_yet (cell_at message) t }

pub copied_more : (message before now after : List ℕ) (k x : ℕ) → k * 8 + 8 ≤ length before → length now ≡ length before
    → Copied message k before now → CellRead message 11 k x → Stored now after k x → Copied message (k + 1) before after
unfolding cell_at
copied_more message before now after k x room long c r s =
    record { is = one_more (cell_at message) before now after k x (omega arith) long r.stands c.is s }

pub copied_all : (message before after : List ℕ) (k count : ℕ) → k ≡ count → Copied message k before after
    → Copied message count before after
copied_all message before after k count e c = rw (← e) c

fewer_zeros : (n m : ℕ) → drop n (replicate {A = ℕ} m 0) ≡ replicate (m - n) 0
fewer_zeros zero m = ap (λ (n : ℕ). replicate {A = ℕ} n 0) {x = m} {y = m - 0} (omega arith)
fewer_zeros (suc n) zero = ap (λ (k : ℕ). replicate {A = ℕ} k 0) {x = 0} {y = 0 - suc n} (omega arith)
fewer_zeros (suc n) (suc m) = fewer_zeros n m ∙ ap (λ (k : ℕ). replicate {A = ℕ} k 0) {x = m - n} {y = suc m - suc n} (omega arith)

pub whole_table : (message after : List ℕ) (q count : ℕ) → count ≡ value_count q
    → Copied message count (replicate 7680 0) after → after ≡ cell_table message q
unfolding cell_table
whole_table message after q count e c =
    c.is
    ∙ (ap (λ (l : List ℕ). row_bytes (along count 0 (cell_at message)) ++ l) (fewer_zeros (count * 8) 7680)
    ∙ ap (λ (n : ℕ). row_bytes (along n 0 (cell_at message)) ++ replicate (7680 - n * 8) 0) e)

pub count_room : (q : ℕ) → value_count q * 8 ≤ 7680
unfolding value_count
count_room q = omega arith

pub table_long : (message : List ℕ) (q : ℕ) → length (cell_table message q) ≡ 7680
unfolding cell_table
table_long message q =
    let n = value_count q in
    let front = length_rows (along n 0 (cell_at message)) ∙ ap (λ (m : ℕ). m * 8) (length-along n 0 (cell_at message)) in
    length-append (row_bytes (along n 0 (cell_at message))) (replicate (7680 - n * 8) 0)
    ∙ omega (arith, front, length-replicate {A = ℕ} (7680 - n * 8) 0, count_room q)

-- A value has 64 bits, so that its row is read as it was written.
value_small : (message : List ℕ) (k : ℕ) → cell_at message k < 2 ^ 64
unfolding cell_at value parts_value plain
value_small message k =
    let ws = drop (11 + k * 3) (link_words message) in
    omega (arith, rest_below (get_or ws 1 0), rest_below (get_or ws 2 0))

rows_back : (n i : ℕ) (f : ℕ → ℕ) (rest : List ℕ) → ((k : ℕ) → f k < 2 ^ 64)
    → words_of (row_bytes (along n i f) ++ rest) ≡ along n i f ++ words_of rest
unfolding row_bytes along
rows_back zero i f rest small = refl
rows_back (suc n) i f rest small =
    ap words_of (append_assoc (bytes_of (f i)) (row_bytes (along n (suc i) f)) rest)
    ∙ (words_cons (f i) (row_bytes (along n (suc i) f) ++ rest) (small i) ∙ ap (λ (l : List ℕ). f i ∷ l) (rows_back n (suc i) f rest small))

pub table_row : (message : List ℕ) (q k : ℕ) → k < value_count q → get_or (words_of (cell_table message q)) k 0 ≡ cell_at message k
unfolding cell_table
table_row message q k h =
    let n = value_count q in
    let f = cell_at message in
    let rest : List ℕ = replicate (7680 - n * 8) 0 in
    ap (λ (l : List ℕ). get_or l k 0) (rows_back n 0 f rest (value_small message))
    ∙ (get_or-append (along n 0 f) (words_of rest) 0 k (omega (arith, length-along n 0 f))
    ∙ (get_d_along n 0 k f h ∙ ap f {x = 0 + k} {y = k} (omega arith)))
