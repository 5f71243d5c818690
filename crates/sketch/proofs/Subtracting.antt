-- Subtracting row by row: the rows before k hold differences, and the rest of the table is as it was.
use Rattle.std.proofs.Common.{◌≡◌, ℕ, zero, suc, ◌+◌, ◌-◌, ◌*◌, ◌/◌, ◌%◌, ◌^◌, ◌<◌, List, [], ◌∷◌, ◌++◌, length, get_or, take, drop, sym, refl, ap, ◌∙◌, append_assoc, append-nil, add-one, arith, drop_of_length-le, drop-drop, take_at, le-leb}
use lib.Seq.{drop-append-add}
use Rattle.rows.specs.Rows.{words_of, bytes_of, store_of, Stored}
use Rattle.sketch.specs.Sums.{Part, along, sums, neg, minus, difference_of, row_bytes, row_less, subtracted}
use Rattle.sketch.proofs.Sums.{length-along, along_same, rows_append, length_rows, length-sums, words_sums}

-- What is added in place of b to subtract it.
minus_is : (a b : ℕ) → b < 2 ^ 64 → (a + (2 ^ 64 - b)) % 2 ^ 64 ≡ minus a b
unfolding minus neg
minus_is a b h = omega arith

pub row_less_lem : (theirs own : List ℕ) (k a b : ℕ) → a ≡ get_or (words_of theirs) k 0 → b ≡ get_or (words_of own) k 0 → b < 2 ^ 64
    → (a + (2 ^ 64 - b)) % 2 ^ 64 ≡ row_less theirs own k
row_less_lem theirs own k a b e f h = minus_is a b h ∙ (ap (λ (n : ℕ). minus n b) e ∙ ap (minus (get_or (words_of theirs) k 0)) f)

along_last : (k i : ℕ) (f : ℕ → ℕ) → along (suc k) i f ≡ along k i f ++ (f (i + k) ∷ [])
unfolding along
along_last zero i f = ap (λ (n : ℕ). f n ∷ []) (omega arith)
along_last (suc k) i f =
    ap (λ (l : List ℕ). f i ∷ l) (along_last k (suc i) f ∙ ap (λ (n : ℕ). along k (suc i) f ++ (f n ∷ [])) {x = suc i + k} {y = i + suc k} (omega arith))

pub none_yet : (f : ℕ → ℕ) (t : List ℕ) → t ≡ row_bytes (along 0 0 f) ++ drop (0 * 8) t
unfolding row_bytes along
none_yet f t = refl

pub one_more : (f : ℕ → ℕ) (t₀ t t₁ : List ℕ) (k x : ℕ) → k < length t₀ / 8 → length t ≡ length t₀ → x ≡ f k
    → t ≡ row_bytes (along k 0 f) ++ drop (k * 8) t₀ → Stored t t₁ k x → t₁ ≡ row_bytes (along (k + 1) 0 f) ++ drop ((k + 1) * 8) t₀
unfolding store_of row_bytes
one_more f t₀ t t₁ k x h long is e s =
    let p = row_bytes (along k 0 f) in
    let size : length p ≡ k * 8 = length_rows (along k 0 f) ∙ ap (λ (n : ℕ). n * 8) (length-along k 0 f) in
    let front : take (k * 8) t ≡ p = ap (take (k * 8)) e ∙ take_at p (drop (k * 8) t₀) (k * 8) size in
    let back : drop (k * 8 + 8) t ≡ drop (k * 8 + 8) t₀ =
    ap (λ (n : ℕ). drop (n + 8) t) (sym size)
    ∙ (ap (drop (length p + 8)) e ∙ (drop-append-add p (drop (k * 8) t₀) 8 ∙ drop-drop 8 (k * 8) t₀)) in
    let row : row_bytes (along (k + 1) 0 f) ≡ p ++ bytes_of x =
    ap (λ (n : ℕ). row_bytes (along n 0 f)) (add-one k)
    ∙ (ap row_bytes (along_last k 0 f)
    ∙ (rows_append (along k 0 f) (f (0 + k) ∷ [])
    ∙ ap (λ (l : List ℕ). p ++ l) (append-nil (bytes_of (f (0 + k))) ∙ ap bytes_of (ap f {x = 0 + k} {y = k} (omega arith) ∙ sym is)))) in
    let next : drop ((k + 1) * 8) t₀ ≡ drop (k * 8 + 8) t₀ = ap (λ (n : ℕ). drop n t₀) {x = (k + 1) * 8} {y = k * 8 + 8} (omega arith) in
    s.bytes
    ∙ rw (le-leb (k * 8 + 8) (length t) (omega (arith, long)), front, back, row, next) (sym (append_assoc p (bytes_of x) (drop (k * 8 + 8) t₀)))

pub all_rows : (theirs own t₀ t : List ℕ) (k : ℕ) → k ≡ length t₀ / 8 → t ≡ row_bytes (along k 0 (row_less theirs own)) ++ drop (k * 8) t₀ → t ≡ subtracted theirs own t₀
unfolding subtracted
all_rows theirs own t₀ t k h e = e ∙ ap (λ (n : ℕ). row_bytes (along n 0 (row_less theirs own)) ++ drop (n * 8) t₀) h

-- Of two tables of sums, in a table as long: the bytes of their difference.
pub subtract_sums : (n : ℕ) (ps qs : List Part) (t : List ℕ) → length t ≡ n * 8
    → subtracted (row_bytes (sums n ps)) (row_bytes (sums n qs)) t ≡ row_bytes (difference_of (sums n ps) (sums n qs))
unfolding subtracted difference_of
subtract_sums n ps qs t h =
    let rows : length t / 8 ≡ n = omega (arith, h) in
    let rest : drop (n * 8) t ≡ [] = drop_of_length-le t {i = n * 8} (omega (arith, h)) in
    rw (rows, rest) (
    append-nil (row_bytes (along n 0 (row_less (row_bytes (sums n ps)) (row_bytes (sums n qs)))))
    ∙ ap row_bytes (
    along_same n 0 (row_less (row_bytes (sums n ps)) (row_bytes (sums n qs))) (λ (k : ℕ). minus (get_or (sums n ps) k 0) (get_or (sums n qs) k 0)) row
    ∙ ap (λ (m : ℕ). along m 0 (λ (k : ℕ). minus (get_or (sums n ps) k 0) (get_or (sums n qs) k 0))) (sym (length-sums n ps))))
  where
    row : (k : ℕ) → row_less (row_bytes (sums n ps)) (row_bytes (sums n qs)) k ≡ minus (get_or (sums n ps) k 0) (get_or (sums n qs) k 0)
    row k =
        ap (λ (l : List ℕ). minus (get_or l k 0) (get_or (words_of (row_bytes (sums n qs))) k 0)) (words_sums n ps)
        ∙ ap (λ (l : List ℕ). minus (get_or (sums n ps) k 0) (get_or l k 0)) (words_sums n qs)
