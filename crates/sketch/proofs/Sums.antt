-- Laws of tables of sums: the order of summands does not matter, adding to a row is one more summand, and such a table in bytes.
-- Two tables are compared row by row.
use Rattle.std.proofs.Common.{◌≡◌, ℕ, zero, suc, ◌+◌, ◌*◌, ◌/◌, ◌%◌, ◌^◌, ◌<◌, ◌≢◌, List, [], ◌∷◌, ◌++◌, length, get_or, take, drop, set, sym, refl, ap, ◌∙◌, append_assoc, append-nil, mod-lt, arith, length-append, length-set, length-take-le, get_or-set_other, get_or-set_same, take_at, ext_get_or, drop_at, eq-eqb, ne_eqb, le-leb}
use native.Mathlib.Decide.{ℕ_discrete, dec_lt}
use native.Mathlib.Nat.{mod-add-mod, add-mod-mod}
use borrow.Author.Tests.{lt-leb}
use lib.Seq.{set_out, set_split, split_at}
use Rattle.rows.specs.Rows.{words_of, bytes_of, store_of, Stored}
use Rattle.rows.proofs.Rows.{length_words, words_append, words_cons, no_row}
use Rattle.sketch.specs.Sums.{Part, part, sum_at, along, sums, plus, row_bytes, Added}

-- f of numbers in a row.
pub length-along : (n i : ℕ) (f : ℕ → ℕ) → length (along n i f) ≡ n
unfolding along
length-along zero i f = refl
length-along (suc n) i f = ap suc (length-along n (suc i) f)

pub get_d_along : (n i j : ℕ) (f : ℕ → ℕ) → j < n → get_or (along n i f) j 0 ≡ f (i + j)
unfolding along
get_d_along zero i j f h = absurd (omega arith)
get_d_along (suc n) i zero f h = ap f (omega arith)
get_d_along (suc n) i (suc j) f h = get_d_along n (suc i) j f (omega arith) ∙ ap f (omega arith)

pub along_same : (n i : ℕ) (f g : ℕ → ℕ) → ((k : ℕ) → f k ≡ g k) → along n i f ≡ along n i g
unfolding along
along_same zero i f g e = refl
along_same (suc n) i f g e = λ t. e i t ∷ along_same n (suc i) f g e t

-- Summands.
pub sum_append : (k : ℕ) (a b : List Part) → sum_at k (a ++ b) ≡ sum_at k a + sum_at k b
unfolding sum_at
sum_append k [] b = omega arith
sum_append k (p ∷ a) b = let ih = sum_append k a b in omega arith

sum_here : (k x : ℕ) → sum_at k (part k x ∷ []) ≡ x
unfolding sum_at
sum_here k x = rw (eq-eqb k k refl) (omega arith)

sum_other : (j k x : ℕ) → j ≢ k → sum_at j (part k x ∷ []) ≡ 0
unfolding sum_at
sum_other j k x h = rw (ne_eqb k j (λ e. h (sym e)))

-- Tables with the same sums in each row are equal, whatever the order of their summands.
pub same_sums : (n : ℕ) (a b : List Part) → ((k : ℕ) → sum_at k a % 2 ^ 64 ≡ sum_at k b % 2 ^ 64) → sums n a ≡ sums n b
unfolding sums
same_sums n a b e = along_same n 0 _ _ e

pub length-sums : (n : ℕ) (ps : List Part) → length (sums n ps) ≡ n
unfolding sums
length-sums n ps = length-along n 0 _

pub sum_row : (n k : ℕ) (ps : List Part) → k < n → get_or (sums n ps) k 0 ≡ sum_at k ps % 2 ^ 64
unfolding sums
sum_row n k ps h = get_d_along n 0 k (λ (i : ℕ). sum_at i ps % 2 ^ 64) h ∙ ap (λ (i : ℕ). sum_at i ps % 2 ^ 64) {x = 0 + k} {y = k} (omega arith)

-- Rows with summands added.
pub length-plus : (rows : List ℕ) (ps : List Part) → length (plus rows ps) ≡ length rows
unfolding plus
length-plus rows ps = length-along (length rows) 0 _

pub plus_row : (rows : List ℕ) (ps : List Part) (k : ℕ) → k < length rows → get_or (plus rows ps) k 0 ≡ (get_or rows k 0 + sum_at k ps) % 2 ^ 64
unfolding plus
plus_row rows ps k h =
    get_d_along (length rows) 0 k (λ (j : ℕ). (get_or rows j 0 + sum_at j ps) % 2 ^ 64) h
    ∙ ap (λ (j : ℕ). (get_or rows j 0 + sum_at j ps) % 2 ^ 64) {x = 0 + k} {y = k} (omega arith)

-- Summands and then more summands.
plus-plus : (rows : List ℕ) (ps qs : List Part) → plus (plus rows ps) qs ≡ plus rows (ps ++ qs)
plus-plus rows ps qs =
    ext_get_or 0 _ _ (length-plus (plus rows ps) qs ∙ (length-plus rows ps ∙ sym (length-plus rows (ps ++ qs))))
    (λ k h. row k (omega (arith, length-plus (plus rows ps) qs, length-plus rows ps)))
  where
    row : (k : ℕ) → k < length rows → get_or (plus (plus rows ps) qs) k 0 ≡ get_or (plus rows (ps ++ qs)) k 0
    row k h =
        plus_row (plus rows ps) qs k (omega (arith, length-plus rows ps))
        ∙ (ap (λ (n : ℕ). (n + sum_at k qs) % 2 ^ 64) (plus_row rows ps k h)
        ∙ (mod-add-mod (get_or rows k 0 + sum_at k ps) (2 ^ 64) (sum_at k qs)
        ∙ (ap (λ (n : ℕ). n % 2 ^ 64) {x = get_or rows k 0 + sum_at k ps + sum_at k qs} {y = get_or rows k 0 + sum_at k (ps ++ qs)}
        (omega (arith, sum_append k ps qs))
        ∙ sym (plus_row rows (ps ++ qs) k h))))

plus_same : (rows : List ℕ) (ps qs : List Part) → ((k : ℕ) → sum_at k ps % 2 ^ 64 ≡ sum_at k qs % 2 ^ 64) → plus rows ps ≡ plus rows qs
unfolding plus
plus_same rows ps qs e =
    along_same (length rows) 0 _ _
    (λ k. sym (add-mod-mod (get_or rows k 0) (sum_at k ps) (2 ^ 64))
    ∙ (ap (λ (n : ℕ). (get_or rows k 0 + n) % 2 ^ 64) (e k) ∙ add-mod-mod (get_or rows k 0) (sum_at k qs) (2 ^ 64)))

-- Rows as bytes.
pub rows_append : (a b : List ℕ) → row_bytes (a ++ b) ≡ row_bytes a ++ row_bytes b
unfolding row_bytes
rows_append [] b = refl
rows_append (x ∷ a) b = ap (λ (l : List ℕ). bytes_of x ++ l) (rows_append a b) ∙ sym (append_assoc (bytes_of x) (row_bytes a) (row_bytes b))

length_bytes : (x : ℕ) → length (bytes_of x) ≡ 8
unfolding bytes_of
length_bytes x = refl

pub length_rows : (a : List ℕ) → length (row_bytes a) ≡ length a * 8
unfolding row_bytes
length_rows [] = refl
length_rows (x ∷ a) = length-append (bytes_of x) (row_bytes a) ∙ omega (arith, length_bytes x, length_rows a)

-- Only a number modulo 2^64 shows in its bytes.
bytes_low : (x : ℕ) → bytes_of (x % 18446744073709551616) ≡ bytes_of x
unfolding bytes_of
bytes_low x =
    let a : x % 18446744073709551616 / 256 / 256 / 256 / 256 / 256 / 256 / 256 % 256 ≡ x / 256 / 256 / 256 / 256 / 256 / 256 / 256 % 256 = omega arith in
    let b : x % 18446744073709551616 / 256 / 256 / 256 / 256 / 256 / 256 % 256 ≡ x / 256 / 256 / 256 / 256 / 256 / 256 % 256 = omega arith in
    let c : x % 18446744073709551616 / 256 / 256 / 256 / 256 / 256 % 256 ≡ x / 256 / 256 / 256 / 256 / 256 % 256 = omega arith in
    let d : x % 18446744073709551616 / 256 / 256 / 256 / 256 % 256 ≡ x / 256 / 256 / 256 / 256 % 256 = omega arith in
    let e : x % 18446744073709551616 / 256 / 256 / 256 % 256 ≡ x / 256 / 256 / 256 % 256 = omega arith in
    let f : x % 18446744073709551616 / 256 / 256 % 256 ≡ x / 256 / 256 % 256 = omega arith in
    let g : x % 18446744073709551616 / 256 % 256 ≡ x / 256 % 256 = omega arith in
    let h : x % 18446744073709551616 % 256 ≡ x % 256 = omega arith in
    λ i. a i ∷ b i ∷ c i ∷ d i ∷ e i ∷ f i ∷ g i ∷ h i ∷ []

no_words : (rest : List ℕ) → length rest < 8 → words_of rest ≡ []
no_words rest h = length_none (words_of rest) (omega (arith, length_words rest))
  where
    length_none : (l : List ℕ) → length l ≡ 0 → l ≡ []
    length_none [] e = refl
    length_none (x ∷ l) e = absurd (omega arith)

pub words_along : (n i : ℕ) (f : ℕ → ℕ) → words_of (row_bytes (along n i (λ (k : ℕ). f k % 2 ^ 64))) ≡ along n i (λ (k : ℕ). f k % 2 ^ 64)
unfolding row_bytes along words_of
words_along zero i f = refl
words_along (suc n) i f = words_cons (f i % 2 ^ 64) _ (mod-lt (f i) (omega arith)) ∙ ap (λ (l : List ℕ). f i % 2 ^ 64 ∷ l) (words_along n (suc i) f)

pub words_sums : (n : ℕ) (ps : List Part) → words_of (row_bytes (sums n ps)) ≡ sums n ps
unfolding sums
words_sums n ps = words_along n 0 (λ (k : ℕ). sum_at k ps)

-- The rows of a table, and fewer than eight bytes after them.
pub words_plus : (rows : List ℕ) (ps : List Part) (rest : List ℕ) → length rest < 8 → words_of (row_bytes (plus rows ps) ++ rest) ≡ plus rows ps
unfolding plus
words_plus rows ps rest h =
    words_append (row_bytes (plus rows ps)) rest (omega (arith, length_rows (plus rows ps)))
    ∙ (ap (λ (l : List ℕ). words_of (row_bytes (plus rows ps)) ++ l) (no_words rest h)
    ∙ (append-nil (words_of (row_bytes (plus rows ps))) ∙ words_along (length rows) 0 (λ (k : ℕ). get_or rows k 0 + sum_at k ps)))

read_row : (rows rest : List ℕ) (k : ℕ) → length rest < 8 → get_or (words_of (row_bytes rows ++ rest)) k 0 ≡ get_or rows k 0 % 2 ^ 64
unfolding row_bytes
read_row [] rest k h = sym (no_row rest k (omega arith))
read_row (x ∷ rows) rest k h =
    ap (λ (l : List ℕ). get_or (words_of l) k 0) (
    append_assoc (bytes_of x) (row_bytes rows) rest ∙ ap (λ (l : List ℕ). l ++ (row_bytes rows ++ rest)) (sym (bytes_low x)))
    ∙ (ap (λ (l : List ℕ). get_or l k 0) (words_cons (x % 2 ^ 64) (row_bytes rows ++ rest) (mod-lt x (omega arith))) ∙ go k (λ j. read_row rows rest j h))
  where
    go : (k : ℕ) → ((j : ℕ) → get_or (words_of (row_bytes rows ++ rest)) j 0 ≡ get_or rows j 0 % 2 ^ 64)
        → get_or (x % 2 ^ 64 ∷ words_of (row_bytes rows ++ rest)) k 0 ≡ get_or (x ∷ rows) k 0 % 2 ^ 64
    go zero ih = refl
    go (suc k) ih = ih k

along_bytes : (rows : List ℕ) (i : ℕ) (f : ℕ → ℕ) → ((k : ℕ) → k < length rows → bytes_of (f (i + k)) ≡ bytes_of (get_or rows k 0))
    → row_bytes (along (length rows) i f) ≡ row_bytes rows
unfolding row_bytes along
along_bytes [] i f e = refl
along_bytes (x ∷ rows) i f e =
    let first : bytes_of (f i) ≡ bytes_of x = ap (λ (n : ℕ). bytes_of (f n)) {x = i} {y = i + 0} (omega arith) ∙ e 0 (omega arith) in
    let others = along_bytes rows (suc i) f
    (λ k h. ap (λ (n : ℕ). bytes_of (f n)) {x = suc i + k} {y = i + suc k} (omega arith) ∙ e (suc k) (omega arith)) in
    λ t. first t ++ others t

plus_bytes : (rows old : List ℕ) (ps : List Part) → length rows ≡ length old
    → ((k : ℕ) → k < length rows → bytes_of (get_or old k 0 + sum_at k ps) ≡ bytes_of (get_or rows k 0)) → row_bytes (plus old ps) ≡ row_bytes rows
unfolding plus
plus_bytes rows old ps long e =
    ap (λ (n : ℕ). row_bytes (along n 0 (λ (k : ℕ). (get_or old k 0 + sum_at k ps) % 2 ^ 64))) (sym long)
    ∙ along_bytes rows 0 (λ (k : ℕ). (get_or old k 0 + sum_at k ps) % 2 ^ 64)
    (λ k h. bytes_low (get_or old (0 + k) 0 + sum_at (0 + k) ps)
    ∙ (ap (λ (n : ℕ). bytes_of (get_or old n 0 + sum_at n ps)) {x = 0 + k} {y = k} (omega arith) ∙ e k h))

store_in : (ws rest : List ℕ) (k x : ℕ) → k < length ws
    → take (k * 8) (row_bytes ws ++ rest) ++ (bytes_of x ++ drop (k * 8 + 8) (row_bytes ws ++ rest)) ≡ row_bytes (set ws k x) ++ rest
unfolding row_bytes
store_in ws rest k x h =
    let p = row_bytes (take k ws) in
    let y = get_or ws k 0 in
    let r = row_bytes (drop (suc k) ws) in
    let long : length p ≡ k * 8 = length_rows (take k ws) ∙ ap (λ (n : ℕ). n * 8) (length-take-le k ws (omega arith)) in
    let whole : row_bytes ws ++ rest ≡ p ++ (bytes_of y ++ (r ++ rest)) =
    ap (λ (l : List ℕ). l ++ rest) (ap row_bytes (split_at ws k 0 h) ∙ rows_append (take k ws) (y ∷ drop (suc k) ws))
    ∙ (append_assoc p (bytes_of y ++ r) rest ∙ ap (λ (l : List ℕ). p ++ l) (append_assoc (bytes_of y) r rest)) in
    let front : take (k * 8) (row_bytes ws ++ rest) ≡ p = ap (take (k * 8)) whole ∙ take_at p (bytes_of y ++ (r ++ rest)) (k * 8) long in
    let back : drop (k * 8 + 8) (row_bytes ws ++ rest) ≡ r ++ rest =
    ap (drop (k * 8 + 8)) (whole ∙ sym (append_assoc p (bytes_of y) (r ++ rest)))
    ∙ drop_at (p ++ bytes_of y) (r ++ rest) (k * 8 + 8) (length-append p (bytes_of y) ∙ omega (arith, long, length_bytes y)) in
    let left : row_bytes (set ws k x) ++ rest ≡ p ++ (bytes_of x ++ (r ++ rest)) =
    ap (λ (l : List ℕ). l ++ rest) (ap row_bytes (set_split ws k x h) ∙ rows_append (take k ws) (x ∷ drop (suc k) ws))
    ∙ (append_assoc p (bytes_of x ++ r) rest ∙ ap (λ (l : List ℕ). p ++ l) (append_assoc (bytes_of x) r rest)) in
    rw (front, back) (sym left)

store_rows : (ws rest : List ℕ) (k x : ℕ) → length rest < 8 → store_of (row_bytes ws ++ rest) k x ≡ row_bytes (set ws k x) ++ rest
unfolding store_of
store_rows ws rest k x s =
    let size : length (row_bytes ws ++ rest) ≡ length ws * 8 + length rest =
    length-append (row_bytes ws) rest ∙ ap (λ (n : ℕ). n + length rest) (length_rows ws) in
    elim (dec_lt k (length ws)) [
      | yes h ↦ rw (le-leb (k * 8 + 8) (length (row_bytes ws ++ rest)) (omega (arith, size))) (store_in ws rest k x h)
      | no h ↦ rw (lt-leb (k * 8 + 8) (length (row_bytes ws ++ rest)) (omega (arith, size)))
          (ap (λ (l : List ℕ). row_bytes l ++ rest) (sym (set_out ws k x (omega arith))))
    ]

-- Setting a row to its sum is adding to it.
set-plus : (rows : List ℕ) (k x : ℕ) → row_bytes (set rows k ((get_or rows k 0 % 2 ^ 64 + x) % 2 ^ 64)) ≡ row_bytes (plus rows (part k x ∷ []))
set-plus rows k x =
    sym (plus_bytes (set rows k new) rows (part k x ∷ []) (length-set rows k new) (λ j h. row j (omega (arith, length-set rows k new))))
  where
    new : ℕ
    new = (get_or rows k 0 % 2 ^ 64 + x) % 2 ^ 64

    row : (j : ℕ) → j < length rows
        → bytes_of (get_or rows j 0 + sum_at j (part k x ∷ [])) ≡ bytes_of (get_or (set rows k ((get_or rows k 0 % 2 ^ 64 + x) % 2 ^ 64)) j 0)
    row j h =
        elim (ℕ_discrete j k) [
          | yes e ↦ rw e (
              ap (λ (n : ℕ). bytes_of (get_or rows k 0 + n)) (sum_here k x)
              ∙ (sym (bytes_low (get_or rows k 0 + x))
              ∙ (ap bytes_of (sym (mod-add-mod (get_or rows k 0) (2 ^ 64) x)) ∙ ap bytes_of (sym (get_or-set_same rows k _ 0 (omega (arith, e)))))))
          | no e ↦
              ap (λ (n : ℕ). bytes_of (get_or rows j 0 + n)) (sum_other j k x e)
              ∙ (ap bytes_of {x = get_or rows j 0 + 0} {y = get_or rows j 0} (omega arith) ∙ ap bytes_of (sym (get_or-set_other rows k j _ 0 e)))
        ]

-- A row read, added to, and stored.
pub added_row : (before after : List ℕ) (k x old new : ℕ) → old ≡ get_or (words_of before) k 0 → new ≡ (old + x) % 2 ^ 64 → Stored before after k new
    → Added before after (part k x ∷ [])
added_row before after k x old new e f s =
    record {
      more = λ rows rest few h.
          let is : old ≡ get_or rows k 0 % 2 ^ 64 = e ∙ ap (λ (l : List ℕ). get_or (words_of l) k 0) h ∙ read_row rows rest k few in
          s.bytes ∙ (ap (λ (l : List ℕ). store_of l k new) h
          ∙ (store_rows rows rest k new few
          ∙ ap (λ (l : List ℕ). l ++ rest) (ap (λ (y : ℕ). row_bytes (set rows k y)) (f ∙ ap (λ (y : ℕ). (y + x) % 2 ^ 64) is) ∙ set-plus rows k x)));
    }

-- Nothing added, and one lot of summands after another.
pub added_none : (t : List ℕ) → Added t t []
unfolding sum_at
added_none t =
    record {
      more = λ rows rest few h.
          h ∙ ap (λ (l : List ℕ). l ++ rest)
          (sym (plus_bytes rows rows [] refl (λ k i. ap bytes_of {x = get_or rows k 0 + 0} {y = get_or rows k 0} (omega arith))));
    }

pub added_then : {a b c : List ℕ} {ps qs : List Part} → Added a b ps → Added b c qs → Added a c (ps ++ qs)
added_then {ps = ps} {qs = qs} f g =
    record {
      more = λ rows rest few h. g.more (plus rows ps) rest few (f.more rows rest few h)
          ∙ ap (λ (l : List ℕ). row_bytes l ++ rest) (plus-plus rows ps qs);
    }

-- Summands that give the same sums.
pub added_same : {a b : List ℕ} (ps qs : List Part) → ((k : ℕ) → sum_at k ps % 2 ^ 64 ≡ sum_at k qs % 2 ^ 64) → Added a b ps → Added a b qs
added_same ps qs e f = record { more = λ rows rest few h. f.more rows rest few h ∙ ap (λ (l : List ℕ). row_bytes l ++ rest) (plus_same rows ps qs e) }
