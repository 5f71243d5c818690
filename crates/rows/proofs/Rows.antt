-- Laws of rows: how many there are, joining tables, reading and writing a row, clearing.
-- A table is split once at the row, after which each law is one of the list's own.
use Rattle.std.proofs.Common.{List, [], ◌∷◌, ◌++◌, ◌≡◌, refl, sym, ap, ◌∙◌, ℕ, zero, suc, ◌+◌, ◌*◌, ◌-◌, ◌/◌, ◌%◌, ◌^◌, ◌≤◌, ◌<◌, arith, length, get_or, set, take, drop, length-drop, drop-cons}
use Rattle.std.proofs.Math.Nat.{div-div-eq-div-mul}
use Rattle.std.proofs.Math.ListN.{replicate}
use Rattle.std.proofs.lemmas.List.{drop-drop, length-take-le, take_all}
use native.Mathlib.Numerals.{towards_suc}
use borrow.Author.Tests.{eqb-false, le-leb, lt-leb}
use borrow.Rule.Slice.PartMut.{put_mid}
use mathlib.Core.List.{append-nil}
use lib.ListN.{take-append-drop, drop_of_length-le, get_or-eq_default}
use lib.Seq.{get_or_at, set_at, set_out}
use Rattle.rows.specs.Rows.{word_of, words_of, bytes_of, store_of, Stored, clear_from}

pub length_words : (t : List ℕ) → length (words_of t) ≡ length t / 8
unfolding words_of
length_words [] = refl
length_words (a ∷ []) = refl
length_words (a ∷ b ∷ []) = refl
length_words (a ∷ b ∷ c ∷ []) = refl
length_words (a ∷ b ∷ c ∷ d ∷ []) = refl
length_words (a ∷ b ∷ c ∷ d ∷ e ∷ []) = refl
length_words (a ∷ b ∷ c ∷ d ∷ e ∷ f ∷ []) = refl
length_words (a ∷ b ∷ c ∷ d ∷ e ∷ f ∷ g ∷ []) = refl
length_words (a ∷ b ∷ c ∷ d ∷ e ∷ f ∷ g ∷ h ∷ rest) = let n = length_words rest in omega arith

-- A table of whole rows, followed by another: the rows follow each other.
pub words_append : (p q : List ℕ) → length p % 8 ≡ 0 → words_of (p ++ q) ≡ words_of p ++ words_of q
unfolding words_of
words_append [] q z = refl
words_append (a ∷ []) q z = absurd (eqb-false 1 0 refl z)
words_append (a ∷ b ∷ []) q z = absurd (eqb-false 2 0 refl z)
words_append (a ∷ b ∷ c ∷ []) q z = absurd (eqb-false 3 0 refl z)
words_append (a ∷ b ∷ c ∷ d ∷ []) q z = absurd (eqb-false 4 0 refl z)
words_append (a ∷ b ∷ c ∷ d ∷ e ∷ []) q z = absurd (eqb-false 5 0 refl z)
words_append (a ∷ b ∷ c ∷ d ∷ e ∷ f ∷ []) q z = absurd (eqb-false 6 0 refl z)
words_append (a ∷ b ∷ c ∷ d ∷ e ∷ f ∷ g ∷ []) q z = absurd (eqb-false 7 0 refl z)
words_append (a ∷ b ∷ c ∷ d ∷ e ∷ f ∷ g ∷ h ∷ rest) q z = ap (λ (ws : List ℕ). word_of a b c d e f g h ∷ ws) (words_append rest q (omega arith))

-- The number in the eight bytes from place i on.
abbrev row_at : List ℕ → ℕ → ℕ
row_at t i =
    word_of (get_or t i 0) (get_or t (i + 1) 0) (get_or t (i + 2) 0) (get_or t (i + 3) 0)
    (get_or t (i + 4) 0) (get_or t (i + 5) 0) (get_or t (i + 6) 0) (get_or t (i + 7) 0)

eight_bytes : (t : List ℕ) (i : ℕ) → i + 8 ≤ length t
    → drop i t
    ≡ get_or t i 0 ∷ get_or t (i + 1) 0 ∷ get_or t (i + 2) 0 ∷ get_or t (i + 3) 0
    ∷ get_or t (i + 4) 0 ∷ get_or t (i + 5) 0 ∷ get_or t (i + 6) 0 ∷ get_or t (i + 7) 0 ∷ drop (i + 8) t
eight_bytes t i h =
    simp towards_suc
    (rw (
      drop-cons t i 0 (omega arith),
      drop-cons t (suc i) 0 (omega arith),
      drop-cons t (suc (suc i)) 0 (omega arith),
      drop-cons t (suc (suc (suc i))) 0 (omega arith),
      drop-cons t (suc (suc (suc (suc i)))) 0 (omega arith),
      drop-cons t (suc (suc (suc (suc (suc i))))) 0 (omega arith),
      drop-cons t (suc (suc (suc (suc (suc (suc i)))))) 0 (omega arith),
      drop-cons t (suc (suc (suc (suc (suc (suc (suc i))))))) 0 (omega arith),
    ))

first_row : (t : List ℕ) (i : ℕ) → i + 8 ≤ length t → words_of (drop i t) ≡ row_at t i ∷ words_of (drop (i + 8) t)
unfolding words_of
first_row t i h = ap words_of (eight_bytes t i h)

-- A table that has a row k: the rows before it, the row, the rows after it.
module _ (t : List ℕ) (k : ℕ) (h : k * 8 + 8 ≤ length t) where
  rows_before : length (words_of (take (k * 8) t)) ≡ k
  rows_before = simp (length_words, length-take-le (k * 8) t (omega arith)) (omega arith)

  before_row : (q : List ℕ) → words_of (take (k * 8) t ++ q) ≡ words_of (take (k * 8) t) ++ words_of q
  before_row q = words_append (take (k * 8) t) q (simp (length-take-le (k * 8) t (omega arith)) (omega arith))

  split_words : words_of t ≡ words_of (take (k * 8) t) ++ row_at t (k * 8) ∷ words_of (drop (k * 8 + 8) t)
  split_words = ap words_of (sym (take-append-drop (k * 8) t)) ∙ before_row (drop (k * 8) t) ∙ rw (first_row t (k * 8) h)

  pub load_row : get_or (words_of t) k 0 ≡ row_at t (k * 8)
  load_row = ap (λ (ws : List ℕ). get_or ws k 0) split_words ∙ get_or_at (words_of (take (k * 8) t)) _ (words_of (drop (k * 8 + 8) t)) 0 k rows_before

  store_row : (x : ℕ) → x < 2 ^ 64 → words_of (take (k * 8) t ++ (bytes_of x ++ drop (k * 8 + 8) t)) ≡ set (words_of t) k x
  unfolding words_of bytes_of
  store_row x b =
      let p = words_of (take (k * 8) t) in
      let q = words_of (drop (k * 8 + 8) t) in
      before_row _ ∙ (ap (λ (n : ℕ). p ++ n ∷ q) {y = x} (omega arith)
      ∙ sym (ap (λ (ws : List ℕ). set ws k x) split_words ∙ set_at p _ q x k rows_before))

  -- What is read from the eight bytes at the row's place.
  pub read_row : (row : List ℕ) → row ≡ take 8 (drop (k * 8) t)
      → get_or row 0 0 * 72057594037927936 + get_or row 1 0 * 281474976710656 + get_or row 2 0 * 1099511627776 + get_or row 3 0 * 4294967296
      + get_or row 4 0 * 16777216 + get_or row 5 0 * 65536 + get_or row 6 0 * 256 + get_or row 7 0
      ≡ get_or (words_of t) k 0
  read_row row is = rw (is, eight_bytes t (k * 8) h, load_row) (omega arith)

  -- What is written over the eight bytes at the row's place.
  pub stored : (x n : ℕ) (row : List ℕ) → x < 2 ^ 64 → n ≡ 8 → row ≡ bytes_of x → Stored t (put_mid (k * 8) n t row) k x
  unfolding store_of
  stored x n row b e is =
      let written : put_mid (k * 8) n t row ≡ take (k * 8) t ++ (bytes_of x ++ drop (k * 8 + 8) t) =
      rw (is, e, drop-drop 8 (k * 8) t) in
      record { bytes = written ∙ rw (le-leb (k * 8 + 8) (length t) h); words = ap words_of written ∙ store_row x b }

-- The eight bytes of a number, by one division each.
pub bytes_by_one : (x : ℕ)
    → x / 72057594037927936 % 256 ∷ x / 281474976710656 % 256 ∷ x / 1099511627776 % 256 ∷ x / 4294967296 % 256
    ∷ x / 16777216 % 256 ∷ x / 65536 % 256 ∷ x / 256 % 256 ∷ x % 256 ∷ []
    ≡ bytes_of x
unfolding bytes_of
bytes_by_one x = simp div-div-eq-div-mul

-- A table that has no row k.
pub not_stored : (t : List ℕ) (k x : ℕ) → length t / 8 ≤ k → Stored t t k x
unfolding store_of
not_stored t k x h =
    record {
      bytes = rw (lt-leb (k * 8 + 8) (length t) (omega arith));
      words = sym (set_out (words_of t) k x (simp length_words h));
    }

pub no_row : (t : List ℕ) (k : ℕ) → length t / 8 ≤ k → 0 ≡ get_or (words_of t) k 0
no_row t k h = sym (get_or-eq_default (words_of t) 0 {n = k} (simp length_words h))

-- Zeros written over the bytes from a place on; where there are none, nothing is written.
pub cleared : (t zeros : List ℕ) (from : ℕ) → from ≤ length t → zeros ≡ replicate (length (take (length t - from) (drop from t))) 0
    → put_mid from (length t - from) t zeros ≡ clear_from t from
unfolding clear_from
cleared t zeros from h is =
    let long : length (take (length t - from) (drop from t)) ≡ length t - from = length-take-le _ _ (omega (arith, length-drop from t)) in
    let past : drop (from + (length t - from)) t ≡ [] = drop_of_length-le t (omega arith) in
    rw (is, long, drop-drop (length t - from) from t, past, append-nil)

pub none_cleared : (t : List ℕ) (from : ℕ) → length t ≤ from → t ≡ clear_from t from
unfolding clear_from
none_cleared t from h = let none : length t - from ≡ 0 = omega arith in rw (none, append-nil, take_all from t h)

-- A number in front of a table is its first row.
pub words_cons : (x : ℕ) (rest : List ℕ) → x < 2 ^ 64 → words_of (bytes_of x ++ rest) ≡ x ∷ words_of rest
unfolding words_of bytes_of
words_cons x rest h = ap (λ (n : ℕ). n ∷ words_of rest) {y = x} (omega arith)

-- Every row of a table of zeros is 0.
pub zero_rows : (n k : ℕ) → get_or (words_of (replicate n 0)) k 0 ≡ 0
unfolding words_of
zero_rows zero k = refl
zero_rows (suc zero) k = refl
zero_rows (suc (suc zero)) k = refl
zero_rows (suc (suc (suc zero))) k = refl
zero_rows (suc (suc (suc (suc zero)))) k = refl
zero_rows (suc (suc (suc (suc (suc zero))))) k = refl
zero_rows (suc (suc (suc (suc (suc (suc zero)))))) k = refl
zero_rows (suc (suc (suc (suc (suc (suc (suc zero))))))) k = refl
zero_rows (suc (suc (suc (suc (suc (suc (suc (suc n)))))))) zero = refl
zero_rows (suc (suc (suc (suc (suc (suc (suc (suc n)))))))) (suc k) = zero_rows n k
