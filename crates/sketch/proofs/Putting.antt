-- A shingle put into a cell table with a sign: lent bytes are their rows and fewer than eight bytes after them, and only the rows
-- change.
use Rattle.std.proofs.Common.{false, ◌&&◌, nat_le, ◌≡◌, ℕ, suc, ◌+◌, ◌*◌, ◌/◌, ◌%◌, ◌<◌, ◌≤◌, List, [], ◌∷◌, ◌++◌, length, get_or, drop, sym, refl, ap, ◌∙◌, arith, length-drop, le-leb}
use Rattle.rows.specs.Rows.{word_of, words_of, bytes_of}
use Rattle.sketch.specs.Sums.{plus, row_bytes, Added}
use Rattle.sketch.specs.Opening.{Signed, signed_parts}
use Rattle.sketch.specs.Putting.{put_in}
use Rattle.sketch.proofs.Sums.{words_plus}

quotient : (x b : ℕ) → b < 256 → (x * 256 + b) / 256 ≡ x
quotient x b h = omega arith

remainder : (x b : ℕ) → b < 256 → (x * 256 + b) % 256 ≡ b
remainder x b h = omega arith

small : (a : ℕ) → a < 256 → a % 256 ≡ a
small a h = omega arith

bytes_word : (a b c d e f g h : ℕ) → a < 256 → b < 256 → c < 256 → d < 256 → e < 256 → f < 256 → g < 256 → h < 256
    → bytes_of (word_of a b c d e f g h) ≡ a ∷ b ∷ c ∷ d ∷ e ∷ f ∷ g ∷ h ∷ []
unfolding bytes_of
bytes_word a b c d e f g h ha hb hc hd he hf hg hh =
    rw (
      quotient _ h hh,
      quotient _ g hg,
      quotient _ f hf,
      quotient _ e he,
      quotient _ d hd,
      quotient _ c hc,
      quotient _ b hb,
      remainder _ h hh,
      remainder _ g hg,
      remainder _ f hf,
      remainder _ e he,
      remainder _ d hd,
      remainder _ c hc,
      remainder _ b hb,
      small a ha,
    )

whole_rows : (n : ℕ) → suc (suc (suc (suc (suc (suc (suc (suc n))))))) / 8 * 8 ≡ suc (suc (suc (suc (suc (suc (suc (suc (n / 8 * 8))))))))
whole_rows n = omega arith

-- Bytes are those of their rows and the rest.
pub rows_back : (t : List ℕ) → ((i : ℕ) → get_or t i 0 < 256) → t ≡ row_bytes (words_of t) ++ drop (length t / 8 * 8) t
unfolding words_of row_bytes
rows_back [] s = refl
rows_back (a ∷ []) s = refl
rows_back (a ∷ b ∷ []) s = refl
rows_back (a ∷ b ∷ c ∷ []) s = refl
rows_back (a ∷ b ∷ c ∷ d ∷ []) s = refl
rows_back (a ∷ b ∷ c ∷ d ∷ e ∷ []) s = refl
rows_back (a ∷ b ∷ c ∷ d ∷ e ∷ f ∷ []) s = refl
rows_back (a ∷ b ∷ c ∷ d ∷ e ∷ f ∷ g ∷ []) s = refl
rows_back (a ∷ b ∷ c ∷ d ∷ e ∷ f ∷ g ∷ h ∷ rest) s =
    let t = a ∷ b ∷ c ∷ d ∷ e ∷ f ∷ g ∷ h ∷ rest in
    let ih = rows_back rest (λ i. s (suc (suc (suc (suc (suc (suc (suc (suc i))))))))) in
    let first = bytes_word a b c d e f g h (s 0) (s 1) (s 2) (s 3) (s 4) (s 5) (s 6) (s 7) in
    ap (λ (l : List ℕ). a ∷ b ∷ c ∷ d ∷ e ∷ f ∷ g ∷ h ∷ l) ih
    ∙ (ap (λ (l : List ℕ). (l ++ row_bytes (words_of rest)) ++ drop (length rest / 8 * 8) rest) (sym first)
    ∙ ap (λ (n : ℕ). (bytes_of (word_of a b c d e f g h) ++ row_bytes (words_of rest)) ++ drop n t) (sym (whole_rows (length rest))))

rest_few : (t : List ℕ) → length (drop (length t / 8 * 8) t) < 8
rest_few t = omega (arith, length-drop (length t / 8 * 8) t)

pub no_put : (q : ℕ) (z : Signed) (t : List ℕ) → (nat_le 1 q && nat_le q 64) ≡ false → t ≡ put_in q z t
unfolding put_in
no_put q z t h = rw h

pub put_added : (q : ℕ) (z : Signed) (t t' : List ℕ) → 1 ≤ q → q ≤ 64 → ((i : ℕ) → get_or t i 0 < 256) → Added t t' (signed_parts q z) → t' ≡ put_in q z t
unfolding put_in
put_added q z t t' low high s f =
    rw (le-leb 1 q low, le-leb q 64 high) (f.more (words_of t) (drop (length t / 8 * 8) t) (rest_few t) (rows_back t s))

-- The rows that are left.
pub put_rows : (q : ℕ) (z : Signed) (t t' : List ℕ) → 1 ≤ q → q ≤ 64 → t' ≡ put_in q z t → words_of t' ≡ plus (words_of t) (signed_parts q z)
unfolding put_in
put_rows q z t t' low high e =
    ap words_of (e ∙ rw (le-leb 1 q low, le-leb q 64 high)) ∙ words_plus (words_of t) (signed_parts q z) (drop (length t / 8 * 8) t) (rest_few t)
