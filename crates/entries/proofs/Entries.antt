-- Laws of tables of entries: how many there are, joining tables, reading and writing an entry, and the bytes they are made of.
-- A row number is stepped three at a time, so that each law is an induction along the rows.
use mathlib.Core.List.{List, [], ◌∷◌, ◌++◌, append_assoc}
use mathlib.Core.Path.{◌≡◌, refl, sym, ap, ◌∙◌}
use Prim.Native.Nat.{ℕ, zero, suc, ◌+◌, ◌*◌, ◌-◌, ◌/◌, ◌%◌, ◌≤◌, ◌<◌}
use native.Mathlib.Numerals.{towards_suc}
use native.Mathlib.Omega.{arith}
use native.Mathlib.Decide.{dec_le}
use borrow.Author.Tests.{eqb-false, le-leb, lt-leb}
use lib.ListN.{length, get_or, set, take, drop, length-append, length-drop, take-append-drop, get_or-eq_default}
use lib.Seq.{set_out, length-take-le, take_at, take-nil, drop-append-add, drop-drop}
use Rattle.rows.specs.Rows.{word_of, words_of, bytes_of, put, Stored}
use Rattle.rows.proofs.Rows.{length_words, words_append}
use Rattle.rows.proofs.Put.{length_bytes, length-put, store_put, put-put}
use Rattle.entries.specs.declared.Entry.{Entry}
use Rattle.entries.specs.Entries.{entry, blank, entries_of, table_of, entry_bytes, table_bytes, put_of, Put}

-- The row where entry k begins.
abbrev row : ℕ → ℕ
row zero = 0
row (suc k) = suc (suc (suc (row k)))

row_is : (k : ℕ) → row k ≡ k * 3
row_is zero = refl
row_is (suc k) = omega (arith, row_is k)

length_entries : (ws : List ℕ) → length (entries_of ws) ≡ length ws / 3
unfolding entries_of
length_entries [] = refl
length_entries (a ∷ []) = refl
length_entries (a ∷ b ∷ []) = refl
length_entries (a ∷ b ∷ c ∷ rest) = let n = length_entries rest in omega arith

pub length_table : (t : List ℕ) → length (table_of t) ≡ length t / 24
length_table t = omega (arith, length_entries (words_of t), length_words t)

-- Reading three rows is reading an entry.
row_get : (ws : List ℕ) (k : ℕ) → row k + 2 < length ws
    → entry (get_or ws (row k) 0) (get_or ws (suc (row k)) 0) (get_or ws (suc (suc (row k))) 0) ≡ get_or (entries_of ws) k blank
unfolding entries_of
row_get [] k h = absurd (omega arith)
row_get (a ∷ []) k h = absurd (omega arith)
row_get (a ∷ b ∷ []) k h = absurd (omega arith)
row_get (a ∷ b ∷ c ∷ rest) zero h = refl
row_get (a ∷ b ∷ c ∷ rest) (suc k) h = row_get rest k (omega arith)

-- Writing three rows is writing an entry.
row-set : (ws : List ℕ) (k : ℕ) (x y z : ℕ) → row k + 2 < length ws
    → entries_of (set (set (set ws (row k) x) (suc (row k)) y) (suc (suc (row k))) z) ≡ set (entries_of ws) k (entry x y z)
unfolding entries_of
row-set [] k x y z h = absurd (omega arith)
row-set (a ∷ []) k x y z h = absurd (omega arith)
row-set (a ∷ b ∷ []) k x y z h = absurd (omega arith)
row-set (a ∷ b ∷ c ∷ rest) zero x y z h = refl
row-set (a ∷ b ∷ c ∷ rest) (suc k) x y z h = ap (λ (l : List Entry). entry a b c ∷ l) (row-set rest k x y z (omega arith))

-- A table that has an entry k, read by its rows.
pub get_rows : (t : List ℕ) (k a b c : ℕ) → k < length t / 24
    → a ≡ get_or (words_of t) (k * 3) 0 → b ≡ get_or (words_of t) (k * 3 + 1) 0 → c ≡ get_or (words_of t) (k * 3 + 2) 0
    → entry a b c ≡ get_or (table_of t) k blank
get_rows t k a b c h e f g =
    rw (e, f, g) (simp towards_suc (rw (← row_is k) (row_get (words_of t) k (omega (arith, row_is k, length_words t)))))

pub get_none : (t : List ℕ) (k : ℕ) → length t / 24 ≤ k → blank ≡ get_or (table_of t) k blank
get_none t k h = sym (get_or-eq_default (table_of t) blank {n = k} (simp length_table h))

pub put_none : (t : List ℕ) (k : ℕ) (e : Entry) → length t / 24 ≤ k → Put t t k e
unfolding put_of
put_none t k e h =
    record {
      bytes = rw (lt-leb (k * 24 + 24) (length t) (omega arith));
      entries = sym (set_out (table_of t) k e (simp length_table h));
    }

length_entry : (e : Entry) → length (entry_bytes e) ≡ 24
unfolding entry_bytes
length_entry e = simp (length-append, length_bytes)

-- Three rows stored one after the other are one entry.
module _ (t₀ t₁ t₂ t₃ : List ℕ) (k : ℕ) (e : Entry) (h : k < length t₀ / 24)
    (one : Stored t₀ t₁ (k * 3) e.previous) (two : Stored t₁ t₂ (k * 3 + 1) e.own) (three : Stored t₂ t₃ (k * 3 + 2) e.tail) where
  put_bytes : t₃ ≡ put_of t₀ k e
  unfolding put_of entry_bytes put
  put_bytes =
      let a = bytes_of e.previous in
      let b = bytes_of e.own in
      let c = bytes_of e.tail in
      let la = length_bytes e.previous in
      let lb = length_bytes e.own in
      let lc = length_bytes e.tail in
      let lab : length (a ++ b) ≡ 16 = simp length-append (omega arith) in
      let first : t₁ ≡ put t₀ (k * 24) a = one.bytes ∙ store_put t₀ (k * 3) _ (k * 24) (omega arith) (omega arith) in
      let long₁ : length t₁ ≡ length t₀ = ap length first ∙ length-put t₀ a (k * 24) (omega arith) in
      let second : t₂ ≡ put t₀ (k * 24) (a ++ b) =
      two.bytes ∙ (store_put t₁ (k * 3 + 1) _ (k * 24 + 8) (omega arith) (omega arith)
      ∙ (ap (λ (t : List ℕ). put t (k * 24 + 8) b) first ∙ put-put t₀ a b (k * 24) (k * 24 + 8) (omega arith) (omega arith))) in
      let long₂ : length t₂ ≡ length t₀ = ap length second ∙ length-put t₀ (a ++ b) (k * 24) (omega arith) in
      let third : t₃ ≡ put t₀ (k * 24) ((a ++ b) ++ c) =
      three.bytes ∙ (store_put t₂ (k * 3 + 2) _ (k * 24 + 16) (omega arith) (omega arith)
      ∙ (ap (λ (t : List ℕ). put t (k * 24 + 16) c) second ∙ put-put t₀ (a ++ b) c (k * 24) (k * 24 + 16) (omega arith) (omega arith))) in
      let joined : (a ++ b) ++ c ≡ a ++ (b ++ c) = append_assoc a b c in
      let size : k * 24 + length (a ++ (b ++ c)) ≡ k * 24 + 24 = simp length-append (omega arith) in
      third ∙ (ap (λ (l : List ℕ). put t₀ (k * 24) l) joined ∙ rw (size, le-leb (k * 24 + 24) (length t₀) (omega arith)))

  pub put_rows : Put t₀ t₃ k e
  put_rows =
      record {
        bytes = put_bytes;
        entries = rw (three.words, two.words, one.words)
            (simp towards_suc (rw (← row_is k) (row-set (words_of t₀) k e.previous e.own e.tail (omega (arith, row_is k, length_words t₀)))));
      }

entries_append : (p q : List ℕ) → length p % 3 ≡ 0 → entries_of (p ++ q) ≡ entries_of p ++ entries_of q
unfolding entries_of
entries_append [] q z = refl
entries_append (a ∷ []) q z = absurd (eqb-false 1 0 refl z)
entries_append (a ∷ b ∷ []) q z = absurd (eqb-false 2 0 refl z)
entries_append (a ∷ b ∷ c ∷ rest) q z = ap (λ (l : List Entry). entry a b c ∷ l) (entries_append rest q (omega arith))

-- A table of whole entries, followed by another: the entries follow each other.
pub table_append : (p q : List ℕ) → length p % 24 ≡ 0 → table_of (p ++ q) ≡ table_of p ++ table_of q
table_append p q z =
    ap entries_of (words_append p q (omega arith)) ∙ entries_append (words_of p) (words_of q) (omega (arith, length_words p))

-- The front of a table has the first of its entries.
pub table_take : (t : List ℕ) (n : ℕ) → n * 24 ≤ length t → table_of (take (n * 24) t) ≡ take n (table_of t)
table_take t n h =
    let front = take (n * 24) t in
    let long : length front ≡ n * 24 = length-take-le (n * 24) t h in
    let split : table_of t ≡ table_of front ++ table_of (drop (n * 24) t) =
    ap table_of (sym (take-append-drop (n * 24) t)) ∙ table_append front (drop (n * 24) t) (omega arith) in
    sym (ap (take n) split ∙ take_at (table_of front) (table_of (drop (n * 24) t)) n (omega (arith, length_table front)))

put_in : (t : List ℕ) (k : ℕ) (e : Entry) → k * 24 + 24 ≤ length t → put_of t k e ≡ (take (k * 24) t ++ entry_bytes e) ++ drop (k * 24 + 24) t
unfolding put_of
put_in t k e h = rw (le-leb (k * 24 + 24) (length t) h) (sym (append_assoc (take (k * 24) t) (entry_bytes e) (drop (k * 24 + 24) t)))

put_out : (t : List ℕ) (k : ℕ) (e : Entry) → length t < k * 24 + 24 → put_of t k e ≡ t
unfolding put_of
put_out t k e h = rw (lt-leb (k * 24 + 24) (length t) h)

length_until : (t : List ℕ) (k : ℕ) (e : Entry) → k * 24 + 24 ≤ length t → length (take (k * 24) t ++ entry_bytes e) ≡ k * 24 + 24
length_until t k e h = simp (length-append, length_entry, length-take-le (k * 24) t (omega arith))

-- Writing an entry leaves the length, and what stands after the last whole entry.
pub put_length : (t t' : List ℕ) (k : ℕ) (e : Entry) → Put t t' k e → length t' ≡ length t
put_length t t' k e p =
    elim (dec_le (k * 24 + 24) (length t)) [
      | yes h ↦ ap length (p.bytes ∙ put_in t k e h)
          ∙ simp (length-append (take (k * 24) t ++ entry_bytes e), length_until t k e h, length-drop) (omega arith)
      | no h ↦ ap length (p.bytes ∙ put_out t k e (omega arith))
    ]

pub put_rest : (t t' : List ℕ) (k : ℕ) (e : Entry) → Put t t' k e → drop (length t / 24 * 24) t' ≡ drop (length t / 24 * 24) t
put_rest t t' k e p =
    let m = length t / 24 * 24 in
    elim (dec_le (k * 24 + 24) (length t)) [
      | yes h ↦
          let front = take (k * 24) t ++ entry_bytes e in
          let back = drop (k * 24 + 24) t in
          let place : length front + (m - (k * 24 + 24)) ≡ m = omega (arith, length_until t k e h) in
          let after : k * 24 + 24 + (m - (k * 24 + 24)) ≡ m = omega arith in
          ap (drop m) (p.bytes ∙ put_in t k e h)
          ∙ (ap (λ (n : ℕ). drop n (front ++ back)) (sym place)
          ∙ (drop-append-add front back (m - (k * 24 + 24))
          ∙ (drop-drop (m - (k * 24 + 24)) (k * 24 + 24) t ∙ ap (λ (n : ℕ). drop n t) after)))
      | no h ↦ ap (drop m) (p.bytes ∙ put_out t k e (omega arith))
    ]

-- The bytes of rows.
row_bytes : List ℕ → List ℕ
row_bytes [] = []
row_bytes (x ∷ xs) = bytes_of x ++ row_bytes xs

quotient : (x b : ℕ) → b < 256 → (x * 256 + b) / 256 ≡ x
quotient x b h = omega arith

remainder : (x b : ℕ) → b < 256 → (x * 256 + b) % 256 ≡ b
remainder x b h = omega arith

small : (a : ℕ) → a < 256 → a % 256 ≡ a
small a h = omega arith

bytes_word : (a b c d e f g h : ℕ) → a < 256 → b < 256 → c < 256 → d < 256 → e < 256 → f < 256 → g < 256 → h < 256
    → bytes_of (word_of a b c d e f g h) ≡ a ∷ b ∷ c ∷ d ∷ e ∷ f ∷ g ∷ h ∷ []
unfolding bytes_of
bytes_word a b c d e f g h ha hb hc hd he hf hg hh =
    rw (
      quotient _ h hh,
      quotient _ g hg,
      quotient _ f hf,
      quotient _ e he,
      quotient _ d hd,
      quotient _ c hc,
      quotient _ b hb,
      remainder _ h hh,
      remainder _ g hg,
      remainder _ f hf,
      remainder _ e he,
      remainder _ d hd,
      remainder _ c hc,
      remainder _ b hb,
      small a ha,
    )

words_back : (t : List ℕ) → length t % 8 ≡ 0 → ((i : ℕ) → get_or t i 0 < 256) → row_bytes (words_of t) ≡ t
unfolding words_of row_bytes
words_back [] z s = refl
words_back (a ∷ []) z s = absurd (eqb-false 1 0 refl z)
words_back (a ∷ b ∷ []) z s = absurd (eqb-false 2 0 refl z)
words_back (a ∷ b ∷ c ∷ []) z s = absurd (eqb-false 3 0 refl z)
words_back (a ∷ b ∷ c ∷ d ∷ []) z s = absurd (eqb-false 4 0 refl z)
words_back (a ∷ b ∷ c ∷ d ∷ e ∷ []) z s = absurd (eqb-false 5 0 refl z)
words_back (a ∷ b ∷ c ∷ d ∷ e ∷ f ∷ []) z s = absurd (eqb-false 6 0 refl z)
words_back (a ∷ b ∷ c ∷ d ∷ e ∷ f ∷ g ∷ []) z s = absurd (eqb-false 7 0 refl z)
words_back (a ∷ b ∷ c ∷ d ∷ e ∷ f ∷ g ∷ h ∷ rest) z s =
    ap (λ (l : List ℕ). l ++ row_bytes (words_of rest)) (bytes_word a b c d e f g h (s 0) (s 1) (s 2) (s 3) (s 4) (s 5) (s 6) (s 7))
    ∙ ap (λ (l : List ℕ). a ∷ b ∷ c ∷ d ∷ e ∷ f ∷ g ∷ h ∷ l)
    (words_back rest (omega arith) (λ i. s (suc (suc (suc (suc (suc (suc (suc (suc i))))))))))

entries_back : (ws : List ℕ) → length ws % 3 ≡ 0 → table_bytes (entries_of ws) ≡ row_bytes ws
unfolding entries_of table_bytes entry_bytes row_bytes
entries_back [] z = refl
entries_back (a ∷ []) z = absurd (eqb-false 1 0 refl z)
entries_back (a ∷ b ∷ []) z = absurd (eqb-false 2 0 refl z)
entries_back (a ∷ b ∷ c ∷ rest) z =
    append_assoc (bytes_of a) (bytes_of b ++ bytes_of c) (table_bytes (entries_of rest))
    ∙ ap (λ (l : List ℕ). bytes_of a ++ l)
    (append_assoc (bytes_of b) (bytes_of c) (table_bytes (entries_of rest))
    ∙ ap (λ (l : List ℕ). bytes_of b ++ (bytes_of c ++ l)) (entries_back rest (omega arith)))

-- The bytes of the entries of a table of whole entries are its bytes.
pub table_back : (t : List ℕ) → length t % 24 ≡ 0 → ((i : ℕ) → get_or t i 0 < 256) → table_bytes (table_of t) ≡ t
table_back t z s = entries_back (words_of t) (omega (arith, length_words t)) ∙ words_back t (omega arith) s

front_small : (t : List ℕ) (n : ℕ) → ((i : ℕ) → get_or t i 0 < 256) → (i : ℕ) → get_or (take n t) i 0 < 256
front_small [] n s i = rw take-nil (s i)
front_small (a ∷ t) zero s i = omega arith
front_small (a ∷ t) (suc n) s zero = s 0
front_small (a ∷ t) (suc n) s (suc i) = front_small t n (λ k. s (suc k)) i

-- The front of a table of bytes is the bytes of its first entries.
pub front_back : (t : List ℕ) (n : ℕ) → n * 24 ≤ length t → ((i : ℕ) → get_or t i 0 < 256) → take (n * 24) t ≡ table_bytes (take n (table_of t))
front_back t n h s =
    let front = take (n * 24) t in
    sym (ap table_bytes (sym (table_take t n h))
    ∙ table_back front (omega (arith, length-take-le (n * 24) t h)) (λ i. front_small t (n * 24) s i))
