-- One entry: two rows stored are one, and what is written is read back.
use mathlib.Core.List.{List, ◌∷◌, ◌++◌, append_assoc}
use mathlib.Core.Path.{◌≡◌, refl, sym, ap, ◌∙◌}
use Prim.Native.Nat.{ℕ, suc, ◌+◌, ◌*◌, ◌/◌, ◌%◌, ◌^◌, ◌≤◌, ◌<◌}
use native.Mathlib.Decide.{dec_lt}
use native.Mathlib.Omega.{arith}
use lib.Dec.{leb, ltb}
use lib.ListN.{length, get_or, length-append}
use borrow.Author.Tests.{lt-ltb, le-ltb, le-leb, lt-leb}
use Rattle.rows.specs.Rows.{words_of, bytes_of, store_of, put}
use Rattle.rows.proofs.Rows.{words_cons, no_row}
use Rattle.rows.proofs.Put.{length_bytes, store_two}
use Rattle.node_table.specs.declared.Entry.{Entry}
use Rattle.node_table.specs.Entries.{id_at, extent_at, start_at, size_at, entry_at, packed, entry_bytes, put_of}
use Rattle.node_table.specs.Nodes.{inside}
use Rattle.node_table.specs.Laws.{Fits}

id_here : (t : List ℕ) (k r : ℕ) → k < length t / 16 → r ≡ get_or (words_of t) (k * 2) 0 → r ≡ id_at t k
unfolding id_at
id_here t k r h e = rw (lt-ltb k (length t / 16) h) e

pub id_nowhere : (t : List ℕ) (k : ℕ) → length t / 16 ≤ k → 0 ≡ id_at t k
unfolding id_at
id_nowhere t k h = rw (le-ltb k (length t / 16) h)

-- A row that was loaded, or none; the first is the id, and the second the extent.
pub loaded_id : (t : List ℕ) (k n r : ℕ) → k < length t / 16 → r ≡ get_or (words_of t) (k * 2 + n) 0 → n ≡ 0 → r ≡ id_at t k
loaded_id t k n r h e z = id_here t k r h (e ∙ ap (λ (i : ℕ). get_or (words_of t) i 0) {x = k * 2 + n} {y = k * 2} (omega arith))

pub loaded_extent : (t : List ℕ) (k n r : ℕ) → r ≡ get_or (words_of t) (k * 2 + n) 0 → n ≡ 1 → r ≡ extent_at t k
unfolding extent_at
loaded_extent t k n r e z = rw z at e

pub extent_nowhere : (t : List ℕ) (k : ℕ) → length t / 16 ≤ k → 0 ≡ extent_at t k
unfolding extent_at
extent_nowhere t k h = no_row t (k * 2 + 1) (omega arith)

-- An entry with an id is in the table.
pub there : (t : List ℕ) (k : ℕ) → (id_at t k ≡ 0 → ⊥) → k < length t / 16
there t k some = elim (dec_lt k (length t / 16)) [ yes h ↦ h | no h ↦ absurd (some (sym (id_nowhere t k (omega (arith, h))))) ]

-- Whether entry k lies in the string, from its start and length.
pub inside_is : (t : List ℕ) (n k start size : ℕ) → start ≡ start_at t k → size ≡ size_at t k → leb (start + size) n ≡ inside n (entry_at t k)
inside_is t n k start size s z = rw (s, z)

-- Writing an entry.
pub put_room : (t : List ℕ) (k : ℕ) (e : Entry) → k * 16 + 16 ≤ length t → put_of t k e ≡ put t (k * 16) (entry_bytes e)
unfolding put_of
put_room t k e h = rw (le-leb (k * 16 + 16) (length t) h)

pub put_two : (t₀ t₁ t₂ : List ℕ) (k extent : ℕ) (e : Entry) → k < length t₀ / 16 → extent ≡ packed e
    → t₁ ≡ store_of t₀ (k * 2) e.id → t₂ ≡ store_of t₁ (k * 2 + 1) extent → t₂ ≡ put_of t₀ k e
unfolding entry_bytes
put_two t₀ t₁ t₂ k extent e h is first second =
    store_two t₀ t₁ t₂ k e.id extent (omega arith) first second
    ∙ (ap (λ (x : ℕ). put t₀ (k * 16) (bytes_of e.id ++ bytes_of x)) is ∙ sym (put_room t₀ k e (omega arith)))

pub put_nowhere : (t : List ℕ) (k : ℕ) (e : Entry) → length t / 16 ≤ k → t ≡ put_of t k e
unfolding put_of
put_nowhere t k e h = rw (lt-leb (k * 16 + 16) (length t) (omega arith))

-- Reading an entry that was written.
pub length_entry : (e : Entry) → length (entry_bytes e) ≡ 16
unfolding entry_bytes
length_entry e = simp (length-append, length_bytes)

module _ (e : Entry) (fits : Fits e) (rest : List ℕ) where
  small : packed e < 2 ^ 64
  unfolding packed
  small = omega arith

  words : words_of (entry_bytes e ++ rest) ≡ e.id ∷ packed e ∷ words_of rest
  unfolding entry_bytes
  words =
      ap words_of (append_assoc (bytes_of e.id) (bytes_of (packed e)) rest)
      ∙ (words_cons e.id (bytes_of (packed e) ++ rest) fits.id ∙ ap (λ (l : List ℕ). e.id ∷ l) (words_cons (packed e) rest small))

  long : length (entry_bytes e ++ rest) ≡ 16 + length rest
  long = length-append (entry_bytes e) rest ∙ ap (λ (n : ℕ). n + length rest) (length_entry e)

  -- The five numbers of its second row.
  module _ (extent : ℕ) (is : extent ≡ packed e) where
    level_back : extent % 8 ≡ e.level
    unfolding packed
    level_back = omega (arith, is, fits.level)

    size_back : extent / 8 % 131072 ≡ e.size
    unfolding packed
    size_back = omega (arith, is, fits.level, fits.size)

    start_back : extent / 8 / 131072 % 131072 ≡ e.start
    unfolding packed
    start_back = omega (arith, is, fits.level, fits.size, fits.start)

    parent_back : extent / 8 / 131072 / 131072 % 4096 ≡ e.parent
    unfolding packed
    parent_back = omega (arith, is, fits.level, fits.size, fits.start, fits.parent)

    place_back : extent / 8 / 131072 / 131072 / 4096 % 32 ≡ e.place
    unfolding packed
    place_back = omega (arith, is, fits.level, fits.size, fits.start, fits.parent, fits.place)

  id_first : id_at (entry_bytes e ++ rest) 0 ≡ e.id
  unfolding id_at
  id_first = rw (words, lt-ltb 0 (length (entry_bytes e ++ rest) / 16) (omega (arith, long)))

  extent_first : extent_at (entry_bytes e ++ rest) 0 ≡ packed e
  unfolding extent_at
  extent_first = rw words

  pub entry_first : entry_at (entry_bytes e ++ rest) 0 ≡ e
  entry_first i =
      let x = extent_at (entry_bytes e ++ rest) 0 in
      record {
        id = id_first i;
        level = level_back x extent_first i;
        start = start_back x extent_first i;
        size = size_back x extent_first i;
        parent = parent_back x extent_first i;
        place = place_back x extent_first i;
      }

  module _ (k : ℕ) where
    twice : (k + 1) * 2 ≡ suc (suc (k * 2))
    twice = omega arith

    twice_one : (k + 1) * 2 + 1 ≡ suc (suc (k * 2 + 1))
    twice_one = omega arith

    test_later : Dec (k < length rest / 16) → ltb (k + 1) (length (entry_bytes e ++ rest) / 16) ≡ ltb k (length rest / 16)
    test_later (yes h) = lt-ltb (k + 1) _ (omega (arith, long)) ∙ sym (lt-ltb k _ h)
    test_later (no h) = le-ltb (k + 1) _ (omega (arith, long)) ∙ sym (le-ltb k (length rest / 16) (omega arith))

    id_later : id_at (entry_bytes e ++ rest) (k + 1) ≡ id_at rest k
    unfolding id_at
    id_later = rw (test_later (dec_lt k (length rest / 16)), words, twice) refl

    extent_later : extent_at (entry_bytes e ++ rest) (k + 1) ≡ extent_at rest k
    unfolding extent_at
    extent_later = rw (words, twice_one) refl

    pub entry_later : entry_at (entry_bytes e ++ rest) (k + 1) ≡ entry_at rest k
    entry_later i =
        let x = extent_later i in
        record {
          id = id_later i;
          level = x % 8;
          start = x / 8 / 131072 % 131072;
          size = x / 8 % 131072;
          parent = x / 8 / 131072 / 131072 % 4096;
          place = x / 8 / 131072 / 131072 / 4096 % 32;
        }
