-- Writing rows one after the other, and a state's rows into bytes that then hold the state.
use mathlib.Core.List.{List, [], ◌∷◌, ◌++◌, append_assoc, append-nil, map}
use mathlib.Core.Path.{◌≡◌, refl, sym, ap, ◌∙◌}
use Prim.Native.Nat.{ℕ, zero, suc, ◌+◌, ◌*◌, ◌-◌, ◌/◌, ◌≤◌, ◌<◌}
use native.Mathlib.Omega.{arith}
use borrow.Author.Tests.{le-leb}
use lib.ListN.{length, get_or, set, take, drop, length-append, length-drop, length-map, take-append-drop, drop_of_length-le, get_or-append}
use lib.Seq.{paste, paste-zero, paste-suc, take_all, take_at, drop_at, drop-drop, length-take-le, get_or-append-add, ext_get_or}
use Rattle.copying.specs.declared.Waiting.{Waiting}
use Rattle.rows.specs.Rows.{words_of, Stored}
use Rattle.rows.proofs.Rows.{length_words, words_append}
use Rattle.sketch.specs.Sums.{along, row_bytes}
use Rattle.sketch.proofs.Sums.{length-along, get_d_along, rows_append, length_rows}
use Rattle.sketch.proofs.Subtracting.{none_yet, one_more}
use Rattle.state.specs.declared.Receiver.{Receiver}
use Rattle.state_bytes.specs.Bytes.{settings_from, place_at, places_from, state_from, state_in, place_rows, head_rows, state_rows, Rowed, Stores}

-- A list as long as what is made of it, element by element.
pub unmapped : (A B : Type 0) (f : A → B) (l : List A) (n : ℕ) → length (map f l) ≡ n → length l ≡ n
unmapped A B f l n e = sym (length-map l f) ∙ e

abbrev row_in : List ℕ → ℕ → ℕ
row_in rows k = get_or rows k 0

-- The first k of n rows are written.
pub record Rowing (rows : List ℕ) (n : ℕ) (before now : List ℕ) (k : ℕ) : Type 0 where
  pub size : length rows ≡ n
  pub fits : n * 8 ≤ length before
  pub far : k ≤ n
  pub long : length now ≡ length before
  pub bytes : now ≡ row_bytes (along k 0 (row_in rows)) ++ drop (k * 8) before
  pub words : words_of now ≡ paste (words_of before) 0 rows k

module _ (rows : List ℕ) (n : ℕ) (before : List ℕ) where
  pub rowing_start : length rows ≡ n → n * 8 ≤ length before → Rowing rows n before before 0
  rowing_start e h =
      record { size = e; fits = h; far = omega arith; long = refl; bytes = none_yet _ before; words = paste-zero (words_of before) 0 rows }

  module _ (now after : List ℕ) (k x : ℕ) (r : Rowing rows n before now k) (h : k < n) (is : x ≡ get_or rows k 0) (s : Stored now after k x) where
    next_bytes : after ≡ row_bytes (along (k + 1) 0 (row_in rows)) ++ drop ((k + 1) * 8) before
    next_bytes = let fits = r.fits in one_more (row_in rows) before now after k x (omega arith) r.long is r.bytes s

    next_words : words_of after ≡ paste (words_of before) 0 rows (k + 1)
    next_words =
        let fits = r.fits in
        let size = r.size in
        let room = length_words before in
        let at : k ≡ 0 + k = omega arith in
        let step : suc k ≡ k + 1 = omega arith in
        s.words
        ∙ (ap (λ (l : List ℕ). set l k x) r.words
        ∙ (ap (λ (y : ℕ). set (paste (words_of before) 0 rows k) k y) is
        ∙ (ap (λ (m : ℕ). set (paste (words_of before) 0 rows k) m (get_or rows k 0)) at
        ∙ (paste-suc (words_of before) 0 rows k 0 (omega arith) (omega arith) ∙ ap (paste (words_of before) 0 rows) step))))

    pub rowing_next : Rowing rows n before after (k + 1)
    rowing_next =
        let fits = r.fits in
        let front = length_rows (along (k + 1) 0 (row_in rows)) ∙ ap (λ (m : ℕ). m * 8) (length-along (k + 1) 0 (row_in rows)) in
        let back = length-drop ((k + 1) * 8) before in
        let whole = ap length next_bytes ∙ length-append (row_bytes (along (k + 1) 0 (row_in rows))) (drop ((k + 1) * 8) before) in
        record { size = r.size; fits = r.fits; far = omega arith; long = omega arith; bytes = next_bytes; words = next_words }

  pub rowing_end : (now : List ℕ) (k : ℕ) → Rowing rows n before now k → n ≤ k → Rowed before now rows
  rowing_end now k r h =
      let far = r.far in
      let size = r.size in
      let done : k ≡ length rows = omega arith in
      let start : 0 + length rows ≡ length rows = omega arith in
      let all : along (length rows) 0 (row_in rows) ≡ rows =
      ext_get_or 0 (along (length rows) 0 (row_in rows)) rows (length-along (length rows) 0 (row_in rows))
      (λ i b. let low = length-along (length rows) 0 (row_in rows) in
      get_d_along (length rows) 0 i (row_in rows) (omega arith) ∙ ap (row_in rows) {x = 0 + i} {y = i} (omega arith)) in
      record {
        bytes = r.bytes
            ∙ (ap (λ (m : ℕ). row_bytes (along m 0 (row_in rows)) ++ drop (m * 8) before) done
            ∙ ap (λ (l : List ℕ). row_bytes l ++ drop (length rows * 8) before) all);
        words = r.words
            ∙ (ap (λ (m : ℕ). take m rows ++ drop (0 + m) (words_of before)) done
            ∙ (ap (λ (m : ℕ). take (length rows) rows ++ drop m (words_of before)) start
            ∙ ap (λ (l : List ℕ). l ++ drop (length rows) (words_of before)) (take_all (length rows) rows (omega arith))));
      }

-- The rows of places: two for each.
abbrev empty : Waiting
empty = record { level = 0; id = 0 }

pub length_places : (ws : List Waiting) → length (place_rows ws) ≡ length ws * 2
unfolding place_rows
length_places [] = refl
length_places (w ∷ ws) = let more = length_places ws in omega arith

level_row : (ws : List Waiting) (k : ℕ) → get_or (place_rows ws) (k * 2) 0 ≡ (get_or ws k empty).level
unfolding place_rows
level_row [] k = refl
level_row (w ∷ ws) zero = refl
level_row (w ∷ ws) (suc k) =
    let next : suc k * 2 ≡ suc (suc (k * 2)) = omega arith in
    ap (λ (n : ℕ). get_or (w.level ∷ w.id ∷ place_rows ws) n 0) next ∙ level_row ws k

id_row : (ws : List Waiting) (k : ℕ) → get_or (place_rows ws) (k * 2 + 1) 0 ≡ (get_or ws k empty).id
unfolding place_rows
id_row [] k = refl
id_row (w ∷ ws) zero = refl
id_row (w ∷ ws) (suc k) =
    let next : suc k * 2 + 1 ≡ suc (suc (k * 2 + 1)) = omega arith in
    ap (λ (n : ℕ). get_or (w.level ∷ w.id ∷ place_rows ws) n 0) next ∙ id_row ws k

-- No place yet, and one more.
pub places_start : (ws : List Waiting) (before : List ℕ) → length ws ≡ 128 → 2048 ≤ length before → Rowing (place_rows ws) 256 before before 0
places_start ws before e h = let size = length_places ws in rowing_start (place_rows ws) 256 before (omega arith) h

pub rowing_place : (ws : List Waiting) (before now between after : List ℕ) (k : ℕ) (w : Waiting) → Rowing (place_rows ws) 256 before now (k * 2)
    → k < 128 → w ≡ get_or ws k empty → Stored now between (k * 2) w.level → Stored between after (k * 2 + 1) w.id
    → Rowing (place_rows ws) 256 before after ((k + 1) * 2)
rowing_place ws before now between after k w r h is s t =
    let level = ap (λ (v : Waiting). v.level) is ∙ sym (level_row ws k) in
    let id = ap (λ (v : Waiting). v.id) is ∙ sym (id_row ws k) in
    let first = rowing_next (place_rows ws) 256 before now between (k * 2) w.level r (omega arith) level s in
    let second = rowing_next (place_rows ws) 256 before between after (k * 2 + 1) w.id first (omega arith) id t in
    let two : k * 2 + 1 + 1 ≡ (k + 1) * 2 = omega arith in
    rw two at second

-- Places read from rows.
length_from : (rows : List ℕ) (n k : ℕ) → length (places_from rows n k) ≡ n
unfolding places_from
length_from rows zero k = refl
length_from rows (suc n) k = ap suc (length_from rows n (suc k))

place_from : (rows : List ℕ) (n k i : ℕ) → i < n → get_or (places_from rows n k) i empty ≡ place_at rows (k + i)
unfolding places_from
place_from rows zero k i h = absurd (omega arith)
place_from rows (suc n) k zero h = let here : k ≡ k + 0 = omega arith in ap (place_at rows) here
place_from rows (suc n) k (suc i) h =
    let next : suc k + i ≡ k + suc i = omega arith in place_from rows n (suc k) i (omega arith) ∙ ap (place_at rows) next

-- A state's rows say the state.
module _ (s : Receiver) (rest : List ℕ) (long : length s.pile ≡ 128) where
  abbrev rows : List ℕ
  rows = head_rows s ++ (place_rows s.pile ++ rest)

  row_at : (i : ℕ) → i < 256 → get_or rows (12 + i) 0 ≡ get_or (place_rows s.pile) i 0
  unfolding head_rows
  row_at i h =
      let size = length_places s.pile in
      get_or-append-add (head_rows s) (place_rows s.pile ++ rest) i 0 ∙ get_or-append (place_rows s.pile) rest 0 i (omega arith)

  place_at_lem : (i : ℕ) → i < 128 → place_at rows i ≡ get_or s.pile i empty
  place_at_lem i h =
      let next : 13 + i * 2 ≡ 12 + (i * 2 + 1) = omega arith in
      let level = row_at (i * 2) (omega arith) ∙ level_row s.pile i in
      let id = ap (λ (n : ℕ). get_or rows n 0) next ∙ (row_at (i * 2 + 1) (omega arith) ∙ id_row s.pile i) in
      λ j. record { level = level j; id = id j }

  places_are : places_from rows 128 0 ≡ s.pile
  places_are =
      let size = length_from rows 128 0 in
      ext_get_or empty (places_from rows 128 0) s.pile (size ∙ sym long)
      (λ i b. let here : 0 + i ≡ i = omega arith in
      place_from rows 128 0 i (omega arith) ∙ (ap (place_at rows) here ∙ place_at_lem i (omega arith)))

  state_from_lem : state_from rows ≡ s
  unfolding state_from settings_from head_rows
  state_from_lem =
      λ j. record {
        settings = s.settings;
        session = s.session;
        phase = s.phase;
        size = s.size;
        root = s.root;
        built = s.built;
        taken = s.taken;
        waiting = s.waiting;
        pile = places_are j;
      }

-- Both parts of a state written: its bytes, and that they hold it.
module _ (b b₁ p : List ℕ) (s : Receiver) (long : length s.pile ≡ 128) (room : 2144 ≤ length b)
    (first : Rowed b b₁ (head_rows s)) (second : Rowed (drop 96 b₁) p (place_rows s.pile)) where
  head_size : length (row_bytes (head_rows s)) ≡ 96
  unfolding head_rows
  head_size = length_rows (head_rows s)

  head_bytes : b₁ ≡ row_bytes (head_rows s) ++ drop 96 b
  unfolding head_rows
  head_bytes = first.bytes

  places_bytes : p ≡ row_bytes (place_rows s.pile) ++ drop 2144 b
  places_bytes =
      let size = length_places s.pile in
      let many : length (place_rows s.pile) * 8 ≡ 2048 = omega arith in
      let behind : drop 96 b₁ ≡ drop 96 b = ap (drop 96) head_bytes ∙ drop_at (row_bytes (head_rows s)) (drop 96 b) 96 head_size in
      second.bytes
      ∙ (ap (λ (n : ℕ). row_bytes (place_rows s.pile) ++ drop n (drop 96 b₁)) many
      ∙ (ap (λ (l : List ℕ). row_bytes (place_rows s.pile) ++ drop 2048 l) behind
      ∙ ap (λ (l : List ℕ). row_bytes (place_rows s.pile) ++ l) (drop-drop 2048 96 b)))

  all_bytes : take 96 b₁ ++ p ≡ row_bytes (state_rows s) ++ drop 2144 b
  unfolding state_rows
  all_bytes =
      let front : take 96 b₁ ≡ row_bytes (head_rows s) = ap (take 96) head_bytes ∙ take_at (row_bytes (head_rows s)) (drop 96 b) 96 head_size in
      ap (λ (l : List ℕ). l ++ p) front
      ∙ (ap (λ (l : List ℕ). row_bytes (head_rows s) ++ l) places_bytes
      ∙ (sym (append_assoc (row_bytes (head_rows s)) (row_bytes (place_rows s.pile)) (drop 2144 b))
      ∙ ap (λ (l : List ℕ). l ++ drop 2144 b) (sym (rows_append (head_rows s) (place_rows s.pile)))))

  long_first : 96 ≤ length b₁
  long_first =
      let whole = ap length head_bytes ∙ length-append (row_bytes (head_rows s)) (drop 96 b) in
      let size = head_size in
      omega arith

  cut : length (take 96 b₁) ≡ 96
  cut = length-take-le 96 b₁ long_first

  head_words : words_of (take 96 b₁) ≡ head_rows s
  unfolding head_rows
  head_words =
      let size = cut in
      let many : length (words_of (take 96 b₁)) ≡ 12 = length_words (take 96 b₁) ∙ ap (λ (n : ℕ). n / 8) cut in
      let split : words_of b₁ ≡ words_of (take 96 b₁) ++ words_of (drop 96 b₁) =
      ap words_of (sym (take-append-drop 96 b₁)) ∙ words_append (take 96 b₁) (drop 96 b₁) (omega arith) in
      sym (take_at (words_of (take 96 b₁)) (words_of (drop 96 b₁)) 12 many) ∙ ap (take 12) (sym split ∙ first.words)

  all_words : words_of (take 96 b₁ ++ p)
      ≡ head_rows s ++ (place_rows s.pile ++ drop (length (place_rows s.pile)) (words_of (drop 96 b₁)))
  all_words =
      let size = cut in
      words_append (take 96 b₁) p (omega arith) ∙ (ap (λ (l : List ℕ). l ++ words_of p) head_words ∙ ap (λ (l : List ℕ). head_rows s ++ l) second.words)

  all_long : 2144 ≤ length (take 96 b₁ ++ p)
  all_long =
      let whole = length-append (take 96 b₁) p in
      let size = cut in
      let places = ap length places_bytes ∙ length-append (row_bytes (place_rows s.pile)) (drop 2144 b) in
      let many = length_rows (place_rows s.pile) in
      let two = length_places s.pile in
      omega arith

  stores_both : Stores b (take 96 b₁ ++ p) s
  unfolding state_in
  stores_both =
      record {
        short = λ h. absurd (omega arith);
        bytes = λ h. all_bytes;
        held = λ h. rw (le-leb 2144 (length (take 96 b₁ ++ p)) all_long, all_words) (state_from_lem s _ long);
      }

-- The same, as a part that is lent gives it back: it goes to the end of the bytes, and nothing is behind it.
pub stores_all : (b b₁ part p behind : List ℕ) (s : Receiver) → length s.pile ≡ 128 → 2144 ≤ length b → Rowed b b₁ (head_rows s)
    → Rowed part p (place_rows s.pile) → part ≡ take (length b₁ - 96) (drop 96 b₁) → behind ≡ drop (length b₁ - 96) (drop 96 b₁)
    → Stores b (take 96 b₁ ++ (p ++ behind)) s
stores_all b b₁ part p behind s long room first second part-is behind-is =
    let left = length-drop 96 b₁ in
    let whole : part ≡ drop 96 b₁ = part-is ∙ take_all (length b₁ - 96) (drop 96 b₁) (omega arith) in
    let none : behind ≡ [] = behind-is ∙ drop_of_length-le (drop 96 b₁) {i = length b₁ - 96} (omega arith) in
    rw (none, append-nil p) (stores_both b b₁ p s long room first (rw whole at second))

pub stores_none : (b : List ℕ) (s : Receiver) → length b < 2144 → Stores b b s
stores_none b s h = record { short = λ k. refl; bytes = λ k. absurd (omega arith); held = λ k. absurd (omega arith) }
