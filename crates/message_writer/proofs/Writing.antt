-- Laws of writing: words stored one after the other are one row of words stored, and a whole message stored is a message written.
use Rattle.std.proofs.Common.{Bool, true, false, List, [], ◌∷◌, ◌++◌, append-nil, ◌≡◌, refl, sym, ap, ◌∙◌, ℕ, zero, suc, ◌+◌, ◌*◌, ◌-◌, ◌/◌, ◌%◌, ◌^◌, ◌≤◌, ◌<◌, min, add-zero, add-one, arith, le-leb, length, get_or, set, drop, length-append, drop_of_length-le, drop-cons}
use Rattle.std.proofs.Math.Nat.{sub-zero}
use Rattle.std.proofs.Math.Numerals.{towards_suc}
use Rattle.std.proofs.Math.Decide.{dec_le}
use Rattle.std.proofs.lemmas.Bool.{lt-leb}
use Rattle.std.proofs.Math.Seq.{sets, length-sets, sets-eq}
use borrow.Rule.Slice.PartMut.{put_mid}
use Rattle.std.specs.Int.{w32, to_be_bytes}
use Rattle.std.proofs.lemmas.Slice.{put_mid-paste}
use Rattle.message.specs.Words.{link_bytes, bytes_of, with_kind, plain, head_word, end_word, reference_word, word_of_bytes}
use Rattle.message.specs.Fields.{one, number, head, value, values, text_to, text, values_to, many_to, many, maybe_to, maybe, maybe_number, only}
use Rattle.message.specs.Messages.{Msg, opening_query, node_query, opening, composition, literal, no_node, headed, words_then, size_of, encode_words, encode}
use Rattle.message.specs.Reading.{stated_by, references_at}
use Rattle.std.specs.Prelude.{Option, None, Some}
use Rattle.std.specs.Option.{is_some}
use Rattle.message.proofs.Words.{length_bytes}
use Rattle.message.proofs.Messages.{length-encode, length_encode_words}
use Rattle.message_writer.specs.Writing.{Written, pair_bytes, Stored, first_rows, paired}

pub stored_word : (b : List ℕ) (k w : ℕ) → Stored b (sets b (k * 4) (bytes_of w)) k (w ∷ [])
unfolding link_bytes
stored_word b k w = record { same = length-sets b (k * 4) (bytes_of w); bytes = λ h. refl }

-- The code's four bytes of a word are the word's.
be_bytes : (w : ℕ) → to_be_bytes w32 w ≡ bytes_of w
be_bytes w =
    let top : w / 16777216 % 256 ≡ w / 256 / 256 / 256 % 256 = omega arith in
    let next : w / 65536 % 256 ≡ w / 256 / 256 % 256 = omega arith in
    cc

pub stored_bytes : (b new : List ℕ) (k w : ℕ) → k < length b / 4 → new ≡ to_be_bytes w32 w → Stored b (put_mid (k * 4) (k * 4 + 4 - k * 4) b new) k (w ∷ [])
stored_bytes b new k w h e =
    let is : put_mid (k * 4) (k * 4 + 4 - k * 4) b new ≡ sets b (k * 4) (bytes_of w) =
    put_mid-paste (k * 4) (k * 4 + 4 - k * 4) b new (bytes_of w) 4 (e ∙ be_bytes w) (omega arith) refl ∙ sym (sets-eq (bytes_of w) b (k * 4) (omega arith)) in
    rw is (stored_word b k w)

pub stored_out : (b : List ℕ) (k w : ℕ) → length b / 4 ≤ k → Stored b b k (w ∷ [])
stored_out b k w h = record { same = refl; bytes = λ f. absurd (omega arith) }

pub stored_none : (b : List ℕ) (k : ℕ) → Stored b b k []
unfolding link_bytes
stored_none b k = record { same = refl; bytes = λ h. refl }

bytes_append : (ws vs : List ℕ) → link_bytes (ws ++ vs) ≡ link_bytes ws ++ link_bytes vs
unfolding link_bytes
bytes_append [] vs = refl
bytes_append (w ∷ ws) vs = ap (λ (l : List ℕ). bytes_of w ++ l) (bytes_append ws vs)

sets-append : (l : List ℕ) (i : ℕ) (xs ys : List ℕ) → sets l i (xs ++ ys) ≡ sets (sets l i xs) (i + length xs) ys
sets-append l i [] ys = ap (λ (k : ℕ). sets l k ys) (sym (add-zero i))
sets-append l i (x ∷ xs) ys =
    sets-append (set l i x) (suc i) xs ys ∙ ap (λ (k : ℕ). sets (sets (set l i x) (suc i) xs) k ys) {x = suc i + length xs} {y = i + suc (length xs)} (omega arith)

-- One row of words after the other.
pub after : {b b' b'' : List ℕ} {k : ℕ} (j : ℕ) {ws vs : List ℕ} → j ≡ k + length ws → Stored b b' k ws → Stored b' b'' j vs → Stored b b'' k (ws ++ vs)
after {b} {b'} {b''} {k} j {ws} {vs} e p q =
    record {
      same = q.same ∙ p.same;
      bytes = λ h.
          let long = length-append ws vs in
          let n = p.same in
          let first = p.bytes (omega arith) in
          let place : j * 4 ≡ k * 4 + length (link_bytes ws) = ap (λ (m : ℕ). m * 4) e ∙ (omega (arith, length_bytes ws)) in
          q.bytes (omega arith)
          ∙ (ap (λ (t : List ℕ). sets t (j * 4) (link_bytes vs)) first
          ∙ (ap (λ (m : ℕ). sets (sets b (k * 4) (link_bytes ws)) m (link_bytes vs)) place
          ∙ (sym (sets-append b (k * 4) (link_bytes ws) (link_bytes vs)) ∙ ap (sets b (k * 4)) (sym (bytes_append ws vs)))));
    }

-- A whole message.
pub written_full : (m : Msg) (b : List ℕ) → length b / 4 < size_of m → Written b b (encode m) 20
written_full m b h =
    let long = length-encode m in
    let no = lt-leb (length (encode m)) (length b) (omega arith) in
    record { answer_is = rw no; buffer_is = rw no }

words_fit : (ws b b' : List ℕ) (n : ℕ) → n ≡ length ws → n ≤ length b / 4 → Stored b b' 0 ws → Written b b' (link_bytes ws) (2 ^ 32 + n * 4)
words_fit ws b b' n e h p =
    let long = length_bytes ws in
    let yes = le-leb (length (link_bytes ws)) (length b) (omega arith) in
    let put = p.bytes (omega arith) ∙ sets-eq (link_bytes ws) b 0 (omega arith) in
    record {
      answer_is = rw yes (omega arith);
      buffer_is = rw yes (put ∙ ap (λ (k : ℕ). link_bytes ws ++ drop k b) {x = 0 + length (link_bytes ws)} {y = length (link_bytes ws)} (omega arith));
    }

pub written_fit : (m : Msg) (b b' : List ℕ) (n : ℕ) → n ≡ size_of m → n ≤ length b / 4 → Stored b b' 0 (encode_words m)
    → Written b b' (encode m) (2 ^ 32 + n * 4)
unfolding encode
written_fit m b b' n e h p = words_fit (encode_words m) b b' n (e ∙ sym (length_encode_words m)) h p

-- What a writer answers is a number of 64 bits.
pub written_low : {before after bytes : List ℕ} {answer : ℕ} → Written before after bytes answer → length before < 2 ^ 63 → answer < 2 ^ 64
written_low {before} {after} {bytes} {answer} w h = elim (dec_le (length bytes) (length before)) [
  | yes fits ↦ (let e : answer ≡ 2 ^ 32 + length bytes = w.answer_is ∙ rw (le-leb (length bytes) (length before) fits) in omega (arith, e))
  | no long ↦ (let e : answer ≡ 20 = w.answer_is ∙ rw (lt-leb (length bytes) (length before) (omega arith)) in omega (arith, e))
]

-- The words of a field.
pub number_stored : {b b' : List ℕ} {k w : ℕ} (x : ℕ) → w ≡ with_kind 2 x → Stored b b' k (w ∷ []) → Stored b b' k (number.to x)
unfolding one plain
number_stored x e p = rw (← e) p

pub end_stored : {b b' : List ℕ} {k w : ℕ} (n : ℕ) → w ≡ with_kind 6 n → Stored b b' k (w ∷ []) → Stored b b' k (end_word n ∷ [])
unfolding end_word
end_stored n e p = rw (← e) p

pub head_stored : {b b' : List ℕ} {w : ℕ} (t n : ℕ) → w ≡ with_kind 1 (t * 2 ^ 24 + n % 2 ^ 24) → Stored b b' 0 (w ∷ [])
    → Stored b b' 0 (head.to (record { type = t; session = n }))
unfolding one head_word
head_stored t n e p = rw (← e) p

pub value_stored : {b b₁ b₂ b₃ : List ℕ} {k u v w : ℕ} (x : ℕ) → u ≡ with_kind 3 (x / 2 ^ 28 / 2 ^ 28) → v ≡ with_kind 3 (x / 2 ^ 28) → w ≡ with_kind 3 x
    → Stored b b₁ k (u ∷ []) → Stored b₁ b₂ (k + 1) (v ∷ []) → Stored b₂ b₃ (k + 2) (w ∷ []) → Stored b b₃ k (value.to x)
unfolding value plain
value_stored {k = k} x eu ev ew p q r = rw (← eu, ← ev, ← ew) (after (k + 2) (omega arith) (after (k + 1) (omega arith) p q) r)

pub pair_stored : {b b₁ b₂ b₃ : List ℕ} (t n l i : ℕ) → Stored b b₁ 0 (head.to (record { type = t; session = n })) → Stored b₁ b₂ 1 (number.to l)
    → Stored b₂ b₃ 2 (value.to i) → Stored b b₃ 0 (headed t n (number.to l ++ value.to i))
unfolding headed one value
pair_stored t n l i p q r = after 2 refl (after 1 refl p q) r

-- Words stored in a loop: what is still to do, done, gives the whole.
pub record Filled (b₀ b : List ℕ) (from k : ℕ) (todo all : List ℕ) : Type 0 where
  pub same : length b ≡ length b₀
  pub rest : (end : List ℕ) → Stored b end k todo → Stored b₀ end from all

pub filled_none : (b : List ℕ) (from : ℕ) (all : List ℕ) → Filled b b from from all all
filled_none b from all = record { same = refl; rest = λ end p. p }

pub filled_more : {b₀ b b' : List ℕ} {from k : ℕ} (j : ℕ) {ws before todo all : List ℕ} → before ≡ ws ++ todo → j ≡ k + length ws
    → Filled b₀ b from k before all → Stored b b' k ws → Filled b₀ b' from j todo all
filled_more j {ws} {before} {todo} e p f q =
    record { same = q.same ∙ f.same; rest = λ end r. f.rest end (rw e (after j p q r)) }

pub filled_done : {b₀ b : List ℕ} {from k : ℕ} {todo all : List ℕ} → todo ≡ [] → Filled b₀ b from k todo all → Stored b₀ b from all
filled_done {b = b} {k = k} e f = f.rest b (rw e (stored_none b k))

-- The bytes of a text.
module _ (text : List ℕ) (i r : ℕ) where
  pub one_left : length text - i ≡ 1 → r ≡ word_of_bytes 1 (get_or text i 0) 0 0 → text_to (drop i text) ≡ r ∷ text_to (drop (i + 3) text)
  unfolding text_to
  one_left h e =
      rw (
        drop-cons text i 0 (omega arith),
        drop_of_length-le text {i = suc i} (omega arith),
        drop_of_length-le text {i = i + 3} (omega arith),
        e,
      )

  pub two_left : length text - i ≡ 2 → r ≡ word_of_bytes 2 (get_or text i 0) (get_or text (i + 1) 0) 0 → text_to (drop i text) ≡ r ∷ text_to (drop (i + 3) text)
  unfolding text_to
  two_left h e =
      rw (
        drop-cons text i 0 (omega arith),
        drop-cons text (suc i) 0 (omega arith),
        drop_of_length-le text {i = suc (suc i)} (omega arith),
        drop_of_length-le text {i = i + 3} (omega arith),
        e,
        add-one i,
      )

  pub three_left : i + 3 ≤ length text → r ≡ word_of_bytes 3 (get_or text i 0) (get_or text (i + 1) 0) (get_or text (i + 2) 0)
      → text_to (drop i text) ≡ r ∷ text_to (drop (i + 3) text)
  unfolding text_to
  three_left h e =
      rw (drop-cons text i 0 (omega arith), drop-cons text (suc i) 0 (omega arith), drop-cons text (suc (suc i)) 0 (omega arith), e) (simp towards_suc)

pub no_text : (text : List ℕ) (i : ℕ) → length text ≤ i → text_to (drop i text) ≡ []
unfolding text_to
no_text text i h = rw (drop_of_length-le text {i = i} h)

pub length-text : (text : List ℕ) → length (text_to text) ≡ (length text + 2) / 3
unfolding text_to
length-text [] = refl
length-text (a ∷ []) = refl
length-text (a ∷ b ∷ []) = refl
length-text (a ∷ b ∷ c ∷ rest) = let n = length-text rest in omega arith

-- Rows.
pub row_more : (count i : ℕ) (rows : List ℕ) → i < count
    → values_to (first_rows (count - i) i rows) ≡ value.to (get_or rows i 0) ++ values_to (first_rows (count - (i + 1)) (i + 1) rows)
unfolding first_rows values_to
row_more count i rows h =
    ap (λ (n : ℕ). values_to (first_rows n i rows)) {x = count - i} {y = suc (count - (i + 1))} (omega arith)

pub no_row : (count i : ℕ) (rows : List ℕ) → count ≤ i → values_to (first_rows (count - i) i rows) ≡ []
unfolding first_rows values_to
no_row count i rows h = ap (λ (n : ℕ). values_to (first_rows n i rows)) {x = count - i} {y = 0} (omega arith)

pub length-value : (x : ℕ) → length (value.to x) ≡ 3
unfolding value
length-value x = refl

pub length_rows : (count i : ℕ) (rows : List ℕ) → length (values_to (first_rows count i rows)) ≡ count * 3
unfolding first_rows values_to
length_rows zero i rows = refl
length_rows (suc count) i rows =
    let n = length_rows count (i + 1) rows in
    length-append (value.to (get_or rows i 0)) _ ∙ omega (arith, length-value (get_or rows i 0))

-- References.
pub reference_more : (indexes counts : List ℕ) (i w : ℕ) → i < min (length indexes) (length counts)
    → w ≡ with_kind 4 (get_or indexes i 0 % 2 ^ 28 * 64 + get_or counts i 0 % 2 ^ 28)
    → many_to reference_word (paired (drop i indexes) (drop i counts)) ≡ w ∷ many_to reference_word (paired (drop (i + 1) indexes) (drop (i + 1) counts))
unfolding many_to paired reference_word with_kind
reference_more indexes counts i w h is =
    let x = get_or indexes i 0 in
    let y = get_or counts i 0 in
    let e : with_kind 4 (x * 64 + y) ≡ w = omega arith in
    rw (drop-cons indexes i 0 (omega arith), drop-cons counts i 0 (omega arith), e, add-one i)

pub no_more : (indexes counts : List ℕ) (i : ℕ) → min (length indexes) (length counts) ≤ i → many_to reference_word (paired (drop i indexes) (drop i counts)) ≡ []
unfolding many_to paired
no_more indexes counts i h = elim (dec_le (length indexes) i) [
  | yes out ↦ rw (drop_of_length-le indexes {i = i} out)
  | no here ↦ rw (drop-cons indexes i 0 (omega arith), drop_of_length-le counts {i = i} (omega arith))
]

pub filled_start : (b : List ℕ) (from count : ℕ) (rows : List ℕ)
    → Filled b b from (from + 0 * 3) (values_to (first_rows (count - 0) 0 rows)) (values_to (first_rows count 0 rows))
filled_start b from count rows = rw (add-zero from, sub-zero count) (filled_none b from (values_to (first_rows count 0 rows)))

pub filled_row : (b₀ b b' : List ℕ) (from count i : ℕ) (rows : List ℕ) {x : ℕ} → i < count → x ≡ get_or rows i 0
    → Filled b₀ b from (from + i * 3) (values_to (first_rows (count - i) i rows)) (values_to (first_rows count 0 rows)) → Stored b b' (from + i * 3) (value.to x)
    → Filled b₀ b' from (from + (i + 1) * 3) (values_to (first_rows (count - (i + 1)) (i + 1) rows)) (values_to (first_rows count 0 rows))
filled_row b₀ b b' from count i rows {x} h e f p =
    filled_more (from + (i + 1) * 3)
    (row_more count i rows h ∙ ap (λ (y : ℕ). value.to y ++ values_to (first_rows (count - (i + 1)) (i + 1) rows)) (sym e)) (omega (arith, length-value x)) f p

pub filled_first : (b : List ℕ) (from : ℕ) (all : List ℕ) → Filled b b from (from + 0) all all
filled_first b from all = rw (add-zero from) (filled_none b from all)

-- Each message from its parts.
pub opening_query_size : (n : ℕ) → 2 ≡ size_of (opening_query n)
unfolding size_of words_then headed one
opening_query_size n = refl

pub opening_query_stored : {b b₁ b₂ : List ℕ} (n : ℕ) → Stored b b₁ 0 (head.to (record { type = 1; session = n })) → Stored b₁ b₂ 1 (end_word 2 ∷ [])
    → Stored b b₂ 0 (encode_words (opening_query n))
unfolding encode_words size_of words_then headed one
opening_query_stored n p q = after 1 refl p q

-- A message that says only a node's level and id.
module _ (n l i : ℕ) where
  pub pair_size : (t : ℕ) → length (pair_bytes t n l i) ≡ 24
  unfolding pair_bytes headed one value
  pair_size t = length_bytes _

  pub pair_written : {b b₁ b₂ : List ℕ} (t : ℕ) → 6 ≤ length b / 4 → Stored b b₁ 0 (headed t n (number.to l ++ value.to i))
      → Stored b₁ b₂ 5 (end_word 6 ∷ []) → Written b b₂ (pair_bytes t n l i) (2 ^ 32 + 24)
  unfolding pair_bytes headed one value
  pair_written t h p q = words_fit _ _ _ 6 refl h (after 5 refl p q)

  pub pair_full : (b : List ℕ) (t : ℕ) → length b / 4 < 6 → Written b b (pair_bytes t n l i) 20
  pair_full b t h =
      let long = pair_size t in
      let no = lt-leb (length (pair_bytes t n l i)) (length b) (omega arith) in
      record { answer_is = rw no; buffer_is = rw no }

  pub pair_node_query : pair_bytes 2 n l i ≡ encode (node_query n l i)
  unfolding pair_bytes encode encode_words size_of words_then headed one value
  pair_node_query = refl

  pub pair_no_node : pair_bytes 6 n l i ≡ encode (no_node n l i)
  unfolding pair_bytes encode encode_words size_of words_then headed one value
  pair_no_node = refl

pub literal_size : (n l i : ℕ) (bytes : List ℕ) → (length bytes + 2) / 3 + 6 ≡ size_of (literal n l i bytes)
unfolding size_of words_then headed one value text
literal_size n l i bytes = rw (append-nil (text_to bytes), length-text bytes) (omega arith)

pub literal_stored : {b b₁ b₂ b₃ : List ℕ} (n l i words : ℕ) (bytes : List ℕ) → words ≡ (length bytes + 2) / 3
    → Stored b b₁ 0 (headed 5 n (number.to l ++ value.to i)) → Stored b₁ b₂ 5 (text_to bytes) → Stored b₂ b₃ (words + 5) (end_word (words + 5 + 1) ∷ [])
    → Stored b b₃ 0 (encode_words (literal n l i bytes))
unfolding encode_words words_then headed one value text
literal_stored n l i words bytes e p q r =
    let size : size_of (literal n l i bytes) ≡ words + 5 + 1 = sym (literal_size n l i bytes) ∙ omega arith in
    rw size (after (words + 5) (omega (arith, length-text bytes)) (after 5 refl p q) r)

pub length-paired : (indexes counts : List ℕ) → length (many_to reference_word (paired indexes counts)) ≡ min (length indexes) (length counts)
unfolding many_to paired
length-paired [] counts = omega arith
length-paired (x ∷ xs) [] = omega arith
length-paired (x ∷ xs) (y ∷ ys) = let n = length-paired xs ys in omega arith

-- The trail number, there or left out.
pub references_low : (numbered : Bool) → references_at numbered ≤ 6
references_low true = omega arith
references_low false = omega arith

pub trail_number_stored : {b b' : List ℕ} (x : ℕ) → Stored b b' 5 (number.to x) → Stored b b' 5 (maybe_number.to (stated_by (Some x)))
unfolding maybe maybe_to one
trail_number_stored x p = p

pub no_trail_number_stored : (b : List ℕ) → Stored b b 5 (maybe_number.to (stated_by None))
unfolding maybe maybe_to
no_trail_number_stored b = stored_none b 5

module _ (n l i : ℕ) (indexes counts : List ℕ) where
  abbrev pub composed : Option ℕ → Msg
  composed trail = composition n l i (stated_by trail) (paired indexes counts)

  length_trail_number : (trail : Option ℕ) → 5 + length (maybe_number.to (stated_by trail)) ≡ references_at (is_some trail)
  unfolding maybe maybe_to
  length_trail_number (Some x) = refl
  length_trail_number None = refl

  pub composition_size : (trail : Option ℕ) → min (length indexes) (length counts) + references_at (is_some trail) + 1 ≡ size_of (composed trail)
  unfolding size_of words_then headed one value only many maybe
  composition_size trail =
      let words = length-append (maybe_number.to (stated_by trail)) (many_to reference_word (paired indexes counts)) in
      rw (append-nil (many_to reference_word (paired indexes counts)), words) (omega (arith, length_trail_number trail, length-paired indexes counts))

  pub composition_stored : {b b₁ b₂ b₃ b₄ : List ℕ} (trail : Option ℕ) (from words : ℕ) → from ≡ references_at (is_some trail) → words ≡ min (length indexes) (length counts)
      → Stored b b₁ 0 (headed 4 n (number.to l ++ value.to i)) → Stored b₁ b₂ 5 (maybe_number.to (stated_by trail))
      → Stored b₂ b₃ from (many_to reference_word (paired indexes counts)) → Stored b₃ b₄ (words + from) (end_word (words + from + 1) ∷ [])
      → Stored b b₄ 0 (encode_words (composed trail))
  unfolding encode_words words_then headed one value only many maybe maybe_to
  composition_stored (Some x) from words f e p q r t =
      let size : size_of (composed (Some x)) ≡ words + from + 1 = sym (composition_size (Some x)) ∙ omega (arith, f, e) in
      rw size (after (words + from) (omega (arith, length-paired indexes counts)) (after from f (after 5 refl p q) r) t)
  composition_stored None from words f e p q r t =
      let size : size_of (composed None) ≡ words + from + 1 = sym (composition_size None) ∙ omega (arith, f, e) in
      rw size (after (words + from) (omega (arith, length-paired indexes counts)) (after from f (after 5 refl p q) r) t)

pub front_stored : {b b₁ b₂ b₃ b₄ b₅ : List ℕ} (n rule w p L : ℕ) → Stored b b₁ 0 (head.to (record { type = 3; session = n })) → Stored b₁ b₂ 1 (number.to rule)
    → Stored b₂ b₃ 2 (number.to w) → Stored b₃ b₄ 3 (number.to p) → Stored b₄ b₅ 4 (number.to L)
    → Stored b b₅ 0 (headed 3 n (number.to rule ++ (number.to w ++ (number.to p ++ number.to L))))
unfolding headed one
front_stored n rule w p L s₁ s₂ s₃ s₄ s₅ = after 4 refl (after 3 refl (after 2 refl (after 1 refl s₁ s₂) s₃) s₄) s₅

pub middle_stored : {b b₁ b₂ b₃ b₄ : List ℕ} (M q len root : ℕ) → Stored b b₁ 5 (number.to M) → Stored b₁ b₂ 6 (number.to q)
    → Stored b₂ b₃ 7 (number.to len) → Stored b₃ b₄ 8 (value.to root)
    → Stored b b₄ 5 (number.to M ++ (number.to q ++ (number.to len ++ value.to root)))
unfolding one value
middle_stored M q len root s₁ s₂ s₃ s₄ = after 8 refl (after 7 refl (after 6 refl s₁ s₂) s₃) s₄

module _ (n rule w p L M q len root : ℕ) (rows : List ℕ) where
  pub opening_size : q * 3 * 5 * 3 + 12 ≡ size_of (opening n rule w p L M q len root (first_rows (q * 3 * 5) 0 rows))
  unfolding size_of words_then headed one value values
  opening_size = rw (append-nil (values_to (first_rows (q * 3 * 5) 0 rows)), length_rows (q * 3 * 5) 0 rows) (omega arith)

  pub opening_stored : {b b₁ b₂ b₃ b₄ : List ℕ} → Stored b b₁ 0 (headed 3 n (number.to rule ++ (number.to w ++ (number.to p ++ number.to L))))
      → Stored b₁ b₂ 5 (number.to M ++ (number.to q ++ (number.to len ++ value.to root)))
      → Stored b₂ b₃ 11 (values_to (first_rows (q * 3 * 5) 0 rows)) → Stored b₃ b₄ (q * 3 * 5 * 3 + 11) (end_word (q * 3 * 5 * 3 + 11 + 1) ∷ [])
      → Stored b b₄ 0 (encode_words (opening n rule w p L M q len root (first_rows (q * 3 * 5) 0 rows)))
  unfolding encode_words words_then headed one value values
  opening_stored s₁ s₂ s₃ s₄ =
      let size : size_of (opening n rule w p L M q len root (first_rows (q * 3 * 5) 0 rows)) ≡ q * 3 * 5 * 3 + 11 + 1 = sym opening_size ∙ omega arith in
      rw size (after (q * 3 * 5 * 3 + 11) (omega (arith, length_rows (q * 3 * 5) 0 rows)) (after 11 refl (after 5 refl s₁ s₂) s₃) s₄)
