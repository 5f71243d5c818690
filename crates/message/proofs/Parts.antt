-- Laws of a message's parts by place: what `parse` gives for cells, references and bytes is what stands in the words.
use Rattle.std.proofs.Common.{Bool, true, false, cond, ◌&&◌, List, [], ◌∷◌, ◌++◌, ◌≡◌, refl, sym, ap, ◌∙◌, subst, ℕ, zero, suc, ◌+◌, ◌*◌, ◌-◌, ◌/◌, ◌%◌, ◌<◌, ◌≤◌, min, arith, eqb, length, get_or, set, take, drop, length-take, length-drop, drop_of_length-le, take_all, take-take, get_or-take, get_or-drop}
use Rattle.std.proofs.Math.Option.{none, some}
use Rattle.std.proofs.Math.Decide.{dec_le}
use Rattle.std.proofs.Math.ListN.{get_or-eq_default}
use Rattle.std.proofs.Math.Seq.{take-length, paste, paste-zero, paste-suc}
use Rattle.message.specs.Words.{Word, Ref, word_of, link_words, rest_of, reference_word, top_byte, middle_byte, low_byte, carries_three_bytes, carries_two_bytes, carries_one_byte, is_end_word}
use Rattle.message.specs.Fields.{one, maybe, maybe_of, head, number, value, values_of, many_from, text_from, text_after}
use Rattle.message.specs.Messages.{Msg, opening_query, node_query, literal, no_node, cell_values, body_of, parse_words, parse}
use Rattle.message.specs.Reading.{references_at, numbers_are, pair_is, opening_by_places}
use Rattle.message.specs.Parts.{cells_in, references_in, bytes_in, is_numbered, CellRead, ReferenceRead, three_each, fronted, Copied}
use Rattle.message.proofs.Words.{Bytes, length_words}
use Rattle.message.proofs.Fields.{was_taken, went, length_values}
use Rattle.message.proofs.Messages.{picked, none_is_none}
use Rattle.message.proofs.Reading.{value_in, no_value_value, cells_end, composed, references_end, opening_query_form, node_query_form, no_node_form, literal_form, composition_form, opening_form}

-- Where the parts of a message stand.
abbrev Placed : List ℕ → Msg → Type 0
Placed ws m =
    (cells_in m ≡ values_of (length (cells_in m)) (drop 11 ws)) × (references_in m ≡ take (length (references_in m)) (many_from reference_word (drop (references_at (is_numbered m)) ws)))
    × (bytes_in m ≡ take (length (bytes_in m)) (text_from (drop 5 ws)))

module _ (ws : List ℕ) where
  found_placed : (m found : Msg) (t : Bool) → cond t (some found) none ≡ some m → Placed ws found → Placed ws m
  found_placed m found t e p = let w = was_taken t (some found) m e in subst (Placed ws) (cc) p

  opening_placed : (n : ℕ) → Placed ws (opening_by_places ws n)
  unfolding cells_in references_in bytes_in opening_by_places
  opening_placed n =
      let q = number.of (drop 6 ws) in
      (ap (λ (k : ℕ). values_of k (drop 11 ws)) (sym (length_values (cell_values q) (drop 11 ws))), refl, refl)

  composition_placed : (c n x : ℕ) (numbered : Bool) → Placed ws (composed ws c n (cond numbered (some x) none) (references_at numbered))
  unfolding cells_in references_in bytes_in values_of is_numbered
  composition_placed c n x true = (refl, sym (take-length (many_from reference_word (drop 6 ws))), refl)
  composition_placed c n x false = (refl, sym (take-length (many_from reference_word (drop 5 ws))), refl)

  literal_placed : (n l i : ℕ) → Placed ws (literal n l i (text_from (drop 5 ws)))
  unfolding cells_in references_in bytes_in values_of
  literal_placed n l i = (refl, refl, sym (take-length (text_from (drop 5 ws))))

  query_placed : (n : ℕ) → Placed ws (opening_query n)
  unfolding cells_in references_in bytes_in values_of
  query_placed n = (refl, refl, refl)

  node_placed : (n l i : ℕ) → Placed ws (node_query n l i)
  unfolding cells_in references_in bytes_in values_of
  node_placed n l i = (refl, refl, refl)

  no_node_placed : (n l i : ℕ) → Placed ws (no_node n l i)
  unfolding cells_in references_in bytes_in values_of
  no_node_placed n l i = (refl, refl, refl)

  body_placed : (c n t : ℕ) (m : Msg) → body_of c n t (drop 1 ws) ≡ some m → Placed ws m
  unfolding body_of maybe maybe_of one
  body_placed c n t m e =
      picked (eqb t 1) _ _ e (λ is p. found_placed m _ (is_end_word c (drop 1 ws)) (sym (opening_query_form ws c n) ∙ p) (query_placed n)) λ e.
      picked (eqb t 2) _ _ e (λ is p. found_placed m _ (pair_is ws && is_end_word c (drop 5 ws)) (sym (node_query_form ws c n) ∙ p) (node_placed n (number.of (drop 1 ws)) (value.of (drop 2 ws)))) λ e.
      picked (eqb t 3) _ _ e (λ is p. found_placed m _ (numbers_are ws 1 7 && (value.is (drop 8 ws) && cells_end ws c n)) (sym (opening_form ws c n) ∙ p) (opening_placed n)) λ e.
      picked (eqb t 4) _ _ e
      (λ is p. found_placed m _ (pair_is ws && references_end ws c n (references_at (number.is (drop 5 ws)))) (sym (composition_form ws c n) ∙ p)
      (composition_placed c n (number.of (drop 5 ws)) (number.is (drop 5 ws)))) λ e.
      picked (eqb t 5) _ _ e (λ is p. found_placed m _ (pair_is ws && is_end_word c (text_after (drop 5 ws))) (sym (literal_form ws c n) ∙ p) (literal_placed n (number.of (drop 1 ws)) (value.of (drop 2 ws)))) λ e.
      picked (eqb t 6) _ _ e (λ is p. found_placed m _ (pair_is ws && is_end_word c (drop 5 ws)) (sym (no_node_form ws c n) ∙ p) (no_node_placed n (number.of (drop 1 ws)) (value.of (drop 2 ws)))) λ e.
      absurd (none_is_none e)

placed : (s : List ℕ) (m : Msg) → parse s ≡ some m → Placed (link_words s) m
unfolding parse parse_words one
placed s m e =
    let w = was_taken (eqb (length s % 4) 0) (parse_words (link_words s)) m e in
    let h = head.of (link_words s) in
    body_placed (link_words s) (length (link_words s)) h.session h.type m (went head (link_words s) _ m w.1)

-- Cells.
pub cell_read : (s : List ℕ) (at k r : ℕ) → r ≡ value.of (drop (at + k * 3) (link_words s)) → CellRead s at k r
cell_read s at k r e =
    record {
      stands = e;
      read = λ m p is h.
          e ∙ (ap (λ (n : ℕ). value.of (drop (n + k * 3) (link_words s))) is
          ∙ (sym (value_in (length (cells_in m)) (link_words s) 11 k h) ∙ ap (λ (l : List ℕ). get_or l k 0) (sym (placed s m p).0)));
    }

pub no_cell : (s : List ℕ) (at k : ℕ) → length s / 4 ≤ at + k * 3 → CellRead s at k 0
no_cell s at k h = cell_read s at k 0 (no_value_value s (at + k * 3) h)

-- References.
module _ {A : Type 0} (W : Word A) (d : A) where
  many_at_step : (w : ℕ) (ws : List ℕ) (k : ℕ) (t : Bool) → ((j : ℕ) → j < length (many_from W ws) → get_or (many_from W ws) j d ≡ W.of (get_or ws j 0))
      → k < length (cond t (W.of w ∷ many_from W ws) []) → get_or (cond t (W.of w ∷ many_from W ws) []) k d ≡ W.of (get_or (w ∷ ws) k 0)
  many_at_step w ws zero true ih h = refl
  many_at_step w ws (suc k) true ih h = ih k (omega arith)
  many_at_step w ws k false ih h = absurd (omega arith)

  many_at : (ws : List ℕ) (k : ℕ) → k < length (many_from W ws) → get_or (many_from W ws) k d ≡ W.of (get_or ws k 0)
  unfolding many_from
  many_at [] k h = absurd (omega arith)
  many_at (w ∷ ws) k h = many_at_step w ws k (W.is w) (λ j. many_at ws j) h

front_at : {A : Type 0} (xs ys : List A) (k : ℕ) (d : A) → xs ≡ take (length xs) ys → k < length xs → (k < length ys) × (get_or xs k d ≡ get_or ys k d)
front_at xs ys k d e h =
    let long = ap length e ∙ length-take (length xs) ys in
    (omega arith, ap (λ (l : List _). get_or l k d) e ∙ get_or-take (length xs) ys k d h)

pub reference_read : (s : List ℕ) (at k : ℕ) (r : Ref) → r ≡ reference_word.of (get_or (link_words s) (at + k) 0) → ReferenceRead s at k r
reference_read s at k r e =
    record {
      stands = e;
      read = λ m p is h.
          let from = references_at (is_numbered m) in
          let f = front_at (references_in m) (many_from reference_word (drop from (link_words s))) k (record { index = 0; count = 0 }) (placed s m p).1 h in
          e ∙ (ap (λ (n : ℕ). reference_word.of (get_or (link_words s) (n + k) 0)) is
          ∙ (ap (λ (w : ℕ). reference_word.of w) (sym (get_or-drop from (link_words s) k 0))
          ∙ (sym (many_at reference_word (record { index = 0; count = 0 }) (drop from (link_words s)) k f.0) ∙ sym f.1)));
    }

pub no_reference : (s : List ℕ) (at k : ℕ) → length s / 4 ≤ at + k → ReferenceRead s at k (record { index = 0; count = 0 })
unfolding reference_word rest_of
no_reference s at k h =
    reference_read s at k (record { index = 0; count = 0 })
    (rw (get_or-eq_default (link_words s) 0 {n = at + k} (simp length_words h)))

-- The bytes of a literal.
text_front_step : (w : ℕ) (ws : List ℕ) (t3 t2 t1 : Bool) → text_from ws ≡ take (length (text_from ws)) (three_each ws)
    → cond t3 (top_byte w ∷ middle_byte w ∷ low_byte w ∷ text_from ws) (cond t2 (top_byte w ∷ middle_byte w ∷ []) (cond t1 (top_byte w ∷ []) []))
    ≡ take (length (cond t3 (top_byte w ∷ middle_byte w ∷ low_byte w ∷ text_from ws) (cond t2 (top_byte w ∷ middle_byte w ∷ []) (cond t1 (top_byte w ∷ []) []))))
    (top_byte w ∷ middle_byte w ∷ low_byte w ∷ three_each ws)
text_front_step w ws true t2 t1 ih = ap (λ (l : List ℕ). top_byte w ∷ middle_byte w ∷ low_byte w ∷ l) ih
text_front_step w ws false true t1 ih = refl
text_front_step w ws false false true ih = refl
text_front_step w ws false false false ih = refl

text_front : (ws : List ℕ) → text_from ws ≡ take (length (text_from ws)) (three_each ws)
unfolding text_from three_each
text_front [] = refl
text_front (w ∷ ws) = text_front_step w ws (carries_three_bytes w) (carries_two_bytes w) (carries_one_byte w) (text_front ws)

pub copied : (s : List ℕ) (at count : ℕ) (before after : List ℕ) → after ≡ fronted (take count (three_each (drop at (link_words s)))) before
    → Copied s at count before after
unfolding fronted
copied s at count before after e =
    record {
      stands = e;
      read = λ m p is n h.
          let bytes = bytes_in m in
          let all = three_each (drop 5 (link_words s)) in
          let found = text_from (drop 5 (link_words s)) in
          let long = ap length (placed s m p).2 ∙ length-take (length bytes) found in
          let same : take count all ≡ bytes =
          sym ((placed s m p).2 ∙ (ap (take (length bytes)) (text_front (drop 5 (link_words s)))
          ∙ (take-take (length bytes) (length found) all (omega arith) ∙ ap (λ (k : ℕ). take k all) (sym n)))) in
          e ∙ rw (is, same, take_all (length before) bytes (omega arith), ← n);
    }

pub length_three : (ws : List ℕ) → length (three_each ws) ≡ length ws * 3
unfolding three_each
length_three [] = refl
length_three (w ∷ ws) = let n = length_three ws in omega arith

four_more : (k : ℕ) → suc k * 4 ≡ suc (suc (suc (suc (k * 4))))
four_more k = omega arith

drop_words : (k : ℕ) (s : List ℕ) → drop k (link_words s) ≡ link_words (drop (k * 4) s)
unfolding link_words
drop_words zero s = refl
drop_words (suc k) [] = rw (four_more k)
drop_words (suc k) (a ∷ []) = rw (four_more k)
drop_words (suc k) (a ∷ b ∷ []) = rw (four_more k)
drop_words (suc k) (a ∷ b ∷ c ∷ []) = rw (four_more k)
drop_words (suc k) (a ∷ b ∷ c ∷ d ∷ rest) = rw (four_more k) (drop_words k rest)

three_of : (a b c d : ℕ) → b < 256 → c < 256 → d < 256
    → (top_byte (word_of a b c d) ≡ b) × (middle_byte (word_of a b c d) ≡ c) × (low_byte (word_of a b c d) ≡ d)
unfolding top_byte middle_byte low_byte rest_of
three_of a b c d hb hc hd = omega arith

byte_in : (s : List ℕ) → Bytes s → (j : ℕ) → j < length (three_each (link_words s)) → get_or (three_each (link_words s)) j 0 ≡ get_or s (1 + j + j / 3) 0
unfolding link_words three_each
byte_in [] h j l = absurd (omega arith)
byte_in (a ∷ []) h j l = absurd (omega arith)
byte_in (a ∷ b ∷ []) h j l = absurd (omega arith)
byte_in (a ∷ b ∷ c ∷ []) h j l = absurd (omega arith)
byte_in (a ∷ b ∷ c ∷ d ∷ rest) h zero l = (three_of a b c d h.1.0 h.1.1.0 h.1.1.1.0).0
byte_in (a ∷ b ∷ c ∷ d ∷ rest) h (suc zero) l = (three_of a b c d h.1.0 h.1.1.0 h.1.1.1.0).1
byte_in (a ∷ b ∷ c ∷ d ∷ rest) h (suc (suc zero)) l = (three_of a b c d h.1.0 h.1.1.0 h.1.1.1.0).2
byte_in (a ∷ b ∷ c ∷ d ∷ rest) h (suc (suc (suc j))) l =
    let place : suc (suc (suc (suc (1 + j + j / 3)))) ≡ 1 + suc (suc (suc j)) + suc (suc (suc j)) / 3 = omega arith in
    byte_in rest h.1.1.1.1 j (omega arith) ∙ ap (λ (n : ℕ). get_or (a ∷ b ∷ c ∷ d ∷ rest) n 0) place

every_drop : (n : ℕ) (s : List ℕ) → Bytes s → Bytes (drop n s)
every_drop zero s b = b
every_drop (suc n) [] b = tt
every_drop (suc n) (x ∷ s) b = every_drop n s b.1

module _ (s : List ℕ) (at : ℕ) where
  pub no_room : length s / 4 ≤ at → 0 ≡ length (three_each (drop at (link_words s)))
  unfolding three_each
  no_room h = rw (drop_of_length-le (link_words s) {i = at} (simp length_words h))

  pub room_is : length (three_each (drop at (link_words s))) ≡ (length s / 4 - at) * 3
  room_is = length_three (drop at (link_words s)) ∙ ap (λ (n : ℕ). n * 3) (length-drop at (link_words s) ∙ ap (λ (n : ℕ). n - at) (length_words s))

  pub byte_of : Bytes s → (j : ℕ) → j < length (three_each (drop at (link_words s)))
      → get_or s (at * 4 + (1 + j + j / 3)) 0 ≡ get_or (three_each (drop at (link_words s))) j 0
  byte_of b j h =
      sym (get_or-drop (at * 4) s (1 + j + j / 3) 0)
      ∙ (sym (byte_in (drop (at * 4) s) (every_drop (at * 4) s b) j (rw (← drop_words at s) h))
      ∙ ap (λ (ws : List ℕ). get_or (three_each ws) j 0) (sym (drop_words at s)))

take_least : (n : ℕ) (l : List ℕ) → take n l ≡ take (min n (length l)) l
take_least n l = elim (dec_le n (length l)) [
  | yes h ↦ ap (λ (k : ℕ). take k l) {x = n} {y = min n (length l)} (omega arith)
  | no h ↦ take_all n l (omega arith) ∙ sym (take_all (min n (length l)) l (omega arith))
]

drop_least : (n m : ℕ) (l : List ℕ) → min m (length l) ≡ min n (length l) → drop m l ≡ drop n l
drop_least n m l e = elim (dec_le (length l) n) [
  | yes h ↦ drop_of_length-le l {i = m} (omega arith) ∙ sym (drop_of_length-le l {i = n} h)
  | no h ↦ ap (λ (k : ℕ). drop k l) {x = m} {y = n} (omega arith)
]

pub copy_end : (bytes before after : List ℕ) (count end : ℕ) → end ≡ min (min count (length before)) (length bytes)
    → after ≡ paste before 0 bytes end → after ≡ fronted (take count bytes) before
unfolding fronted
copy_end bytes before after count end e p =
    let long = length-take count bytes in
    let fronts : take (length before) (take count bytes) ≡ take end bytes =
    take_least (length before) (take count bytes)
    ∙ (take-take (min (length before) (length (take count bytes))) count bytes (omega arith) ∙ ap (λ (k : ℕ). take k bytes) {x = min (length before) (length (take count bytes))} {y = end} (omega arith)) in
    let rests : drop (length (take count bytes)) before ≡ drop (0 + end) before = drop_least (0 + end) (length (take count bytes)) before (omega arith) in
    p ∙ sym (ap (λ (l : List ℕ). l ++ drop (length (take count bytes)) before) fronts ∙ ap (λ (l : List ℕ). take end bytes ++ l) rests)

pub copy_more : (bytes before now : List ℕ) (j b : ℕ) → j < length before → j < length bytes → now ≡ paste before 0 bytes j → b ≡ get_or bytes j 0
    → set now j b ≡ paste before 0 bytes (j + 1)
copy_more bytes before now j b h l e is =
    let at : j ≡ 0 + j = omega arith in
    let next : suc j ≡ j + 1 = omega arith in
    ap (λ (t : List ℕ). set t j b) e
    ∙ (ap (λ (x : ℕ). set (paste before 0 bytes j) j x) is
    ∙ (ap (λ (k : ℕ). set (paste before 0 bytes j) k (get_or bytes j 0)) at
    ∙ (paste-suc before 0 bytes j 0 (omega arith) l ∙ ap (paste before 0 bytes) next)))

pub copy_none : (bytes before : List ℕ) → before ≡ paste before 0 bytes 0
copy_none bytes before = paste-zero before 0 bytes
