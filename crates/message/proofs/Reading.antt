-- Laws of reading by place: each field of a message stands at a known word, so a chain of fields is a row of tests on words, with the values by place.
use Rattle.std.proofs.Common.{Bool, true, false, cond, ◌&&◌, List, [], ◌∷◌, ◌≡◌, refl, sym, ap, ◌∙◌, ℕ, zero, suc, ◌+◌, ◌*◌, ◌-◌, ◌/◌, ◌<◌, ◌≤◌, max, add-zero, add-one, arith, le-leb, lt-ltb, leb, ltb, eqb, length, get_or, drop, length-drop, drop_of_length-le, get_or-drop, drop-drop, drop-cons}
use Rattle.std.proofs.Math.Bool.{and_assoc}
use Rattle.std.proofs.Math.Option.{Option, none, some}
use Rattle.std.specs.Prelude.{Option as Answer, None, Some, MatchOption}
use Rattle.std.specs.Option.{is_some}
use Rattle.std.proofs.lemmas.Bool.{lt-leb}
use Rattle.std.proofs.Math.Decide.{dec_le}
use Rattle.std.proofs.Math.ListN.{get_or-eq_default}
use Rattle.std.specs.List.{list_all, range_with_len}
use Rattle.message.specs.Words.{Word, Ref, link_words, kind_of, rest_of, plain, reference_word, carries_three_bytes, carries_two_bytes, carries_one_byte, carried_by, is_end_word}
use Rattle.message.specs.Fields.{Field, read, one, number, parts_test, parts_value, value, values_are, values_of, values_after, values, many, many_from, many_after, maybe_of, maybe_after, maybe, maybe_number, only, references, rising, text, text_from, text_after}
use Rattle.message.specs.Reading.{stated_by, references_at, numbers_are, Falls, References, Threes, Texts, pair_is, opening_by_places}
use Rattle.message.specs.Messages.{Msg, opening_query, node_query, composition, literal, no_node, cell_values, finish, body_of}
use Rattle.message.proofs.Words.{length_words}
use Rattle.message.proofs.Rising.{rising_from, rising_from_zero}

pub head_drop : (ws : List ℕ) (k : ℕ) → get_or (drop k ws) 0 0 ≡ get_or ws k 0
head_drop ws k = get_or-drop k ws 0 0 ∙ ap (λ (n : ℕ). get_or ws n 0) (add-zero k)

pub number_test : (ws : List ℕ) (k : ℕ) → number.is (drop k ws) ≡ eqb (kind_of (get_or ws k 0)) 2
unfolding one plain
number_test ws k = rw (head_drop ws k)

pub number_value : (ws : List ℕ) (k : ℕ) → number.of (drop k ws) ≡ rest_of (get_or ws k 0)
unfolding one plain
number_value ws k = rw (head_drop ws k)

pub value_test : (ws : List ℕ) (k : ℕ) → value.is (drop k ws) ≡ parts_test (get_or ws k 0) (get_or ws (k + 1) 0) (get_or ws (k + 2) 0)
unfolding value
value_test ws k = rw (head_drop ws k, get_or-drop k ws 1 0, get_or-drop k ws 2 0)

pub no_value : (s : List ℕ) (k : ℕ) → length s / 4 ≤ k → false ≡ value.is (drop k (link_words s))
unfolding value parts_test plain kind_of
no_value s k h = rw (drop_of_length-le (link_words s) {i = k} (simp length_words h))

pub value_by_parts : (ws : List ℕ) (k : ℕ) → value.of (drop k ws) ≡ parts_value (get_or ws k 0) (get_or ws (k + 1) 0) (get_or ws (k + 2) 0)
unfolding value
value_by_parts ws k = rw (head_drop ws k, get_or-drop k ws 1 0, get_or-drop k ws 2 0)

pub no_value_value : (s : List ℕ) (k : ℕ) → length s / 4 ≤ k → 0 ≡ value.of (drop k (link_words s))
unfolding value parts_value plain rest_of
no_value_value s k h = rw (drop_of_length-le (link_words s) {i = k} (simp length_words h))

pub end_test : (s : List ℕ) (k : ℕ)
    → is_end_word (length (link_words s)) (drop k (link_words s))
    ≡ (eqb (length s / 4 - k) 1 && (eqb (kind_of (get_or (link_words s) k 0)) 6 && eqb (rest_of (get_or (link_words s) k 0)) (length s / 4)))
unfolding is_end_word
end_test s k = rw (head_drop (link_words s) k, length-drop k (link_words s), length_words s)

-- The three laws of a run, one for each way that a turn can go.
pub drop_more : (ws : List ℕ) (k : ℕ) → k < length ws → drop k ws ≡ get_or ws k 0 ∷ drop (k + 1) ws
drop_more ws k h = drop-cons ws k 0 h ∙ ap (λ (n : ℕ). get_or ws k 0 ∷ drop n ws) (sym (add-one k))

-- Values.
pub value_after : (ws : List ℕ) (k : ℕ) → value.after (drop k ws) ≡ drop (k + 3) ws
unfolding value
value_after ws k = drop-drop 3 k ws

values_from : (n i at : ℕ) (ws : List ℕ) → list_all (λ k. value.is (drop (at + k * 3) ws)) (range_with_len i n) ≡ values_are n (drop (at + i * 3) ws)
unfolding values_are
values_from zero i at ws = refl
values_from (suc n) i at ws =
    ap (λ (t : Bool). value.is (drop (at + i * 3) ws) && t)
    (values_from n (i + 1) at ws
    ∙ (ap (λ (k : ℕ). values_are n (drop k ws)) {x = at + (i + 1) * 3} {y = at + i * 3 + 3} (omega arith)
    ∙ ap (values_are n) (sym (value_after ws (at + i * 3)))))

-- The tests one after the other.
pub values_all : (n at : ℕ) (ws : List ℕ) → list_all (λ k. value.is (drop (at + k * 3) ws)) (range_with_len 0 n) ≡ values_are n (drop at ws)
values_all n at ws = values_from n 0 at ws ∙ ap (λ (k : ℕ). values_are n (drop k ws)) {x = at + 0 * 3} {y = at} (omega arith)

pub values_after_lem : (n : ℕ) (ws : List ℕ) (k : ℕ) → values_after n (drop k ws) ≡ drop (k + n * 3) ws
unfolding values_after
values_after_lem zero ws k = ap (λ (m : ℕ). drop m ws) {x = k} {y = k + 0 * 3} (omega arith)
values_after_lem (suc n) ws k = rw (value_after ws k) (values_after_lem n ws (k + 3) ∙ ap (λ (m : ℕ). drop m ws) {x = k + 3 + n * 3} {y = k + suc n * 3} (omega arith))

pub value_in : (n : ℕ) (ws : List ℕ) (k j : ℕ) → j < n → get_or (values_of n (drop k ws)) j 0 ≡ value.of (drop (k + j * 3) ws)
unfolding values_of
value_in zero ws k j h = absurd (omega arith)
value_in (suc n) ws k zero h = ap (λ (m : ℕ). value.of (drop m ws)) {x = k} {y = k + 0 * 3} (omega arith)
value_in (suc n) ws k (suc j) h =
    rw (value_after ws k) (value_in n ws (k + 3) j (omega arith) ∙ ap (λ (m : ℕ). value.of (drop m ws)) {x = k + 3 + j * 3} {y = k + suc j * 3} (omega arith))

-- Words of one kind.
module _ {A : Type 0} (W : Word A) (ws : List ℕ) (k : ℕ) where
  pub many_more : k < length ws → W.is (get_or ws k 0) ≡ true → many_from W (drop k ws) ≡ W.of (get_or ws k 0) ∷ many_from W (drop (k + 1) ws)
  unfolding many_from
  many_more h e = rw (drop_more ws k h, e)

  pub many_after_more : k < length ws → W.is (get_or ws k 0) ≡ true → many_after W (drop k ws) ≡ many_after W (drop (k + 1) ws)
  unfolding many_after
  many_after_more h e = rw (drop_more ws k h, e)

  pub many_stop : k < length ws → W.is (get_or ws k 0) ≡ false → many_from W (drop k ws) ≡ []
  unfolding many_from
  many_stop h e = rw (drop_more ws k h, e)

  pub many_after_stop : k < length ws → W.is (get_or ws k 0) ≡ false → many_after W (drop k ws) ≡ drop k ws
  unfolding many_after
  many_after_stop h e = rw (drop_more ws k h, e)

  pub many_out : length ws ≤ k → many_from W (drop k ws) ≡ []
  unfolding many_from
  many_out h = rw (drop_of_length-le ws {i = k} h)

  pub many_after_out : length ws ≤ k → many_after W (drop k ws) ≡ drop k ws
  unfolding many_after
  many_after_out h = rw (drop_of_length-le ws {i = k} h)

-- The run of references up to place k has risen, and goes on to rise if what is still to come does from index `least` on.
pub record Risen (ws : List ℕ) (at k least : ℕ) : Type 0 where
  pub rises : rising (many_from reference_word (drop at ws)) ≡ rising_from least (many_from reference_word (drop k ws))
  pub count : at + length (many_from reference_word (drop at ws)) ≡ k + length (many_from reference_word (drop k ws))
  pub after : many_after reference_word (drop at ws) ≡ many_after reference_word (drop k ws)

pub risen_none : (ws : List ℕ) (at : ℕ) → Risen ws at at 0
risen_none ws at = record { rises = rising_from_zero (many_from reference_word (drop at ws)); count = refl; after = refl }

module _ (ws : List ℕ) (at k least : ℕ) (m : Risen ws at k least) where
  module _ (w : ℕ) (h : k < length ws) (here : w ≡ get_or ws k 0) (e : true ≡ reference_word.is w) where
    met : many_from reference_word (drop k ws) ≡ reference_word.of w ∷ many_from reference_word (drop (k + 1) ws)
    met = rw here (many_more reference_word ws k h (rw (← here) (sym e)))

    first_met : rising_from least (many_from reference_word (drop k ws))
        ≡ (leb least (rest_of w / 64) && rising_from (suc (rest_of w / 64)) (many_from reference_word (drop (k + 1) ws)))
    unfolding rising_from reference_word
    first_met = ap (rising_from least) met

    pub risen_more : (next : ℕ) → least ≤ rest_of w / 64 → next ≡ rest_of w / 64 + 1 → Risen ws at (k + 1) next
    risen_more next above is =
        let n = m.count in
        let c = ap length met in
        record {
          rises = m.rises ∙ (first_met ∙ rw (le-leb least (rest_of w / 64) above, is, add-one (rest_of w / 64)));
          count = omega arith;
          after = m.after ∙ many_after_more reference_word ws k h (rw (← here) (sym e));
        }

    pub risen_falls : rest_of w / 64 < least → Falls ws at
    risen_falls under = record { falls = m.rises ∙ (first_met ∙ rw (lt-leb least (rest_of w / 64) under)) }

  ended : many_from reference_word (drop k ws) ≡ [] → many_after reference_word (drop k ws) ≡ drop k ws → References ws at k
  unfolding rising_from
  ended over stop =
      let n = m.count in
      let z = ap length over in
      record { rises = m.rises ∙ rw over; count = omega arith; after = m.after ∙ stop }

  pub risen_stop : (w : ℕ) → k < length ws → w ≡ get_or ws k 0 → false ≡ reference_word.is w → References ws at k
  risen_stop w h here e =
      let no : reference_word.is (get_or ws k 0) ≡ false = rw (← here) (sym e) in
      ended (many_stop reference_word ws k h no) (many_after_stop reference_word ws k h no)

  pub risen_out : length ws ≤ k → References ws at k
  risen_out h = ended (many_out reference_word ws k h) (many_after_out reference_word ws k h)

-- All words were met, or none, where there are none from place `at` on.
pub risen_last : (ws : List ℕ) (at k least words end : ℕ) → Risen ws at k least → words ≡ length ws → words ≤ k → (at ≤ words → k ≤ words) → end ≡ max at words
    → References ws at end
risen_last ws at k least words end m n out in_words is = elim (dec_le at words) [
  | yes h ↦ let same : end ≡ k = omega (arith, in_words h) in rw same (risen_out ws at k least m (omega arith))
  | no h ↦ let same : end ≡ at = omega arith in rw same (risen_out ws at at 0 (risen_none ws at) (omega arith))
]

-- The words of a literal.
pub threes_none : (ws : List ℕ) (at : ℕ) → Threes ws at at
threes_none ws at = record { low = omega arith; high = omega arith; count = omega arith; after = refl }

text_more : (ws : List ℕ) (k : ℕ) → k < length ws → carries_three_bytes (get_or ws k 0) ≡ true
    → (length (text_from (drop k ws)) ≡ 3 + length (text_from (drop (k + 1) ws))) × (text_after (drop k ws) ≡ text_after (drop (k + 1) ws))
unfolding text_from text_after
text_more ws k h e = (rw (drop_more ws k h, e) (omega arith), rw (drop_more ws k h, e))

pub threes_more : (ws : List ℕ) (at k : ℕ) → Threes ws at k → k < length ws → true ≡ carries_three_bytes (get_or ws k 0) → Threes ws at (k + 1)
threes_more ws at k t h e =
    let low = t.low in
    let count = t.count in
    let more = text_more ws k h (sym e) in
    record { low = omega arith; high = omega arith; count = omega (arith, more.0); after = t.after ∙ more.1 }

-- What a word carries says which test holds.
full_tests : (t3 t2 t1 : Bool) → 3 ≤ cond t3 3 (cond t2 2 (cond t1 1 0)) → t3 ≡ true
full_tests true t2 t1 h = refl
full_tests false true t1 h = absurd (omega arith)
full_tests false false true h = absurd (omega arith)
full_tests false false false h = absurd (omega arith)

short_tests : (t3 t2 t1 : Bool) → cond t3 3 (cond t2 2 (cond t1 1 0)) < 3 → t3 ≡ false
short_tests true t2 t1 h = absurd (omega arith)
short_tests false t2 t1 h = refl

most_tests : (t3 t2 t1 : Bool) → cond t3 3 (cond t2 2 (cond t1 1 0)) ≤ 3
most_tests true t2 t1 = omega arith
most_tests false true t1 = omega arith
most_tests false false true = omega arith
most_tests false false false = omega arith

pub full_word : (w : ℕ) → 3 ≤ carried_by w → true ≡ carries_three_bytes w
unfolding carried_by
full_word w h = sym (full_tests (carries_three_bytes w) (carries_two_bytes w) (carries_one_byte w) h)

pub short_word : (w : ℕ) → carried_by w < 3 → carries_three_bytes w ≡ false
unfolding carried_by
short_word w h = short_tests (carries_three_bytes w) (carries_two_bytes w) (carries_one_byte w) h

pub carried_most : (w : ℕ) → carried_by w ≤ 3
unfolding carried_by
carried_most w = most_tests (carries_three_bytes w) (carries_two_bytes w) (carries_one_byte w)

pub carried_in : (ws : List ℕ) (k : ℕ) → 0 < carried_by (get_or ws k 0) → k < length ws
unfolding carried_by carries_three_bytes carries_two_bytes carries_one_byte kind_of
carried_in ws k h = elim (dec_le (length ws) k) [
  | yes out ↦ absurd (let none = ap carried_by (get_or-eq_default ws 0 {n = k} out) in omega arith)
  | no here ↦ omega arith
]

pub no_three : (ws : List ℕ) (k : ℕ) → length ws ≤ k → carries_three_bytes (get_or ws k 0) ≡ false
unfolding carries_three_bytes kind_of
no_three ws k h = rw (get_or-eq_default ws 0 {n = k} h)

-- A word with fewer than three bytes is the last.
last_tests : (w : ℕ) (rest : List ℕ) (t2 t1 : Bool) → carries_three_bytes w ≡ false → carries_two_bytes w ≡ t2 → carries_one_byte w ≡ t1
    → (length (text_from (w ∷ rest)) ≡ carried_by w) × (text_after (w ∷ rest) ≡ cond (ltb 0 (carried_by w)) rest (w ∷ rest))
unfolding text_from text_after carried_by
last_tests w rest true t1 e3 e2 e1 = (rw (e3, e2), rw (e3, e2))
last_tests w rest false true e3 e2 e1 = (rw (e3, e2, e1), rw (e3, e2, e1))
last_tests w rest false false e3 e2 e1 = (rw (e3, e2, e1), rw (e3, e2, e1))

module _ (ws : List ℕ) (at k : ℕ) (t : Threes ws at k) where
  text_out : length ws ≤ k → Texts ws at k ((k - at) * 3)
  unfolding text_from text_after
  text_out h =
      let gone = drop_of_length-le ws {i = k} h in
      record { count_is = sym (t.count ∙ rw gone (omega arith)); after = t.after ∙ rw gone }

  module _ (many : ℕ) (is : many ≡ carried_by (get_or ws k 0)) (stops : carries_three_bytes (get_or ws k 0) ≡ false) where
    last : (length (text_from (get_or ws k 0 ∷ drop (k + 1) ws)) ≡ carried_by (get_or ws k 0))
        × (text_after (get_or ws k 0 ∷ drop (k + 1) ws) ≡ cond (ltb 0 (carried_by (get_or ws k 0))) (drop (k + 1) ws) (get_or ws k 0 ∷ drop (k + 1) ws))
    last = last_tests (get_or ws k 0) (drop (k + 1) ws) _ _ stops refl refl

    text_full : k < length ws → many ≡ 0 → Texts ws at k ((k - at) * 3)
    text_full h z =
        let none : carried_by (get_or ws k 0) ≡ 0 = sym is ∙ z in
        record {
          count_is = sym (t.count ∙ rw (drop_more ws k h) (omega (arith, last.0)));
          after = t.after ∙ rw (drop_more ws k h) (last.1 ∙ rw none);
        }

    -- The next word carries none, or it is no word.
    pub text_ends : many ≡ 0 → Texts ws at k ((k - at) * 3)
    text_ends z = elim (dec_le (length ws) k) [ yes out ↦ text_out out | no here ↦ text_full (omega arith) z ]

    -- It carries one byte or two.
    pub text_ends_after : 0 < many → Texts ws at (k + 1) ((k - at) * 3 + many)
    text_ends_after above =
        let here : k < length ws = carried_in ws k (omega arith) in
        record {
          count_is = sym (t.count ∙ rw (drop_more ws k here) (omega (arith, last.0)));
          after = t.after ∙ rw (drop_more ws k here) (last.1 ∙ rw (lt-ltb 0 (carried_by (get_or ws k 0)) (omega arith)));
        }

-- A chain of fields by their places: all tests, and then the message.
pub number_after : (ws : List ℕ) (k : ℕ) → number.after (drop k ws) ≡ drop (k + 1) ws
unfolding one
number_after ws k = drop-drop 1 k ws

both_conds : {A : Type 0} (a t : Bool) (x : Option A) (y : A) → x ≡ cond t (some y) none → cond a x none ≡ cond (a && t) (some y) none
both_conds true t x y e = e
both_conds false t x y e = refl

then : {A B : Type 0} (F : Field A) (ws rest : List ℕ) (next : A → List ℕ → Option B) (t : Bool) (y : B)
    → F.after ws ≡ rest → next (F.of ws) rest ≡ cond t (some y) none → read F ws next ≡ cond (F.is ws && t) (some y) none
unfolding read
then F ws rest next t y e p = both_conds (F.is ws) t _ y (ap (next (F.of ws)) e ∙ p)

number_then : {B : Type 0} (ws : List ℕ) (k : ℕ) (next : ℕ → List ℕ → Option B) (t : Bool) (y : B)
    → next (number.of (drop k ws)) (drop (k + 1) ws) ≡ cond t (some y) none
    → read number (drop k ws) next ≡ cond (number.is (drop k ws) && t) (some y) none
number_then ws k next t y p = then number (drop k ws) (drop (k + 1) ws) next t y (number_after ws k) p

value_then : {B : Type 0} (ws : List ℕ) (k : ℕ) (next : ℕ → List ℕ → Option B) (t : Bool) (y : B)
    → next (value.of (drop k ws)) (drop (k + 3) ws) ≡ cond t (some y) none
    → read value (drop k ws) next ≡ cond (value.is (drop k ws) && t) (some y) none
value_then ws k next t y p = then value (drop k ws) (drop (k + 3) ws) next t y (value_after ws k) p

text_then : {B : Type 0} (ws : List ℕ) (next : List ℕ → List ℕ → Option B) (t : Bool) (y : B)
    → next (text_from ws) (text_after ws) ≡ cond t (some y) none → read text ws next ≡ cond t (some y) none
unfolding read text
text_then ws next t y p = p

references_then : {B : Type 0} (ws : List ℕ) (next : List Ref → List ℕ → Option B) (t : Bool) (y : B)
    → next (many_from reference_word ws) (many_after reference_word ws) ≡ cond t (some y) none
    → read references ws next ≡ cond (rising (many_from reference_word ws) && t) (some y) none
unfolding read only many
references_then ws next t y p = both_conds (rising (many_from reference_word ws)) t _ y p

-- Whether the number is there or not, reading goes on.
maybe_then : {B : Type 0} (ws : List ℕ) (k : ℕ) (next : Option ℕ → List ℕ → Option B)
    → read maybe_number (drop k ws) next
    ≡ next (maybe_number.of (drop k ws)) (cond (number.is (drop k ws)) (drop 1 (drop k ws)) (drop k ws))
unfolding read maybe maybe_of maybe_after one
maybe_then ws k next = refl

-- The trail number that was read, or None.
abbrev pub Trailed : List ℕ → Answer ℕ → Type 0
Trailed ws trail = MatchOption trail (number.is (drop 5 ws) ≡ false) (λ x. (number.is (drop 5 ws) ≡ true) × (x ≡ number.of (drop 5 ws)))

pub trail_there : (ws : List ℕ) (trail : Answer ℕ) → Trailed ws trail → number.is (drop 5 ws) ≡ is_some trail
trail_there ws None out = out
trail_there ws (Some x) read = read.0

pub trail_stated : (ws : List ℕ) (trail : Answer ℕ) → Trailed ws trail → maybe_number.of (drop 5 ws) ≡ stated_by trail
unfolding maybe maybe_of one
trail_stated ws None out = rw out
trail_stated ws (Some x) read = rw (read.0, read.1)

values_then : {B : Type 0} (n : ℕ) (ws : List ℕ) (k : ℕ) (next : List ℕ → List ℕ → Option B) (t : Bool) (y : B)
    → next (values_of n (drop k ws)) (drop (k + n * 3) ws) ≡ cond t (some y) none
    → read (values n) (drop k ws) next ≡ cond (values_are n (drop k ws) && t) (some y) none
unfolding values
values_then n ws k next t y p = then (values n) (drop k ws) (drop (k + n * 3) ws) next t y (values_after_lem n ws k) p

and_seven : (a b c d e f g t : Bool)
    → (a && (b && (c && (d && (e && (f && (g && t))))))) ≡ ((a && (b && (c && (d && (e && (f && (g && true))))))) && t)
and_seven true true true true true true true t = refl
and_seven true true true true true true false t = refl
and_seven true true true true true false g t = refl
and_seven true true true true false f g t = refl
and_seven true true true false e f g t = refl
and_seven true true false d e f g t = refl
and_seven true false c d e f g t = refl
and_seven false b c d e f g t = refl

seven : (ws : List ℕ) (t : Bool)
    → (number.is (drop 1 ws) && (number.is (drop 2 ws) && (number.is (drop 3 ws) && (number.is (drop 4 ws)
    && (number.is (drop 5 ws) && (number.is (drop 6 ws) && (number.is (drop 7 ws) && t)))))))
    ≡ (numbers_are ws 1 7 && t)
unfolding numbers_are
seven ws t =
    and_seven (number.is (drop 1 ws)) (number.is (drop 2 ws)) (number.is (drop 3 ws)) (number.is (drop 4 ws)) (number.is (drop 5 ws))
    (number.is (drop 6 ws)) (number.is (drop 7 ws)) t

module _ (ws : List ℕ) (c n : ℕ) where
  pair_then : (next : ℕ → ℕ → List ℕ → Option Msg) (t : Bool) (y : Msg)
      → next (number.of (drop 1 ws)) (value.of (drop 2 ws)) (drop 5 ws) ≡ cond t (some y) none
      → (read number (drop 1 ws) λ l ws. read value ws λ i ws. next l i ws) ≡ cond (pair_is ws && t) (some y) none
  unfolding pair_is
  pair_then next t y p =
      number_then ws 1 _ (value.is (drop 2 ws) && t) y (value_then ws 2 _ t y p)
      ∙ ap (λ (b : Bool). cond b (some y) none) (sym (and_assoc (number.is (drop 1 ws)) (value.is (drop 2 ws)) t))

  pub opening_query_form : body_of c n 1 (drop 1 ws) ≡ cond (is_end_word c (drop 1 ws)) (some (opening_query n)) none
  unfolding body_of finish
  opening_query_form = refl

  pub node_query_form : body_of c n 2 (drop 1 ws)
      ≡ cond (pair_is ws && is_end_word c (drop 5 ws)) (some (node_query n (number.of (drop 1 ws)) (value.of (drop 2 ws)))) none
  unfolding body_of finish
  node_query_form = pair_then _ (is_end_word c (drop 5 ws)) _ refl

  pub no_node_form : body_of c n 6 (drop 1 ws)
      ≡ cond (pair_is ws && is_end_word c (drop 5 ws)) (some (no_node n (number.of (drop 1 ws)) (value.of (drop 2 ws)))) none
  unfolding body_of finish
  no_node_form = pair_then _ (is_end_word c (drop 5 ws)) _ refl

  pub literal_form : body_of c n 5 (drop 1 ws)
      ≡ cond (pair_is ws && is_end_word c (text_after (drop 5 ws))) (some (literal n (number.of (drop 1 ws)) (value.of (drop 2 ws)) (text_from (drop 5 ws)))) none
  unfolding body_of finish
  literal_form =
      pair_then _ (is_end_word c (text_after (drop 5 ws))) _
      (text_then (drop 5 ws) _ (is_end_word c (text_after (drop 5 ws))) (literal n (number.of (drop 1 ws)) (value.of (drop 2 ws)) (text_from (drop 5 ws))) refl)

  -- What is read of a composition whose references start at place `at`, with a trail number or without.
  abbrev pub composed : (trail : Option ℕ) (at : ℕ) → Msg
  composed trail at = composition n (number.of (drop 1 ws)) (value.of (drop 2 ws)) trail (many_from reference_word (drop at ws))

  abbrev pub references_end : ℕ → Bool
  references_end at = rising (many_from reference_word (drop at ws)) && is_end_word c (many_after reference_word (drop at ws))

  references_at_lem : (numbered : Bool) → cond numbered (drop 1 (drop 5 ws)) (drop 5 ws) ≡ drop (references_at numbered) ws
  references_at_lem true = drop-drop 1 5 ws
  references_at_lem false = refl

  pub composition_form : body_of c n 4 (drop 1 ws)
      ≡ cond (pair_is ws && references_end (references_at (number.is (drop 5 ws))))
      (some (composed (maybe_number.of (drop 5 ws)) (references_at (number.is (drop 5 ws))))) none
  unfolding body_of finish
  composition_form =
      let numbered = number.is (drop 5 ws) in
      pair_then _ (references_end (references_at numbered)) (composed (maybe_number.of (drop 5 ws)) (references_at numbered))
      (maybe_then ws 5 _
      ∙ rw (references_at_lem numbered)
      (references_then (drop (references_at numbered) ws) _ (is_end_word c (many_after reference_word (drop (references_at numbered) ws))) _ refl))

  abbrev pub cells_end : Bool
  cells_end =
      values_are (cell_values (number.of (drop 6 ws))) (drop 11 ws) && is_end_word c (drop (11 + cell_values (number.of (drop 6 ws)) * 3) ws)

  pub opening_form : body_of c n 3 (drop 1 ws)
      ≡ cond (numbers_are ws 1 7 && (value.is (drop 8 ws) && cells_end)) (some (opening_by_places ws n)) none
  unfolding body_of finish opening_by_places
  opening_form =
      number_then ws 1 _ _ _
      (number_then ws 2 _ _ _
      (number_then ws 3 _ _ _
      (number_then ws 4 _ _ _
      (number_then ws 5 _ _ _
      (number_then ws 6 _ _ _
      (number_then ws 7 _ _ _
      (value_then ws 8 _ cells_end _
      (values_then (cell_values (number.of (drop 6 ws))) ws 11 _ (is_end_word c (drop (11 + cell_values (number.of (drop 6 ws)) * 3) ws)) _ refl))))))))
      ∙ ap (λ (b : Bool). cond b (some (opening_by_places ws n)) none) (seven ws (value.is (drop 8 ws) && cells_end))
