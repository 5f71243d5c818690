-- The laws of messages: a valid message written and read is the same message, what is read and written again is the same bytes, and a
-- composition whose order falls is none. Each type is one chain of its fields in either direction.
use Rattle.std.proofs.Common.{Bool, true, false, cond, ◌&&◌, List, [], ◌∷◌, ◌++◌, ◌≡◌, refl, sym, ap, ◌∙◌, subst, ℕ, ◌+◌, ◌*◌, ◌%◌, ◌^◌, ◌<◌, ◌≤◌, arith, eqb-true, eq-eqb, eqb, lit<, length, length-append}
use Rattle.std.proofs.lemmas.Bool.{false≢true}
use Rattle.std.proofs.Math.Option.{Option, none, some}
use Rattle.message.specs.Words.{link_words, link_bytes, kind_of, rest_of, with_kind, plain, Head, head_word, Ref, reference_word, end_word, is_end_word, carries_three_bytes, carries_two_bytes, carries_one_byte}
use Rattle.message.specs.Fields.{Field, read, one, number, head, value, values, many, many_to, maybe, maybe_number, only, rising, references, carries, text}
use Rattle.message.specs.Messages.{Msg, opening_query, node_query, opening, composition, literal, no_node, cell_values, headed, words_then, size_of, encode_words, encode, finish, body_of, parse_words, parse, Parts, Valid}
use Rattle.message.proofs.Words.{Bytes, Small, every_append, and_left, and_right, kind_with, rest_with, with_rest, with_small, rest_below, length_bytes, words_bytes, bytes_words, small_words, reference_lawful}
use Rattle.message.proofs.Fields.{Lawful, read_to, was_taken, taken, number_lawful, head_field_lawful, value_lawful, values_lawful, many_lawful, maybe_number_lawful, only_refused, references_lawful, text_lawful}
use Rattle.message.proofs.Rising.{falling}

-- How long the words of a message are, whatever follows them.
pub length_then : (m : Msg) (ws : List ℕ) → length (words_then m ws) ≡ length (words_then m []) + length ws
unfolding words_then headed
length_then (opening_query n) ws = simp length-append (omega arith)
length_then (node_query n l i) ws = simp length-append (omega arith)
length_then (opening n rule w p L M q len root cells) ws = simp length-append (omega arith)
length_then (composition n l i x refs) ws = simp length-append (omega arith)
length_then (literal n l i bytes) ws = simp length-append (omega arith)
length_then (no_node n l i) ws = simp length-append (omega arith)

pub length_encode_words : (m : Msg) → length (encode_words m) ≡ size_of m
unfolding encode_words size_of
length_encode_words m = length_then m (end_word _ ∷ [])

-- The end.
finish_to : (c : ℕ) (m : Msg) → c < 2 ^ 28 → finish c m (end_word c ∷ []) ≡ some m
unfolding finish is_end_word end_word
finish_to c m h =
    let r : rest_of (with_kind 6 c) ≡ c = rest_with 6 c ∙ omega arith in
    rw (kind_with 6 c, r, eq-eqb c c refl)

end_stops_references : (c : ℕ) → references.Stops (end_word c ∷ [])
unfolding only many reference_word end_word
end_stops_references c = rw (kind_with 6 c)

-- A reference and the end are no numbers.
references_stop_number : (refs : List Ref) (c : ℕ) → maybe_number.Stops (references.to refs ++ (end_word c ∷ []))
unfolding maybe only many many_to reference_word plain end_word
references_stop_number [] c = rw (kind_with 6 c)
references_stop_number (r ∷ refs) c = rw (kind_with 4 _)

end_stops_text : (c : ℕ) → text.Stops (end_word c ∷ [])
unfolding text carries carries_three_bytes carries_two_bytes carries_one_byte end_word
end_stops_text c = rw (kind_with 6 c)

number_stops : (ws : List ℕ) → number.Stops ws
unfolding one
number_stops ws = tt

value_stops : (ws : List ℕ) → value.Stops ws
unfolding value
value_stops ws = tt

values_stops : (n : ℕ) (ws : List ℕ) → (values n).Stops ws
unfolding values
values_stops n ws = tt

-- Printing then reading, link by link.
headed_read : (t n c : ℕ) (ws : List ℕ) → t < 16 → n < 2 ^ 24 → length (headed t n ws) ≡ c → parse_words (headed t n ws) ≡ body_of c n t ws
unfolding parse_words headed one head_word
headed_read t n c ws ht hn e =
    read_to head_field_lawful (record { type = t; session = n }) ws _ (ht, hn) tt
    ∙ ap (λ (k : ℕ). body_of k n t ws) e

module _ {B : Type 0} where
  number_read : (x : ℕ) (ws : List ℕ) (next : ℕ → List ℕ → Option B) → number.Fits x → read number (number.to x ++ ws) next ≡ next x ws
  number_read x ws next f = read_to number_lawful x ws next f (number_stops ws)

  value_read : (x : ℕ) (ws : List ℕ) (next : ℕ → List ℕ → Option B) → value.Fits x → read value (value.to x ++ ws) next ≡ next x ws
  value_read x ws next f = read_to value_lawful x ws next f (value_stops ws)

parse_then : (m : Msg) (c : ℕ) → Parts m → c < 2 ^ 28 → length (words_then m (end_word c ∷ [])) ≡ c → parse_words (words_then m (end_word c ∷ [])) ≡ some m
unfolding words_then Parts body_of
parse_then (opening_query n) c p h e = headed_read 1 n c _ (lit< tt) p e ∙ finish_to c _ h
parse_then (node_query n l i) c p h e =
    headed_read 2 n c _ (lit< tt) p.0 e ∙ (number_read l _ _ p.1 ∙ (value_read i _ _ p.2 ∙ finish_to c _ h))
parse_then (opening n rule w p L M q len root cells) c f h e =
    headed_read 3 n c _ (lit< tt) f.0 e
    ∙ (number_read rule _ _ f.1
    ∙ (number_read w _ _ f.2
    ∙ (number_read p _ _ f.3
    ∙ (number_read L _ _ f.4
    ∙ (number_read M _ _ f.5
    ∙ (number_read q _ _ f.6
    ∙ (number_read len _ _ f.7
    ∙ (value_read root _ _ f.8
    ∙ (read_to (values_lawful (cell_values q)) cells _ _ f.9 (values_stops _ _)
    ∙ finish_to c _ h)))))))))
parse_then (composition n l i x refs) c p h e =
    headed_read 4 n c _ (lit< tt) p.0 e
    ∙ (number_read l _ _ p.1
    ∙ (value_read i _ _ p.2
    ∙ (read_to maybe_number_lawful x _ _ p.3 (references_stop_number refs c)
    ∙ (read_to references_lawful refs _ _ p.4 (end_stops_references c) ∙ finish_to c _ h))))
parse_then (literal n l i bytes) c p h e =
    headed_read 5 n c _ (lit< tt) p.0 e
    ∙ (number_read l _ _ p.1 ∙ (value_read i _ _ p.2 ∙ (read_to text_lawful bytes _ _ p.3 (end_stops_text c) ∙ finish_to c _ h)))
parse_then (no_node n l i) c p h e =
    headed_read 6 n c _ (lit< tt) p.0 e ∙ (number_read l _ _ p.1 ∙ (value_read i _ _ p.2 ∙ finish_to c _ h))

-- The words of a message are words, valid or not.
end_small : (c : ℕ) → Small (end_word c ∷ [])
unfolding end_word
end_small c = (with_small 6 c (lit< tt), tt)

headed_small : (t n : ℕ) (ws : List ℕ) → Small ws → Small (headed t n ws)
unfolding headed
headed_small t n ws s = every_append _ (head.to _) ws (head_field_lawful.small _) s

small_to : {A : Type 0} {F : Field A} → Lawful F → (a : A) (ws : List ℕ) → Small ws → Small (F.to a ++ ws)
small_to {F = F} L a ws s = every_append _ (F.to a) ws (L.small a) s

small_then : (m : Msg) (ws : List ℕ) → Small ws → Small (words_then m ws)
unfolding words_then
small_then (opening_query n) ws s = headed_small 1 n _ s
small_then (node_query n l i) ws s = headed_small 2 n _ (small_to number_lawful l _ (small_to value_lawful i _ s))
small_then (opening n rule w p L M q len root cells) ws s =
    headed_small 3 n _
    (small_to number_lawful rule _
    (small_to number_lawful w _
    (small_to number_lawful p _
    (small_to number_lawful L _
    (small_to number_lawful M _
    (small_to number_lawful q _
    (small_to number_lawful len _ (small_to value_lawful root _ (small_to (values_lawful (cell_values q)) cells _ s)))))))))
small_then (composition n l i x refs) ws s =
    headed_small 4 n _ (small_to number_lawful l _ (small_to value_lawful i _ (small_to maybe_number_lawful x _ (small_to references_lawful refs _ s))))
small_then (literal n l i bytes) ws s = headed_small 5 n _ (small_to number_lawful l _ (small_to value_lawful i _ (small_to text_lawful bytes _ s)))
small_then (no_node n l i) ws s = headed_small 6 n _ (small_to number_lawful l _ (small_to value_lawful i _ s))

pub words_encode : (m : Msg) → link_words (encode m) ≡ encode_words m
unfolding encode encode_words
words_encode m = words_bytes _ (small_then m _ (end_small _))

pub length-encode : (m : Msg) → length (encode m) ≡ size_of m * 4
unfolding encode
length-encode m = length_bytes (encode_words m) ∙ ap (λ (n : ℕ). n * 4) (length_encode_words m)

parse_encode_words : (m : Msg) → Valid m → parse_words (encode_words m) ≡ some m
unfolding encode_words
parse_encode_words m v = parse_then m (size_of m) v.parts v.size (length_encode_words m)

-- What is read of a message's bytes is read of its words.
parse_of_words : (m : Msg) → parse (encode m) ≡ parse_words (encode_words m)
unfolding parse
parse_of_words m =
    let whole : length (encode m) % 4 ≡ 0 = ap (λ (n : ℕ). n % 4) (length-encode m) ∙ omega arith in
    rw (eq-eqb _ 0 whole, words_encode m)

-- A valid message written and then read is the same message.
pub parse-encode : (m : Msg) → Valid m → parse (encode m) ≡ some m
parse-encode m v = parse_of_words m ∙ parse_encode_words m v

-- Document 02, request 2: "A sender of the old kind is met by number 10 when its order falls." A composition with its parts within their fields is
-- read as no message if somewhere in it, next to it or later, a reference follows one of the same or a higher index.
module _ (n l i : ℕ) (x : Option ℕ) (session : n < 2 ^ 24) (level : number.Fits l) (id : value.Fits i) (trail : maybe_number.Fits x) where
  unordered_words : (refs : List Ref) → (many reference_word).Fits refs → rising refs ≡ false → parse_words (encode_words (composition n l i x refs)) ≡ none
  unfolding encode_words words_then body_of
  unordered_words refs fits falls =
      let m = composition n l i x refs in
      let stops : (many reference_word).Stops (end_word (size_of m) ∷ []) = unfold only in end_stops_references (size_of m) in
      headed_read 4 n (size_of m) _ (lit< tt) session (length_encode_words m)
      ∙ (number_read l _ _ level
      ∙ (value_read i _ _ id
      ∙ (read_to maybe_number_lawful x _ _ trail (references_stop_number refs (size_of m))
      ∙ only_refused rising (many reference_word) (many_lawful reference_word reference_lawful) refs _ _ fits stops falls)))

  pub falling_refused : (front : List Ref) (high : Ref) (between : List Ref) (low : Ref) (back : List Ref)
      → (many reference_word).Fits (front ++ (high ∷ between ++ (low ∷ back))) → low.index ≤ high.index
      → parse (encode (composition n l i x (front ++ (high ∷ between ++ (low ∷ back))))) ≡ none
  falling_refused front high between low back fits h = parse_of_words _ ∙ unordered_words _ fits (falling front high between low back h)

-- Reading then printing, link by link.
record Printed (m : Msg) (c : ℕ) (ws : List ℕ) : Type 0 where
  parts : Parts m
  few : c < 2 ^ 28
  words : words_then m (end_word c ∷ []) ≡ ws

was_end_word : (c w : ℕ) → (eqb (kind_of w) 6 && eqb (rest_of w) c) ≡ true → (w ∷ [] ≡ end_word c ∷ []) × (c < 2 ^ 28)
unfolding end_word
was_end_word c w e =
    let k = eqb-true (kind_of w) 6 (and_left (eqb (kind_of w) 6) (eqb (rest_of w) c) e) in
    let r = eqb-true (rest_of w) c (and_right (eqb (kind_of w) 6) (eqb (rest_of w) c) e) in
    let b = rest_below w in
    (ap (λ (v : ℕ). v ∷ []) (sym (with_rest 6 w k) ∙ ap (with_kind 6) r), omega arith)

was_end : (c : ℕ) (ws : List ℕ) → is_end_word c ws ≡ true → (ws ≡ end_word c ∷ []) × (c < 2 ^ 28)
unfolding is_end_word
was_end c [] e = absurd (false≢true e)
was_end c (w ∷ v ∷ ws) e = absurd (omega (arith, eqb-true (length (w ∷ v ∷ ws)) 1 (and_left (eqb (length (w ∷ v ∷ ws)) 1) _ e)))
was_end c (w ∷ []) e = was_end_word c w e

module _ {m : Msg} {C : Type 0} where
  finished : (c : ℕ) (found : Msg) (ws : List ℕ) → finish c found ws ≡ some m → (found ≡ m → ws ≡ end_word c ∷ [] → c < 2 ^ 28 → C) → C
  unfolding finish
  finished c found ws e go =
      let w = was_taken (is_end_word c ws) (some found) m e in
      let end = was_end c ws w.0 in
      go (cc) end.0 end.1

  pub picked : (t : Bool) (x y : Option Msg) → cond t x y ≡ some m → (t ≡ true → x ≡ some m → C) → (y ≡ some m → C) → C
  picked true x y e this other = this refl e
  picked false x y e this other = other e

headed_again : (t : ℕ) (h : Head) (rest ws : List ℕ) → h.type ≡ t → head.to h ++ rest ≡ ws → headed t h.session rest ≡ ws
unfolding headed
headed_again t h rest ws e p = ap (λ (k : ℕ). head.to (record { type = k; session = h.session }) ++ rest) (sym e) ∙ p

pub none_is_none : {m : Msg} → none ≡ some m → ⊥
none_is_none {m} e = let z : ◌≡◌ {A = ℕ} 0 1 = cc in omega arith

session_below : (h : Head) → head.Fits h → h.session < 2 ^ 24
unfolding one head_word
session_below h f = f.1

whole_printed : (m : Msg) (ws : List ℕ) → Printed m (length ws) ws → Valid m × (words_then m (end_word (size_of m) ∷ []) ≡ ws)
unfolding size_of
whole_printed m ws p =
    let size : length ws ≡ length (words_then m []) + 1 = ap length (sym p.words) ∙ length_then m (end_word (length ws) ∷ []) in
    (record { size = rw (← size) p.few; parts = p.parts }, rw (← size) p.words)

-- Each type's form, in the order of the types.
module _ (m : Msg) (h : Head) (c : ℕ) (ws rest : List ℕ) (small : Small rest) (known : h.session < 2 ^ 24) (front : head.to h ++ rest ≡ ws) where
  abbrev done : (found : Msg) → found ≡ m → Printed found c ws → Printed m c ws
  done found e p = subst (λ (x : Msg). Printed x c ws) e p

  opening_query_printed : h.type ≡ 1 → finish c (opening_query h.session) rest ≡ some m → Printed m c ws
  unfolding words_then Parts
  opening_query_printed t e =
      finished c _ rest e λ same end few.
      done _ same (record { parts = known; few = few; words = headed_again 1 h _ ws t (rw (← end) front) })

  pair_printed : {B : Type 0} (next : ℕ → ℕ → List ℕ → Option Msg)
      → (read number rest λ l ws. read value ws λ i ws. next l i ws) ≡ some m
      → ((l i : ℕ) (after : List ℕ) → number.Fits l → value.Fits i → Small after → head.to h ++ (number.to l ++ (value.to i ++ after)) ≡ ws
      → next l i after ≡ some m → B)
      → B
  pair_printed next e go =
      taken number_lawful rest _ m small e λ l r₁ fl s₁ e₁ p₁.
      taken value_lawful r₁ _ m s₁ p₁ λ i r₂ fi s₂ e₂ p₂.
      go l i r₂ fl fi s₂ (rw (e₂, e₁) front) p₂

  node_query_printed : h.type ≡ 2
      → (read number rest λ l ws. read value ws λ i ws. finish c (node_query h.session l i) ws) ≡ some m → Printed m c ws
  unfolding words_then Parts
  node_query_printed t e =
      pair_printed _ e λ l i after fl fi s p e.
      finished c _ after e λ same end few.
      done _ same (record { parts = (known, fl, fi); few = few; words = headed_again 2 h _ ws t (rw (← end) p) })

  no_node_printed : h.type ≡ 6
      → (read number rest λ l ws. read value ws λ i ws. finish c (no_node h.session l i) ws) ≡ some m → Printed m c ws
  unfolding words_then Parts
  no_node_printed t e =
      pair_printed _ e λ l i after fl fi s p e.
      finished c _ after e λ same end few.
      done _ same (record { parts = (known, fl, fi); few = few; words = headed_again 6 h _ ws t (rw (← end) p) })

  literal_printed : h.type ≡ 5
      → (read number rest λ l ws. read value ws λ i ws. read text ws λ bytes ws. finish c (literal h.session l i bytes) ws) ≡ some m
      → Printed m c ws
  unfolding words_then Parts
  literal_printed t e =
      pair_printed _ e λ l i r₂ fl fi s₂ p e₂.
      taken text_lawful r₂ _ m s₂ e₂ λ bytes r₃ fb s₃ p₃ e₃.
      finished c _ r₃ e₃ λ same end few.
      done _ same (record { parts = (known, fl, fi, fb); few = few; words = headed_again 5 h _ ws t (rw (← end, p₃) p) })

  composition_printed : h.type ≡ 4
      → (read number rest λ l ws. read value ws λ i ws. read maybe_number ws λ x ws. read references ws λ refs ws.
      finish c (composition h.session l i x refs) ws)
      ≡ some m
      → Printed m c ws
  unfolding words_then Parts
  composition_printed t e =
      pair_printed _ e λ l i r₂ fl fi s₂ p e₂.
      taken maybe_number_lawful r₂ _ m s₂ e₂ λ x r₃ fx s₃ p₃ e₃.
      taken references_lawful r₃ _ m s₃ e₃ λ refs r₄ fr s₄ p₄ e₄.
      finished c _ r₄ e₄ λ same end few.
      done _ same (record { parts = (known, fl, fi, fx, fr); few = few; words = headed_again 4 h _ ws t (rw (← end, p₄, p₃) p) })

  opening_printed : h.type ≡ 3
      → (read number rest λ rule ws. read number ws λ w ws. read number ws λ p ws. read number ws λ L ws. read number ws λ M ws. read number ws λ q ws.
      read number ws λ len ws. read value ws λ root ws. read (values (cell_values q)) ws λ cells ws.
      finish c (opening h.session rule w p L M q len root cells) ws)
      ≡ some m
      → Printed m c ws
  unfolding words_then Parts
  opening_printed t e =
      taken number_lawful rest _ m small e λ rule r₁ f₁ s₁ p₁ e₁.
      taken number_lawful r₁ _ m s₁ e₁ λ w r₂ f₂ s₂ p₂ e₂.
      taken number_lawful r₂ _ m s₂ e₂ λ p r₃ f₃ s₃ p₃ e₃.
      taken number_lawful r₃ _ m s₃ e₃ λ L r₄ f₄ s₄ p₄ e₄.
      taken number_lawful r₄ _ m s₄ e₄ λ M r₅ f₅ s₅ p₅ e₅.
      taken number_lawful r₅ _ m s₅ e₅ λ q r₆ f₆ s₆ p₆ e₆.
      taken number_lawful r₆ _ m s₆ e₆ λ len r₇ f₇ s₇ p₇ e₇.
      taken value_lawful r₇ _ m s₇ e₇ λ root r₈ f₈ s₈ p₈ e₈.
      taken (values_lawful (cell_values q)) r₈ _ m s₈ e₈ λ cells r₉ f₉ s₉ p₉ e₉.
      finished c _ r₉ e₉ λ same end few.
      done _ same
      (record {
        parts = (known, f₁, f₂, f₃, f₄, f₅, f₆, f₇, f₈, f₉);
        few = few;
        words = headed_again 3 h _ ws t (rw (← end, p₉, p₈, p₇, p₆, p₅, p₄, p₃, p₂, p₁) front);
      })

  body_printed : body_of c h.session h.type rest ≡ some m → Printed m c ws
  unfolding body_of
  body_printed e =
      picked (eqb h.type 1) _ _ e (λ t e. opening_query_printed (eqb-true h.type 1 t) e) λ e.
      picked (eqb h.type 2) _ _ e (λ t e. node_query_printed (eqb-true h.type 2 t) e) λ e.
      picked (eqb h.type 3) _ _ e (λ t e. opening_printed (eqb-true h.type 3 t) e) λ e.
      picked (eqb h.type 4) _ _ e (λ t e. composition_printed (eqb-true h.type 4 t) e) λ e.
      picked (eqb h.type 5) _ _ e (λ t e. literal_printed (eqb-true h.type 5 t) e) λ e.
      picked (eqb h.type 6) _ _ e (λ t e. no_node_printed (eqb-true h.type 6 t) e) λ e.
      absurd (none_is_none e)

-- What is read and written again is the same words, and the same bytes.
pub encode_parse_words : (ws : List ℕ) (m : Msg) → Small ws → parse_words ws ≡ some m → Valid m × (encode_words m ≡ ws)
unfolding parse_words encode_words
encode_parse_words ws m s e =
    taken head_field_lawful ws _ m s e λ h rest fits small front e.
    whole_printed m ws (body_printed m h (length ws) ws rest small (session_below h fits) front e)

pub encode-parse : (s : List ℕ) (m : Msg) → Bytes s → parse s ≡ some m → Valid m × (encode m ≡ s)
unfolding parse encode
encode-parse s m b e =
    let w = was_taken (eqb (length s % 4) 0) (parse_words (link_words s)) m e in
    let p = encode_parse_words (link_words s) m (small_words s b) w.1 in
    (p.0, ap link_bytes p.1 ∙ bytes_words s b (eqb-true _ _ w.0))
