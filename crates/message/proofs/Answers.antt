-- Laws of the reader's answers: for each way that reading a message can go, what it answers is what `parse` says.
use Rattle.std.proofs.Common.{true, false, cond, ◌&&◌, List, ◌≡◌, refl, sym, ap, ◌∙◌, ℕ, ◌+◌, ◌*◌, ◌-◌, ◌/◌, ◌%◌, ◌^◌, ◌<◌, arith, eq-eqb, ne_eqb, length, get_or, drop, eqb}
use Rattle.std.proofs.Math.Option.{Option as Found, none, some}
use Rattle.std.specs.Prelude.{Option, None, Some}
use Rattle.std.specs.Option.{is_some}
use Rattle.message.specs.Words.{link_words, kind_of, rest_of, plain, head_word}
use Rattle.message.specs.Fields.{read, one, number, value, values_are}
use Rattle.message.specs.Messages.{Msg, opening_query, node_query, opening, composition, literal, no_node, type_of, cell_values, body_of, parse_words, parse}
use Rattle.message.specs.declared.Message.{Message}
use Rattle.message.specs.declared.Message.TheVariants.{OpeningQuery, NodeQuery, Opening, Composition, Literal, NoNode}
use Rattle.message.specs.Reading.{stated_by, references_at, meant, Placed, Counted, Reads, ReadsBody, numbers_are, Falls, References, Texts, pair_is, PairRead, ends_at, opening_by_places, number_of, type_answer}
use Rattle.message.proofs.Words.{rest_below}
use Rattle.message.proofs.Reading.{Trailed, trail_stated, trail_there, opening_query_form, node_query_form, no_node_form, literal_form, composed, references_end, composition_form, opening_form}

module _ (s : List ℕ) (n : ℕ) where
  pub bad : (t : ℕ) → body_of (length (link_words s)) n t (drop 1 (link_words s)) ≡ none → ReadsBody s n t None
  bad t e = record { message = sym e; placed = tt; counted = tt }

  pub opening_query_no_end : ends_at (link_words s) 1 ≡ false → ReadsBody s n 1 None
  opening_query_no_end e = bad 1 (opening_query_form (link_words s) (length (link_words s)) n ∙ rw e)

  pub opening_query_read : ends_at (link_words s) 1 ≡ true → ReadsBody s n 1 (Some (OpeningQuery n))
  opening_query_read e = record { message = sym (opening_query_form (link_words s) (length (link_words s)) n ∙ rw e); placed = tt; counted = tt }

  pub node_query_no_pair : (pair_is (link_words s) && ends_at (link_words s) 5) ≡ false → ReadsBody s n 2 None
  node_query_no_pair p = bad 2 (node_query_form (link_words s) (length (link_words s)) n ∙ rw p)

  pub no_node_no_pair : (pair_is (link_words s) && ends_at (link_words s) 5) ≡ false → ReadsBody s n 6 None
  no_node_no_pair p = bad 6 (no_node_form (link_words s) (length (link_words s)) n ∙ rw p)

  pub literal_no_pair : pair_is (link_words s) ≡ false → ReadsBody s n 5 None
  literal_no_pair p = bad 5 (literal_form (link_words s) (length (link_words s)) n ∙ rw p)

  pub composition_no_pair : pair_is (link_words s) ≡ false → ReadsBody s n 4 None
  composition_no_pair p = bad 4 (composition_form (link_words s) (length (link_words s)) n ∙ rw p)

  module _ (l i : ℕ) (p : PairRead (link_words s) l i) where
    pub node_query_read : ends_at (link_words s) 5 ≡ true → ReadsBody s n 2 (Some (NodeQuery n l i))
    node_query_read e =
        record { message = sym (node_query_form (link_words s) (length (link_words s)) n ∙ rw (p.stands, e, p.level_is, p.id_is)); placed = tt; counted = tt }

    pub no_node_read : ends_at (link_words s) 5 ≡ true → ReadsBody s n 6 (Some (NoNode n l i))
    no_node_read e =
        record { message = sym (no_node_form (link_words s) (length (link_words s)) n ∙ rw (p.stands, e, p.level_is, p.id_is)); placed = tt; counted = tt }

    module _ (end count : ℕ) (texts : Texts (link_words s) 5 end count) where
      pub literal_no_end : ends_at (link_words s) end ≡ false → ReadsBody s n 5 None
      literal_no_end e = bad 5 (literal_form (link_words s) (length (link_words s)) n ∙ rw (p.stands, texts.after, e))

      pub literal_read : ends_at (link_words s) end ≡ true → ReadsBody s n 5 (Some (Literal n l i 5 count))
      literal_read e =
          record {
            message = sym (literal_form (link_words s) (length (link_words s)) n ∙ rw (p.stands, texts.after, e, p.level_is, p.id_is));
            placed = refl;
            counted = texts.count_is;
          }

    module _ (trail : Option ℕ) (is-trail : Trailed (link_words s) trail)
        (at : ℕ) (is_at : at ≡ references_at (is_some trail)) where
      -- A composition by its places.
      form : body_of (length (link_words s)) n 4 (drop 1 (link_words s))
          ≡ cond (pair_is (link_words s) && references_end (link_words s) (length (link_words s)) n at)
          (some (composed (link_words s) (length (link_words s)) n (stated_by trail) at)) none
      form = composition_form (link_words s) (length (link_words s)) n ∙ rw (trail_stated (link_words s) trail is-trail, trail_there (link_words s) trail is-trail, ← is_at)

      pub composition_falls : Falls (link_words s) at → ReadsBody s n 4 None
      composition_falls f = bad 4 (form ∙ rw (p.stands, f.falls))

      module _ (end : ℕ) (refs : References (link_words s) at end) where
        pub composition_no_end : ends_at (link_words s) end ≡ false → ReadsBody s n 4 None
        composition_no_end e = bad 4 (form ∙ rw (p.stands, refs.rises, refs.after, e))

        pub composition_read : ends_at (link_words s) end ≡ true → ReadsBody s n 4 (Some (Composition n l i trail at (end - at)))
        composition_read e =
            let c = refs.count in
            record {
              message = sym (form ∙ rw (p.stands, refs.rises, refs.after, e, p.level_is, p.id_is));
              placed = is_at;
              counted = omega arith;
            }

  pub opening_no_numbers : numbers_are (link_words s) 1 7 ≡ false → ReadsBody s n 3 None
  opening_no_numbers p = bad 3 (opening_form (link_words s) (length (link_words s)) n ∙ rw p)

  module _ (p : numbers_are (link_words s) 1 7 ≡ true) where
    pub opening_no_root : value.is (drop 8 (link_words s)) ≡ false → ReadsBody s n 3 None
    opening_no_root v = bad 3 (opening_form (link_words s) (length (link_words s)) n ∙ rw (p, v))

    module _ (v : value.is (drop 8 (link_words s)) ≡ true) (q : ℕ) (is-q : q ≡ number.of (drop 6 (link_words s))) where
      pub opening_no_cells : values_are (q * 3 * 5) (drop 11 (link_words s)) ≡ false → ReadsBody s n 3 None
      unfolding cell_values
      opening_no_cells e = bad 3 (opening_form (link_words s) (length (link_words s)) n ∙ rw (p, v, ← is-q, e))

      pub opening_no_end : values_are (q * 3 * 5) (drop 11 (link_words s)) ≡ true → ends_at (link_words s) (11 + q * 3 * 5 * 3) ≡ false → ReadsBody s n 3 None
      unfolding cell_values
      opening_no_end e f = bad 3 (opening_form (link_words s) (length (link_words s)) n ∙ rw (p, v, ← is-q, e, f))

      pub opening_read : (m : Message) → values_are (q * 3 * 5) (drop 11 (link_words s)) ≡ true → ends_at (link_words s) (11 + q * 3 * 5 * 3) ≡ true
          → meant (link_words s) (Some m) ≡ some (opening_by_places (link_words s) n) → Placed (Some m) → Counted (link_words s) (Some m) → ReadsBody s n 3 (Some m)
      unfolding cell_values
      opening_read m e f is place count = record { message = is ∙ sym (opening_form (link_words s) (length (link_words s)) n ∙ rw (p, v, ← is-q, e, f)); placed = place; counted = count }

-- The type's number decides the form.
pub no_type : (s : List ℕ) (n t : ℕ) → (t ≡ 1 → ⊥) → (t ≡ 2 → ⊥) → (t ≡ 3 → ⊥) → (t ≡ 4 → ⊥) → (t ≡ 5 → ⊥) → (t ≡ 6 → ⊥) → ReadsBody s n t None
unfolding body_of
no_type s n t a b c d e f = bad s n t (rw (ne_eqb t 1 a, ne_eqb t 2 b, ne_eqb t 3 c, ne_eqb t 4 d, ne_eqb t 5 e, ne_eqb t 6 f))

-- The whole message.
pub read_not_whole : (s : List ℕ) → (length s % 4 ≡ 0 → ⊥) → Reads s None
unfolding parse
read_not_whole s h = record { message = rw (ne_eqb (length s % 4) 0 h); placed = tt; counted = tt }

module _ (s : List ℕ) (whole : length s % 4 ≡ 0) (w : ℕ) (first : w ≡ get_or (link_words s) 0 0) where
  pub read_no_head : eqb (kind_of w) 1 ≡ false → Reads s None
  unfolding parse parse_words read one head_word
  read_no_head h = record { message = rw (eq-eqb (length s % 4) 0 whole, ← first, h); placed = tt; counted = tt }

  pub read_whole : eqb (kind_of w) 1 ≡ true → (x : ℕ) → x ≡ rest_of w → (m : Option Message) → ReadsBody s (x % 2 ^ 24) (x / 2 ^ 24) m → Reads s m
  unfolding parse parse_words read one head_word
  read_whole h x e m b =
      record { message = b.message ∙ rw (eq-eqb (length s % 4) 0 whole, ← first, h, ← e); placed = b.placed; counted = b.counted }

-- The number of what was read.
number_meant : (ws : List ℕ) (m : Option Message) → number_of m ≡ type_answer (meant ws m)
unfolding type_answer type_of
number_meant ws None = refl
number_meant ws (Some (OpeningQuery n)) = refl
number_meant ws (Some (NodeQuery n l i)) = refl
number_meant ws (Some (Opening n rule w p L M q len root at)) = refl
number_meant ws (Some (Composition n l i trail at count)) = refl
number_meant ws (Some (Literal n l i at count)) = refl
number_meant ws (Some (NoNode n l i)) = refl

pub type_answer_lem : (s : List ℕ) (m : Option Message) → Reads s m → number_of m ≡ type_answer (parse s)
type_answer_lem s m r = number_meant (link_words s) m ∙ ap type_answer r.message

-- It is a number of 64 bits.
type_low : (m : Msg) → type_of m < 7
unfolding type_of
type_low (opening_query n) = omega arith
type_low (node_query n l i) = omega arith
type_low (opening n rule w p L M q len root cells) = omega arith
type_low (composition n l i x refs) = omega arith
type_low (literal n l i bytes) = omega arith
type_low (no_node n l i) = omega arith

pub type_answer_low : (m : Found Msg) → type_answer m < 2 ^ 64
unfolding type_answer
type_answer_low none = omega arith
type_answer_low (some m) = omega (arith, type_low m)

pub number_below : (ws : List ℕ) → number.of ws < 2 ^ 28
unfolding one plain
number_below ws = rest_below (get_or ws 0 0)
