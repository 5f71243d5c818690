-- What a receiver takes from the answer: of a well-formed composition it is question 17's, and the children are those of the definition.
use Rattle.std.proofs.Common.{None, Some, Option as Answer, Bool, true, false, cond, ◌&&◌, List, [], ◌∷◌, map, ◌≡◌, refl, sym, ap, subst, ◌∙◌, ℕ, zero, suc, ◌+◌, ◌%◌, ◌≤◌, ◌<◌, arith, le-leb, eqb, leb, length, get_or, take, drop, take_at, ext_get_or}
use Rattle.std.proofs.Math.Option.{Option, none, some}
use Rattle.std.specs.Option.{is_some}
use lib.ListN.{length-map}
use Rattle.tree.specs.declared.Settings.{Settings}
use Rattle.shingle.specs.declared.Shingle.{Shingle}
use Rattle.trail.specs.Trails.{total, order_of}
use Rattle.trail.proofs.Orders.{listed_length}
use Rattle.message.specs.Words.{link_words, Ref, reference_word, is_end_word}
use Rattle.message.specs.Fields.{Every, one, head, number, maybe_number, value, many, many_from, text_after}
use Rattle.message.specs.Messages.{Msg, composition, body_of, parse_words, parse}
use Rattle.message.specs.Reading.{stated_by, references_at, numbers_are, pair_is, opening_by_places}
use Rattle.message.specs.Parts.{references_in, is_numbered}
use Rattle.message.proofs.Words.{reference_lawful}
use Rattle.message.proofs.Fields.{was_taken, went, many_lawful}
use Rattle.message.proofs.Messages.{picked, none_is_none}
use Rattle.message.proofs.Reading.{cells_end, composed, references_end, opening_query_form, node_query_form, no_node_form, literal_form, composition_form, opening_form}
use Rattle.message.proofs.Parts.{reference_read}
use Rattle.protocol.specs.Numbers.{meant_by}
use Rattle.protocol.specs.State.{pending}
use Rattle.protocol.specs.Receiver.{previouses, owns, counts, composes, children}
use Rattle.composition.specs.Composition.{Composing, refs_from, refs_in, refused, composed_children}
use Rattle.composition.specs.Table.{ref}
use Rattle.composition.proofs.Filling.{length_refs}
use Rattle.composition.proofs.Passing.{passed}

-- The references of a message are within their fields.
abbrev Fitting : Msg → Type 0
Fitting m = Every reference_word.Fits (references_in m)

module _ (ws : List ℕ) where
  found_fits : (m found : Msg) (t : Bool) → cond t (some found) none ≡ some m → Fitting found → Fitting m
  found_fits m found t e f = let w = was_taken t (some found) m e in subst Fitting (cc) f

  many_fits : (at : ℕ) → Every reference_word.Fits (many_from reference_word (drop at ws))
  many_fits at = unfold many in (many_lawful reference_word reference_lawful).fits (drop at ws) refl

  body_fits : (c n t : ℕ) (m : Msg) → body_of c n t (drop 1 ws) ≡ some m → Fitting m
  unfolding body_of references_in opening_by_places
  body_fits c n t m e =
      picked (eqb t 1) _ _ e (λ is p. found_fits m _ (is_end_word c (drop 1 ws)) (sym (opening_query_form ws c n) ∙ p) tt) λ e.
      picked (eqb t 2) _ _ e (λ is p. found_fits m _ (pair_is ws && is_end_word c (drop 5 ws)) (sym (node_query_form ws c n) ∙ p) tt) λ e.
      picked (eqb t 3) _ _ e
      (λ is p. found_fits m _ (numbers_are ws 1 7 && (value.is (drop 8 ws) && cells_end ws c n)) (sym (opening_form ws c n) ∙ p) tt) λ e.
      picked (eqb t 4) _ _ e
      (λ is p.
      let at = references_at (number.is (drop 5 ws)) in
      found_fits m (composed ws c n (maybe_number.of (drop 5 ws)) at) (pair_is ws && references_end ws c n at)
      (sym (composition_form ws c n) ∙ p) (many_fits at)) λ e.
      picked (eqb t 5) _ _ e (λ is p. found_fits m _ (pair_is ws && is_end_word c (text_after (drop 5 ws))) (sym (literal_form ws c n) ∙ p) tt) λ e.
      picked (eqb t 6) _ _ e (λ is p. found_fits m _ (pair_is ws && is_end_word c (drop 5 ws)) (sym (no_node_form ws c n) ∙ p) tt) λ e.
      absurd (none_is_none e)

fits : (s : List ℕ) (m : Msg) → parse s ≡ some m → Fitting m
unfolding parse parse_words one
fits s m e =
    let w = was_taken (eqb (length s % 4) 0) (parse_words (link_words s)) m e in
    let h = head.of (link_words s) in
    body_fits (link_words s) (length (link_words s)) h.session h.type m (went head (link_words s) _ m w.1)

-- "reference counts 1 to 32": so there are not more references than their counts add up to.
at_most_total : (refs : List Ref) → Every reference_word.Fits refs → length refs ≤ total (counts refs)
unfolding reference_word total
at_most_total [] f = omega arith
at_most_total (r ∷ refs) f = let h = at_most_total refs f.1 in let some : 0 < r.count = f.0.1 in omega arith

refs_at : (ws : List ℕ) (n at k : ℕ) (d : Ref) → k < n → get_or (refs_from ws n at) k d ≡ reference_word.of (get_or ws (at + k) 0)
unfolding refs_from
refs_at ws zero at k d h = absurd (omega arith)
refs_at ws (suc n) at zero d h = ap (λ (m : ℕ). reference_word.of (get_or ws m 0)) {x = at} {y = at + 0} (omega arith)
refs_at ws (suc n) at (suc k) d h =
    refs_at ws n (at + 1) k d (omega arith) ∙ ap (λ (m : ℕ). reference_word.of (get_or ws m 0)) {x = at + 1 + k} {y = at + suc k} (omega arith)

-- What the answer says of the children.
pub record Composed (list : List Shingle) (l : ℕ) (trail : Option ℕ) (refs : List Ref) (rest : ℕ) (r : Composing) : Type 0 where
  pub pending_are : map (pending (l + 1)) (take r.count r.ids) ≡ children list l trail refs
  pub count_is : r.count ≡ total (counts refs)
  pub some_are : 1 ≤ r.count
  pub few : r.count ≤ 32
  pub room : rest + r.count ≤ 128

module _ (message : List ℕ) (n l i : ℕ) (trail : Option ℕ) (refs : List Ref) (is : parse message ≡ some (composition n l i trail refs)) where
  -- The references that are read from their place on are those of the message.
  pub refs_are : (at count : ℕ) → at ≡ references_at (is_numbered (composition n l i trail refs)) → count ≡ length refs → refs_in message at count ≡ refs
  unfolding refs_in references_in
  refs_are at count from e =
      ext_get_or (ref 0 0) (refs_from (link_words message) count at) refs (length_refs message at count ∙ e) λ k h.
      let low : k < count = omega (arith, length_refs message at count, h) in
      refs_at (link_words message) count at k (ref 0 0) low
      ∙ (reference_read message at k (reference_word.of (get_or (link_words message) (at + k) 0)) refl).read (composition n l i trail refs) is from
      (omega arith)

  module _ (σ : Settings) (list : List Shingle) (rest : ℕ) where
    abbrev answer : Composing
    answer = composed_children σ list l trail refs rest

    not_many : composes σ list l trail refs rest ≡ true → length refs ≤ 32
    not_many e =
        let p = passed σ list l trail refs rest e in
        let long : length refs ≤ total (counts refs) =
        unfold references_in in at_most_total refs (fits message (composition n l i trail refs) is) in
        omega (arith, p.few)

    -- (1) The answer is question 17's.
    pub composed_is : answer.composed ≡ composes σ list l trail refs rest
    unfolding composed_children
    composed_is = said (leb (length refs) 32) (composes σ list l trail refs rest) _ refl (λ e. le-leb (length refs) 32 (not_many e))
      where
        said : (a b : Bool) (given : Composing) → given.composed ≡ true → (b ≡ true → a ≡ true) → (cond (a && b) given refused).composed ≡ b
        said true true given e h = e
        said false true given e h = h refl
        said true false given e h = refl
        said false false given e h = refl

    -- (2) Where it is yes, the children are those of the definition.
    pub composed_gives : answer.composed ≡ true → Composed list l trail refs rest answer
    unfolding composed_children children
    composed_gives e =
        let asked : composes σ list l trail refs rest ≡ true = sym composed_is ∙ e in
        let p = passed σ list l trail refs rest asked in
        let long = listed_length (previouses list refs) (owns list refs) (counts refs) columns (meant_by trail) p.there in
        rw (le-leb (length refs) 32 (not_many asked), asked)
        (record {
          pending_are =
              ap (map (pending (l + 1)))
              (take_at (order_of (previouses list refs) (owns list refs) (counts refs) (meant_by trail)) _ (total (counts refs)) long);
          count_is = refl;
          some_are = p.some;
          few = p.few;
          room = p.room;
        })
      where
        columns : (length (previouses list refs) ≡ length (counts refs)) × (length (owns list refs) ≡ length (counts refs))
        columns = (length-map refs _ ∙ sym (length-map refs _), length-map refs _ ∙ sym (length-map refs _))

-- A composition carries a number exactly if one is stated.
numbered_is : (n l i : ℕ) (trail : Answer ℕ) (refs : List Ref) → is_numbered (composition n l i (stated_by trail) refs) ≡ is_some trail
unfolding is_numbered
numbered_is n l i (Some x) refs = refl
numbered_is n l i None refs = refl

-- Both, of an answer over the references that were read.
pub record Answered (σ : Settings) (list : List Shingle) (l : ℕ) (trail : Option ℕ) (refs : List Ref) (rest : ℕ) (r : Composing) : Type 0 where
  pub is : r.composed ≡ composes σ list l trail refs rest
  pub gives : r.composed ≡ true → Composed list l trail refs rest r

pub answered : (message : List ℕ) (n l i : ℕ) (trail : Answer ℕ) (refs : List Ref)
    → parse message ≡ some (composition n l i (stated_by trail) refs) → (count : ℕ) → count ≡ length refs
    → (σ : Settings) (list : List Shingle) (rest : ℕ) (r : Composing)
    → r ≡ composed_children σ list l (stated_by trail) (refs_in message (references_at (is_some trail)) count) rest
    → Answered σ list l (stated_by trail) refs rest r
answered message n l i trail refs is count e σ list rest r f =
    let from : references_at (is_some trail) ≡ references_at (is_numbered (composition n l i (stated_by trail) refs)) =
    ap references_at (sym (numbered_is n l i trail refs)) in
    let same : composed_children σ list l (stated_by trail) refs rest ≡ r =
    sym (f ∙ ap (λ (x : List Ref). composed_children σ list l (stated_by trail) x rest)
    (refs_are message n l i (stated_by trail) refs is (references_at (is_some trail)) count from e)) in
    subst (Answered σ list l (stated_by trail) refs rest) same
    (record { is = composed_is message n l i (stated_by trail) refs is σ list rest; gives = composed_gives message n l i (stated_by trail) refs is σ list rest })
