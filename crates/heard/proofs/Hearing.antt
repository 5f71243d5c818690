-- What was read and said is what the message is, and whether it fits is question 11.
use Rattle.std.proofs.Common.{None, Some, Result, Ok, Err, Bool, true, false, List, ◌≡◌, refl, sym, ap, subst, ◌∙◌, ℕ, ◌≤◌, ◌<◌, eq-eqb, eqb, length, drop}
use Rattle.std.proofs.Math.Bool.{false≢true, and-true, and-false}
use Rattle.std.proofs.Math.Option.{none, some}
use Rattle.std.specs.Result.{IfOk, MatchResult}
use Rattle.message.specs.Words.{link_words, reference_word}
use Rattle.message.specs.Fields.{values_of, many_from, text_from}
use Rattle.message.specs.Messages.{Msg, opening_query, node_query, type_of, opening, composition, literal, cell_values, parse}
use Rattle.message.specs.Reading.{stated_by, Reads}
use Rattle.message.specs.Parts.{cells_in, references_in, bytes_in}
use Rattle.message.specs.declared.Message.{Message}
use Rattle.message.specs.declared.Message.TheVariants.{OpeningQuery, NodeQuery, Opening, Composition, Literal, NoNode}
use Rattle.refusal.specs.declared.Refusal.{Refusal}
use Rattle.refusal.specs.declared.Refusal.TheVariants.{Unexpected}
use Rattle.protocol.specs.State.{outstanding}
use Rattle.protocol.specs.Receiver.{session_of, level_of, id_of, fits, matches}
use Rattle.state.specs.declared.Receiver.{Receiver}
use Rattle.state.specs.declared.Outstanding.{Outstanding}
use Rattle.state.specs.declared.Outstanding.TheVariants as query
use Rattle.state.specs.Receivers.{state_of}
use Rattle.state.specs.Asking.{query_in, asking, AsksFor}
use Rattle.state.proofs.Asking.{waits}
use Rattle.heard.specs.declared.Reply.{Reply}
use Rattle.heard.specs.declared.Said.{Said}
use Rattle.heard.specs.declared.Said.TheVariants as said
use Rattle.heard.specs.Heard.{said_of_message, fitting, given, message_in, Hears}

module _ (message : List ℕ) where
  -- A message that is not well formed, and one that is.
  pub not_formed : Reads message None → parse message ≡ none
  not_formed r = sym r.message

  known : (m : Msg) → some m ≡ parse message → (message_in message ≡ m) × (parse message ≡ some (message_in message))
  unfolding given
  known m e = let is : message_in message ≡ m = ap given (sym e) in (is, sym e ∙ ap some (sym is))

  pub formed : (answer : Message) → Reads message (Some answer) → parse message ≡ some (message_in message)
  formed (OpeningQuery n) r = (known _ r.message).1
  formed (NodeQuery n l i) r = (known _ r.message).1
  formed (Opening n rule w p L M q len root at) r = (known _ r.message).1
  formed (Composition n l i trail at count) r = (known _ r.message).1
  formed (Literal n l i at count) r = (known _ r.message).1
  formed (NoNode n l i) r = (known _ r.message).1

  -- What each kind of message is.
  each_heard : (answer : Message) → Reads message (Some answer) → IfOk (said_of_message answer) (Hears message)
  unfolding cells_in references_in bytes_in
  each_heard (OpeningQuery n) r = tt
  each_heard (NodeQuery n l i) r = tt
  each_heard (Opening n rule w p L M q len root at) r =
      let m = opening n rule w p L M q len root in
      let is = known (m (values_of (cell_values q) (drop at (link_words message)))) r.message in
      sym r.message ∙ ap (λ (x : Msg). some (m (cells_in x))) (sym is.0)
  each_heard (Composition n l i trail at count) r =
      let is = (known (composition n l i (stated_by trail) (many_from reference_word (drop at (link_words message)))) r.message).0 in (
        sym r.message ∙ ap (λ (m : Msg). some (composition n l i (stated_by trail) (references_in m))) (sym is),
        r.counted ∙ ap (λ (m : Msg). length (references_in m)) (sym is),
      )
  each_heard (Literal n l i at count) r =
      let is = (known (literal n l i (text_from (drop at (link_words message)))) r.message).0 in (
        sym r.message ∙ ap (λ (m : Msg). some (literal n l i (bytes_in m))) (sym is),
        r.counted ∙ ap (λ (m : Msg). length (bytes_in m)) (sym is),
      )
  each_heard (NoNode n l i) r = sym r.message

  pub heard : (answer : Message) (x : Said) → Reads message (Some answer) → Ok x ≡ said_of_message answer → Hears message x
  heard answer x r e = subst (λ (x : Result Said Refusal). IfOk x (Hears message)) (sym e) (each_heard answer r)

  -- Question 11: what was said fits the query where the message matches it, and a query matches none.
  abbrev Fits : Msg → Outstanding → ℕ → Result Said Refusal → Type 0
  Fits m asked n answer =
      MatchResult answer (λ x. fits (asking n asked) m ≡ fitting asked n x) (λ question. (question ≡ Unexpected) × (fits (asking n asked) m ≡ false))

  each_fits : (asked : Outstanding) (n : ℕ) (answer : Message) → Reads message (Some answer) → Fits (message_in message) asked n (said_of_message answer)
  unfolding fits session_of level_of id_of type_of
  each_fits query.Opening n (OpeningQuery k) r = (refl, ap (fits (opening_query n)) (known _ r.message).0 ∙ and-false (eqb k n))
  each_fits query.Opening n (NodeQuery k l i) r = (refl, ap (fits (opening_query n)) (known _ r.message).0 ∙ and-false (eqb k n))
  each_fits query.Opening n (Opening k rule w p L M q len root at) r = ap (fits (opening_query n)) (known _ r.message).0 ∙ and-true (eqb k n)
  each_fits query.Opening n (Composition k l i trail at count) r = ap (fits (opening_query n)) (known _ r.message).0 ∙ and-false (eqb k n)
  each_fits query.Opening n (Literal k l i at count) r = ap (fits (opening_query n)) (known _ r.message).0 ∙ and-false (eqb k n)
  each_fits query.Opening n (NoNode k l i) r = ap (fits (opening_query n)) (known _ r.message).0 ∙ and-false (eqb k n)
  each_fits (query.Node level id) n (OpeningQuery k) r = (refl, ap (fits (node_query n level id)) (known _ r.message).0 ∙ and-false (eqb k n))
  each_fits (query.Node level id) n (NodeQuery k l i) r = (refl, ap (fits (node_query n level id)) (known _ r.message).0 ∙ and-false (eqb k n))
  each_fits (query.Node level id) n (Opening k rule w p L M q len root at) r =
      ap (fits (node_query n level id)) (known _ r.message).0 ∙ and-false (eqb k n)
  each_fits (query.Node level id) n (Composition k l i trail at count) r = ap (fits (node_query n level id)) (known _ r.message).0
  each_fits (query.Node level id) n (Literal k l i at count) r = ap (fits (node_query n level id)) (known _ r.message).0
  each_fits (query.Node level id) n (NoNode k l i) r = ap (fits (node_query n level id)) (known _ r.message).0

  module _ {s : Receiver} {asked : Outstanding} (a : AsksFor s asked) (answer : Message) (r : Reads message (Some answer)) where
    told : {x : Result Said Refusal} → x ≡ said_of_message answer → Fits (message_in message) asked s.session x
    told e = subst (Fits (message_in message) asked s.session) (sym e) (each_fits asked s.session answer r)

    matched : matches (outstanding (state_of s)) (message_in message) ≡ fits (asking s.session asked) (message_in message)
    unfolding matches
    matched = rw a.is refl

    pub fits_said : (x : Said) {t : Bool} → Ok x ≡ said_of_message answer → t ≡ fitting asked s.session x
        → matches (outstanding (state_of s)) (message_in message) ≡ t
    fits_said x e f = matched ∙ (told e ∙ sym f)

    pub fits_none : (question : Refusal) → Err question ≡ said_of_message answer
        → (question ≡ Unexpected) × (matches (outstanding (state_of s)) (message_in message) ≡ false)
    fits_none question e = let both = told e in (both.0, matched ∙ both.1)

-- A node reply that fits answers the query of a pending node.
pub node_waits : {s : Receiver} {asked : Outstanding} → AsksFor s asked → (r : Reply) → fitting asked s.session (said.Reply r) ≡ true
    → (0 < s.waiting) × (s.waiting ≤ 128)
unfolding query_in
node_waits {asked = query.Opening} a r e = absurd (false≢true e)
node_waits {s} {asked = query.Node level id} a r e = waits s a.runs not-opening
  where
    not-opening : s.phase ≡ 0 → ⊥
    not-opening z =
        let opening : query_in s ≡ Some query.Opening = rw (a.runs, eq-eqb _ 0 z) refl in
        let same : Some (query.Node level id) ≡ Some query.Opening = sym a.whole ∙ opening in
        cc
