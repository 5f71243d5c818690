-- No reply is longer than an opening or a literal of the whole string, whatever the tables hold: a literal's bytes are some of the string's, and
-- a composition has at most 32 references.
use mathlib.Core.Bool.{true, ◌&&◌}
use mathlib.Core.List.{List, [], ◌∷◌}
use mathlib.Core.Option.{Option, none, some}
use mathlib.Core.Path.{◌≡◌, subst}
use Prim.Native.Nat.{ℕ, ◌+◌, ◌*◌, ◌/◌, ◌≤◌}
use native.Mathlib.Omega.{arith}
use lib.Dec.{ltb}
use lib.ListN.{length, drop, length-append, length-take, length-drop}
use borrow.Author.Tests.{ltb-true}
use Rattle.tree.specs.declared.Settings.{Settings}
use Rattle.tree.specs.Questions.{refusal}
use Rattle.shingle.specs.declared.Shingle.{Shingle}
use Rattle.shingle.proofs.PairOrder.{and_true}
use Rattle.sketch.proofs.Sums.{length-along}
use Rattle.single.specs.Peeling.{rows_in}
use Rattle.setup.proofs.Questions.{width_within}
use Rattle.message.specs.Words.{Ref, reference_word}
use Rattle.message.specs.Fields.{one, value, values, values_to, many, many_to, maybe_to, maybe, only, text, text_to}
use Rattle.message.specs.Messages.{Msg, opening_query, node_query, opening, composition, literal, no_node, headed, words_then, size_of, encode}
use Rattle.message.proofs.Messages.{length-encode}
use Rattle.message_writer.proofs.Writing.{length-text}
use Rattle.protocol.specs.Lent.{Lent}
use Rattle.node_table.specs.declared.Entry.{Entry}
use Rattle.protocol.specs.Nodes.{block_in}
use Rattle.protocol.specs.Sender.{child_ids, composable, refs_of, referable, node_reply, opening_reply, reply_to}
use Rattle.protocol.proofs.Cases.{chosen, same_message, no_message}
use Rattle.protocol.proofs.Valid.{length_references, length_values}

-- Whether a message fits so many bytes, for each type of reply.
abbrev Fits : ℕ → Msg → Type 0
Fits room x = size_of x * 4 ≤ room

none_fits : (room n l i : ℕ) → 24 ≤ room → Fits room (no_node n l i)
unfolding size_of words_then headed one value
none_fits room n l i h = omega arith

literal_fits : (room n l i : ℕ) (bytes : List ℕ) → (6 + (length bytes + 2) / 3) * 4 ≤ room → Fits room (literal n l i bytes)
unfolding size_of words_then headed one value text
literal_fits room n l i bytes h = let e = length-append (text_to bytes) [] in omega (arith, e, length-text bytes, h)

composition_fits : (room n l i : ℕ) (x : Option ℕ) (refs : List Ref) → length refs ≤ 32 → 156 ≤ room → Fits room (composition n l i x refs)
unfolding size_of words_then headed one value only many maybe maybe_to
composition_fits room n l i none refs h k = let e = length-append (many_to reference_word refs) [] in omega (arith, e, length_references refs, h, k)
composition_fits room n l i (some x) refs h k = let e = length-append (many_to reference_word refs) [] in omega (arith, e, length_references refs, h, k)

opening_fits : (room n rule w p L M q len root : ℕ) (cells : List ℕ) → (12 + 3 * length cells) * 4 ≤ room
    → Fits room (opening n rule w p L M q len root cells)
unfolding size_of words_then headed one value values
opening_fits room n rule w p L M q len root cells h = let e = length-append (values_to cells) [] in omega (arith, e, length_values cells, h)

length_rows : (q : ℕ) (cells : List ℕ) → length (rows_in q cells) ≡ q * 15
unfolding rows_in
length_rows q cells = length-along (q * 15) 0 _

block_short : (string : List ℕ) (e : Entry) → length (block_in string e) ≤ length string
unfolding block_in
block_short string e = omega (arith, length-take e.size (drop e.start string), length-drop e.start string)

node_fits : (room : ℕ) (σ : Settings) (string : List ℕ) (list : List Shingle) (n l i : ℕ) (es : List Entry) → 156 ≤ room
    → (6 + (length string + 2) / 3) * 4 ≤ room → Fits room (node_reply σ string list n l i es)
unfolding node_reply
node_fits room σ string list n l i [] h k = none_fits room n l i (omega (arith, h))
node_fits room σ string list n l i (e ∷ es) h k =
    let ids = child_ids (length string) l es in
    chosen (Fits room) (composable σ l ids && referable list (l + 1) ids) _ _
    (λ t. composition_fits room n l i _ _ (few ids (and_true (composable σ l ids) _ t).1) h)
    (λ t. literal_fits room n l i _ (omega (arith, block_short string e, k)))
  where
    few : (ids : List ℕ) → referable list (l + 1) ids ≡ true → length (refs_of list (l + 1) ids) ≤ 32
    few ids t = unfold referable in let h = ltb-true (length (refs_of list (l + 1) ids)) 33 (and_true (ltb (length (refs_of list (l + 1) ids)) 33) _ t).0 in omega (arith, h)

-- A room for the opening and for a literal of the whole string.
module _ (σ : Settings) (m : Lent) (asked : refusal σ (length m.string) ≡ 0) (room : ℕ)
    (opens : (12 + 45 * σ.width) * 4 ≤ room) (whole : (6 + (length m.string + 2) / 3) * 4 ≤ room) where
  words_fit : (query x : Msg) → reply_to σ m query ≡ some x → Fits room x
  unfolding reply_to opening_reply
  words_fit (opening_query n) x e =
      let many = length_rows σ.width m.cells in
      subst (Fits room) (same_message e) (opening_fits room n _ _ _ _ _ _ _ _ _ (omega (arith, opens, many)))
  words_fit (node_query n l i) x e =
      let width = (width_within σ (length m.string) asked).0 in
      subst (Fits room) (same_message e) (node_fits room σ m.string _ n l i _ (omega (arith, width, opens)) whole)
  words_fit (opening n rule w p L M q size root cells) x e = absurd (no_message e)
  words_fit (composition n l i y refs) x e = absurd (no_message e)
  words_fit (literal n l i bytes) x e = absurd (no_message e)
  words_fit (no_node n l i) x e = absurd (no_message e)

  pub reply_fits : (query x : Msg) → reply_to σ m query ≡ some x → length (encode x) ≤ room
  reply_fits query x e = omega (arith, words_fit query x e, length-encode x)
