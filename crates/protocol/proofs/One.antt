-- A setup's node has one genuine composition a session: its session, level and id say which query it answers, and the reply to a query about a
-- node is one message.
use mathlib.Core.Bool.{true}
use mathlib.Core.List.{List}
use mathlib.Core.Option.{Option, some}
use mathlib.Core.Path.{◌≡◌, refl, sym, ap, subst, ◌∙◌}
use Prim.Native.Nat.{ℕ}
use borrow.Author.Tests.{eq-eqb}
use Rattle.tree.specs.declared.Settings.{Settings}
use Rattle.message.specs.Words.{Ref}
use Rattle.message.specs.Messages.{Msg, node_query, composition, encode, parse, type_of}
use Rattle.message.proofs.Messages.{parse-encode}
use Rattle.protocol.specs.Receiver.{fits, session_of, level_of, id_of}
use Rattle.protocol.specs.Genuine.{blocks_of, first_of, found_reply, IsReply, GenuineReply, OneComposition}
use Rattle.protocol.proofs.Cases.{same_message}
use Rattle.protocol.proofs.Matching.{only_node}
use Rattle.protocol.proofs.Valid.{valid_reply}

-- A composition matches the query about its node.
composition-fits : (n l i : ℕ) (x : Option ℕ) (refs : List Ref) → fits (node_query n l i) (composition n l i x refs) ≡ true
unfolding fits session_of level_of id_of type_of
composition-fits n l i x refs = rw (eq-eqb n n refl, eq-eqb l l refl, eq-eqb i i refl) refl

module _ {σ : Settings} {string : List ℕ} {session : ℕ} {query : Msg} {bytes : List ℕ} (g : GenuineReply σ string session query bytes)
    (l i : ℕ) (x : Option ℕ) (refs : List Ref) (read : parse bytes ≡ some (composition session l i x refs)) where
  is_composition : g.message ≡ composition session l i x refs
  is_composition =
      let valid = valid_reply g.settings g.sender query g.message g.setup g.asked g.replies in
      same_message (sym (ap parse g.written ∙ parse-encode g.message valid) ∙ read)

  asked_for : query ≡ node_query session l i
  asked_for =
      only_node g.settings g.sender query g.message session l i g.replies
      (ap (fits (node_query session l i)) is_composition ∙ composition-fits session l i x refs)

  -- The bytes of a genuine composition: those of the reply about the string's first block of its level and id.
  bytes_are : bytes ≡ encode (found_reply σ string session l i (first_of l i (blocks_of σ string)))
  unfolding IsReply session_of
  bytes_are =
      let same = g.serves (ap session_of asked_for) in
      let replies = subst (λ (q : Msg). IsReply g.settings g.sender q g.message) asked_for g.replies in
      g.written ∙ ap encode (replies ∙ λ j. found_reply (same.0 j) (same.1 j) session l i (first_of l i (blocks_of (same.0 j) (same.1 j))))

pub one_composition : OneComposition
one_composition σ string session a b one other l i x y refs refs' read_a read-b =
    bytes_are one.reply l i x refs read_a ∙ sym (bytes_are other.reply l i y refs' read-b)
