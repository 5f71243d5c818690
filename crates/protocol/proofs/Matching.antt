-- Which query a genuine reply answers: its session, type, level and id say it.
use mathlib.Core.Bool.{Bool, true, false, cond, ◌&&◌}
use mathlib.Core.List.{List}
use mathlib.Core.Option.{Option, none, some}
use mathlib.Core.Path.{◌≡◌, refl, sym, ap, subst, ◌∙◌}
use Prim.Native.Nat.{ℕ}
use lib.Dec.{eqb}
use borrow.Author.Tests.{eqb-true, eq-eqb}
use Rattle.entries.proofs.Linear.{both}
use Rattle.shingle.proofs.PairOrder.{and_true}
use Rattle.tree.specs.declared.Settings.{Settings}
use Rattle.tree.specs.Questions.{within}
use Rattle.message.specs.Messages.{Msg, opening_query, node_query, opening, composition, literal, no_node, type_of}
use Rattle.protocol.specs.Sender.{composable}
use Rattle.protocol.specs.Receiver.{session_of, level_of, id_of, fits}
use Rattle.protocol.specs.Genuine.{children_ids, blocks_of, first_of, block_reply, found_reply, IsReply}

-- What a reply has of its query.
record Answering (query m : Msg) : Type 0 where
  session : session_of m ≡ session_of query
  level : level_of m ≡ level_of query
  id : id_of m ≡ id_of query
  type : cond (eqb (type_of query) 1) (eqb (type_of m) 3) (within 4 6 (type_of m)) ≡ true

module _ (σ : Settings) (string : List ℕ) where
  block_answering : (n l i : ℕ) (bytes : List ℕ) (t : Bool) → Answering (node_query n l i) (block_reply σ string n l i bytes t)
  unfolding block_reply session_of level_of id_of type_of
  block_answering n l i bytes true = record { session = refl; level = refl; id = refl; type = refl }
  block_answering n l i bytes false = record { session = refl; level = refl; id = refl; type = refl }

  found_answering : (n l i : ℕ) (o : Option (List ℕ)) → Answering (node_query n l i) (found_reply σ string n l i o)
  unfolding found_reply session_of level_of id_of type_of
  found_answering n l i none = record { session = refl; level = refl; id = refl; type = refl }
  found_answering n l i (some bytes) = block_answering n l i bytes (composable σ l (children_ids σ l bytes))

  answering : (query m : Msg) → IsReply σ string query m → Answering query m
  unfolding IsReply session_of level_of id_of type_of
  answering (opening_query n) m r =
      subst (λ (x : Msg). Answering (opening_query n) x) (sym r) (record { session = refl; level = refl; id = refl; type = refl })
  answering (node_query n l i) m r = subst (Answering (node_query n l i)) (sym r) (found_answering n l i (first_of l i (blocks_of σ string)))
  answering (opening n rule w p L M q size root cells) m r = absurd r
  answering (composition n l i x refs) m r = absurd r
  answering (literal n l i bytes) m r = absurd r
  answering (no_node n l i) m r = absurd r

  -- A reply to a query fits it.
  pub reply_fits : (query m : Msg) → IsReply σ string query m → fits query m ≡ true
  unfolding fits
  reply_fits query m r =
      let a = answering query m r in
      simp (a.session, a.level, a.id, eq-eqb) (go (eqb (type_of query) 1) (eqb (type_of m) 3) (within 4 6 (type_of m)) a.type)
    where
      go : (t u v : Bool) → cond t u v ≡ true → cond t u (v && true) ≡ true
      go true u v e = e
      go false u true e = refl
      go false u false e = e

  -- What fits a query.
  fits_opening : (n : ℕ) (m : Msg) → fits (opening_query n) m ≡ true → (session_of m ≡ n) × (eqb (type_of m) 3 ≡ true)
  unfolding fits type_of session_of
  fits_opening n m e =
      let t = and_true (eqb (session_of m) n) (eqb (type_of m) 3) e in
      (eqb-true _ _ t.0, t.1)

  fits_node : (n l i : ℕ) (m : Msg) → fits (node_query n l i) m ≡ true → (session_of m ≡ n) × (level_of m ≡ l) × (id_of m ≡ i) × (within 4 6 (type_of m) ≡ true)
  unfolding fits type_of session_of level_of id_of
  fits_node n l i m e =
      let t = and_true (eqb (session_of m) n) (within 4 6 (type_of m) && (eqb (level_of m) l && eqb (id_of m) i)) e in
      let u = and_true (within 4 6 (type_of m)) (eqb (level_of m) l && eqb (id_of m) i) t.1 in
      let v = and_true (eqb (level_of m) l) (eqb (id_of m) i) u.1 in
      (eqb-true _ _ t.0, eqb-true _ _ v.0, eqb-true _ _ v.1, u.0)

  apart_types : (x : ℕ) → eqb x 3 ≡ true → within 4 6 x ≡ true → ⊥
  apart_types x e f = both f (ap (within 4 6) (eqb-true x 3 e))

  -- A reply fits no other query of the receiver's.
  pub only_opening : (query m : Msg) (n : ℕ) → IsReply σ string query m → fits (opening_query n) m ≡ true → query ≡ opening_query n
  unfolding IsReply session_of type_of
  only_opening (opening_query k) m n r e = ap opening_query (sym (answering (opening_query k) m r).session ∙ (fits_opening n m e).0)
  only_opening (node_query k l i) m n r e = absurd (apart_types (type_of m) (fits_opening n m e).1 (answering (node_query k l i) m r).type)
  only_opening (opening k rule w p L M q size root cells) m n r e = absurd r
  only_opening (composition k l i x refs) m n r e = absurd r
  only_opening (literal k l i bytes) m n r e = absurd r
  only_opening (no_node k l i) m n r e = absurd r

  pub only_node : (query m : Msg) (n l i : ℕ) → IsReply σ string query m → fits (node_query n l i) m ≡ true → query ≡ node_query n l i
  unfolding IsReply session_of level_of id_of type_of
  only_node (opening_query k) m n l i r e = absurd (apart_types (type_of m) (answering (opening_query k) m r).type (fits_node n l i m e).3)
  only_node (node_query k l' i') m n l i r e =
      let a = answering (node_query k l' i') m r in
      let f = fits_node n l i m e in
      let session : k ≡ n = sym a.session ∙ f.0 in
      let level : l' ≡ l = sym a.level ∙ f.1 in
      let id : i' ≡ i = sym a.id ∙ f.2 in
      λ j. node_query (session j) (level j) (id j)
  only_node (opening k rule w p L M q size root cells) m n l i r e = absurd r
  only_node (composition k l' i' x refs) m n l i r e = absurd r
  only_node (literal k l' i' bytes) m n l i r e = absurd r
  only_node (no_node k l' i') m n l i r e = absurd r
