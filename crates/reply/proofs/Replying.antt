-- The replies as messages of the definition, and the way from the questions to them.
use Rattle.std.specs.Prelude.{Option as Answer}
use Rattle.std.proofs.Common.{None, Some, Ok, Err, Bool, true, false, cond, ◌&&◌, List, [], ◌∷◌, ◌++◌, length, ◌≡◌, ◌≢◌, refl, sym, ap, ◌∙◌, ℕ, ◌+◌, ◌*◌, ◌-◌, ◌^◌, ◌≤◌, arith}
use Rattle.std.proofs.Math.Option.{Option, none, some}
use Prim.Native.Nat.{zero, suc}
use native.Mathlib.Numerals.{add-one}
use borrow.Author.Tests.{eq-eqb, ne_eqb, leb-true}
use lib.Dec.{leb}
use lib.ListN.{get_or, take, drop}
use Rattle.refusal.specs.Answer.{number_of}
use Rattle.refusal.specs.declared.Refusal.{Refusal}
use Rattle.refusal.specs.declared.Refusal.TheVariants.{Form, Unexpected}
use Rattle.rows.specs.Rows.{words_of}
use Rattle.partition.specs.Cuts.{rule_number}
use Rattle.tree.specs.declared.Settings.{Settings}
use Rattle.node_table.specs.Entries.{id_at, start_at, size_at, entry_at}
use Rattle.shingle.specs.Table.{shingles_in}
use Rattle.sketch.specs.Sums.{along}
use Rattle.single.specs.Peeling.{rows_in}
use Rattle.setup.specs.Questions.{tables_fit, lent_refusal}
use Rattle.message.specs.Messages.{Msg, opening_query, node_query, opening, composition, literal, no_node, encode, parse}
use Rattle.message.specs.Reading.{Reads}
use Rattle.message.specs.declared.Message.{Message}
use Rattle.message.specs.declared.Message.TheVariants.{OpeningQuery, NodeQuery, Opening, Composition, Literal, NoNode}
use Rattle.message_writer.specs.Writing.{Written, first_rows}
use Rattle.protocol.specs.Lent.{Lent, lent}
use Rattle.node_table.specs.Nodes.{inside, entries_in, place_of, sought}
use Rattle.protocol.specs.Nodes.{block_in}
use Rattle.protocol.specs.Numbers.{stated}
use Rattle.protocol.specs.Sender.{composable, refs_of, referable, node_reply, opening_reply, reply_to, unwritten, writing, replying, hearing, reply}
use Rattle.reply.specs.declared.query.NodeQuery as query
use Rattle.reply.specs.declared.query.Query.TheVariants as asks
use Rattle.reply.specs.Reply.{reply_of, Replied}
use Rattle.reply.proofs.Searching.{none_asked, first_asked}
use Rattle.reply.specs.declared.plan.Plan.{Plan}
use Rattle.reply.specs.Parts.{ids_below, composed_by, NodePlanned, node_reply_of, query_of_message}

-- A message written is any message equal to it written.
retold : {b a : List ℕ} {m m' : Msg} {r : ℕ} → m ≡ m' → Written b a (encode m) r → Written b a (encode m') r
retold e w = rw (← e) w

-- The rows of the cells, one by one.
rows_along : (count i : ℕ) (rows : List ℕ) → first_rows count i rows ≡ along count i (λ (k : ℕ). get_or rows k 0)
unfolding first_rows along
rows_along zero i rows = refl
rows_along (suc count) i rows = rw (← add-one i) (ap (λ (r : List ℕ). get_or rows i 0 ∷ r) (rows_along count (i + 1) rows))

cells_are : (q : ℕ) (cells : List ℕ) → first_rows (q * 3 * 5) 0 (words_of cells) ≡ rows_in q cells
unfolding rows_in
cells_are q cells =
    rows_along (q * 3 * 5) 0 (words_of cells)
    ∙ ap (λ (n : ℕ). along n 0 (λ (k : ℕ). get_or (words_of cells) k 0)) {x = q * 3 * 5} {y = q * 15} (omega arith)

pub opening_written : (σ : Settings) (m : Lent) (n root : ℕ) {b a : List ℕ} {r : ℕ} → root ≡ id_at m.nodes 0
    → Written b a
    (encode (opening n rule_number σ.window σ.fan_out σ.levels σ.nominal σ.width (length m.string) root
    (first_rows (σ.width * 3 * 5) 0 (words_of m.cells)))) r
    → Written b a (encode (opening_reply σ m n)) r
unfolding opening_reply
opening_written σ m n root e w =
    retold (λ j. opening n rule_number σ.window σ.fan_out σ.levels σ.nominal σ.width (length m.string) (e j) (cells_are σ.width m.cells j)) w

-- The bytes of the node of entry k.
module _ (string nodes : List ℕ) (k start size : ℕ) (s : start ≡ start_at nodes k) (z : size ≡ size_at nodes k) where
  pub block_end : inside (length string) (entry_at nodes k) ≡ true → start + size ≤ length string
  block_end h = let fits = leb-true (start_at nodes k + size_at nodes k) (length string) h in omega (arith, s, z, fits)

  pub block_written : (n l i : ℕ) {b a : List ℕ} {r : ℕ} → Written b a (encode (literal n l i (take (start + size - start) (drop start string)))) r
      → Written b a (encode (literal n l i (block_in string (entry_at nodes k)))) r
  unfolding block_in
  block_written n l i w =
      let less : start + size - start ≡ size_at nodes k = omega arith in
      retold (λ j. literal n l i (take (less j) (drop (s j) string))) w

-- The reply to a node query.
module _ (σ : Settings) (m : Lent) (n l i k : ℕ)
    (is : k ≡ place_of (sought (length m.string) l l i) (entries_in m.nodes)) where
  pub none_written : {b a : List ℕ} {r : ℕ} → id_at m.nodes k ≡ 0 → Written b a (encode (no_node n l i)) r
      → Written b a (encode (node_reply_of σ m n l i)) r
  unfolding node_reply_of node_reply
  none_written h w = retold (rw (none_asked m.nodes (length m.string) l i k is h)) w

  reply_is : (id_at m.nodes k ≡ 0 → ⊥) → node_reply_of σ m n l i
      ≡ cond (composable σ l (ids_below m.nodes (length m.string) l k) && referable (shingles_in m.shingles) (l + 1) (ids_below m.nodes (length m.string) l k))
      (composition n l i (stated (ids_below m.nodes (length m.string) l k)) (refs_of (shingles_in m.shingles) (l + 1) (ids_below m.nodes (length m.string) l k)))
      (literal n l i (block_in m.string (entry_at m.nodes k)))
  unfolding node_reply_of node_reply ids_below
  reply_is h = rw (first_asked m.nodes (length m.string) l i k is h)

  module _ (found : id_at m.nodes k ≡ 0 → ⊥) where
    pub composition_written : (p : Plan) → NodePlanned σ (length m.string) m.nodes m.shingles l k (Some p) → {b a : List ℕ} {r : ℕ}
        → Written b a (encode (composed_by p n l i)) r → Written b a (encode (node_reply_of σ m n l i)) r
    unfolding composed_by
    composition_written p planned w =
        retold
        ((λ j. composition n l i (planned.1.trail_is j) (planned.1.references_are j)) ∙ sym (reply_is found ∙ rw planned.0 refl)) w

    pub literal_written : NodePlanned σ (length m.string) m.nodes m.shingles l k None → {b a : List ℕ} {r : ℕ}
        → Written b a (encode (literal n l i (block_in m.string (entry_at m.nodes k)))) r
        → Written b a (encode (node_reply_of σ m n l i)) r
    literal_written unplanned w = retold (sym (reply_is found ∙ rw unplanned refl)) w

-- A message written is what the definition writes.
written_answer : {b a : List ℕ} {r : ℕ} (bytes : List ℕ) → Written b a bytes r → r ≡ (writing bytes b).answer
unfolding writing
written_answer {b} bytes w = w.answer_is ∙ go (leb (length bytes) (length b))
  where
    go : (t : Bool) → cond t (2 ^ 32 + length bytes) 20
        ≡ (cond t (record { answer = 2 ^ 32 + length bytes; buffer = bytes ++ drop (length bytes) b }) (unwritten 20 b)).answer
    go true = refl
    go false = refl

written_buffer : {b a : List ℕ} {r : ℕ} (bytes : List ℕ) → Written b a bytes r → a ≡ (writing bytes b).buffer
unfolding writing
written_buffer {b} bytes w = w.buffer_is ∙ go (leb (length bytes) (length b))
  where
    go : (t : Bool) → cond t (bytes ++ drop (length bytes) b) b
        ≡ (cond t (record { answer = 2 ^ 32 + length bytes; buffer = bytes ++ drop (length bytes) b }) (unwritten 20 b)).buffer
    go true = refl
    go false = refl

-- The questions, and then the reply.
module _ (σ : Settings) (string nodes shingles cells message b : List ℕ) (refused : ℕ)
    (is : refused ≡ lent_refusal σ (length string) (tables_fit σ.width (length nodes) (length shingles) (length cells))) where
  abbrev given : Lent
  given = lent string nodes shingles cells []

  pub reply_refused : refused ≢ 0 → Replied σ string nodes shingles cells message b b refused
  unfolding reply
  reply_refused used = record { answer_is = rw (← is, ne_eqb refused 0 used); buffer_is = rw (← is, ne_eqb refused 0 used) }

  module _ (passed : refused ≡ 0) where
    heard : (m : Option Msg) → m ≡ parse message → reply_of σ string nodes shingles cells message b ≡ hearing σ given m b
    unfolding reply
    heard m e = rw (← is, eq-eqb refused 0 passed, e)

    refusing : (answer : ℕ) (m : Option Msg) → m ≡ parse message → hearing σ given m b ≡ unwritten answer b
        → Replied σ string nodes shingles cells message b b answer
    refusing answer m e h = record { answer_is = sym (ap (λ w. w.answer) (heard m e ∙ h)); buffer_is = sym (ap (λ w. w.buffer) (heard m e ∙ h)) }

    opening_heard : (n : ℕ) → hearing σ given (some (opening_query n)) b ≡ writing (encode (opening_reply σ given n)) b
    unfolding hearing replying reply_to
    opening_heard n = refl

    node_heard : (n l i : ℕ) → hearing σ given (some (node_query n l i)) b ≡ writing (encode (node_reply_of σ given n l i)) b
    unfolding hearing replying reply_to node_reply_of
    node_heard n l i = refl

    pub unheard : (answer : Answer Message) (question : Refusal) → Reads message answer → query_of_message answer ≡ Err question
        → Replied σ string nodes shingles cells message b b (number_of question)
    unfolding hearing replying reply_to
    unheard None question read is = let same : question ≡ Form = cc in rw same (refusing 10 none read.message refl)
    unheard (Some (OpeningQuery n)) question read is = absurd cc
    unheard (Some (NodeQuery n l i)) question read is = absurd cc
    unheard (Some (Opening n rule w p L M q len root at)) question read is = let same : question ≡ Unexpected = cc in rw same (refusing 11 _ read.message refl)
    unheard (Some (Composition n l i trail at count)) question read is = let same : question ≡ Unexpected = cc in rw same (refusing 11 _ read.message refl)
    unheard (Some (Literal n l i at count)) question read is = let same : question ≡ Unexpected = cc in rw same (refusing 11 _ read.message refl)
    unheard (Some (NoNode n l i)) question read is = let same : question ≡ Unexpected = cc in rw same (refusing 11 _ read.message refl)

    replied : {a : List ℕ} {r : ℕ} (m : Option Msg) (answer : Msg) → m ≡ parse message
        → hearing σ given m b ≡ writing (encode answer) b → Written b a (encode answer) r
        → Replied σ string nodes shingles cells message b a r
    replied m answer e h w =
        record {
          answer_is = written_answer _ w ∙ sym (ap (λ x. x.answer) (heard m e ∙ h));
          buffer_is = written_buffer _ w ∙ sym (ap (λ x. x.buffer) (heard m e ∙ h));
        }

    pub opening_replied : {a : List ℕ} {r : ℕ} (answer : Answer Message) (session : ℕ) → Reads message answer
        → query_of_message answer ≡ Ok (asks.Opening session)
        → Written b a (encode (opening_reply σ given session)) r → Replied σ string nodes shingles cells message b a r
    opening_replied (Some (OpeningQuery n)) session read is w =
        let same : session ≡ n = cc in
        replied (some (opening_query n)) (opening_reply σ given n) read.message (opening_heard n) (rw same at w)
    opening_replied None session read is w = absurd cc
    opening_replied (Some (NodeQuery n l i)) session read is w = absurd cc
    opening_replied (Some (Opening n rule w' p L M q' len root at)) session read is w = absurd cc
    opening_replied (Some (Composition n l i trail at count)) session read is w = absurd cc
    opening_replied (Some (Literal n l i at count)) session read is w = absurd cc
    opening_replied (Some (NoNode n l i)) session read is w = absurd cc

    pub node_replied : {a : List ℕ} {r : ℕ} (answer : Answer Message) (asked : query.NodeQuery) → Reads message answer
        → query_of_message answer ≡ Ok (asks.Node asked)
        → Written b a (encode (node_reply_of σ given asked.session asked.level asked.id)) r
        → Replied σ string nodes shingles cells message b a r
    node_replied (Some (NodeQuery n l i)) asked read is w =
        let same : asked ≡ record { session = n; level = l; id = i } = cc in
        replied (some (node_query n l i)) (node_reply_of σ given n l i) read.message (node_heard n l i) (rw same at w)
    node_replied None asked read is w = absurd cc
    node_replied (Some (OpeningQuery n)) asked read is w = absurd cc
    node_replied (Some (Opening n rule w' p L M q' len root at)) asked read is w = absurd cc
    node_replied (Some (Composition n l i trail at count)) asked read is w = absurd cc
    node_replied (Some (Literal n l i at count)) asked read is w = absurd cc
    node_replied (Some (NoNode n l i)) asked read is w = absurd cc
