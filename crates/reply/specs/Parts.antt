-- What the parts of replying promise each other. No public contract cites these.
use Rattle.std.specs.Prelude.{Bool, true, false, cond, ◌&&◌, List, ◌≡◌, ℕ, ◌+◌, ◌-◌, ◌/◌, ◌≤◌, ◌<◌, leb, ltb, eqb, length, take, Option, None, Some, Result, Ok, Err, MatchOption}
use Rattle.refusal.specs.declared.Refusal.{Refusal}
use Rattle.refusal.specs.declared.Refusal.TheVariants.{Form, Unexpected}
use Rattle.tree.specs.declared.Settings.{Settings}
use Rattle.node_table.specs.Entries.{id_at, level_at, entry_at}
use Rattle.shingle.specs.Table.{shingles_in}
use Rattle.message.specs.Words.{Ref}
use Rattle.message.specs.Messages.{Msg, composition}
use Rattle.message.specs.Reading.{stated_by}
use Rattle.message.specs.declared.Message.{Message}
use Rattle.message.specs.declared.Message.TheVariants.{OpeningQuery, NodeQuery, Opening, Composition, Literal, NoNode}
use Rattle.message_writer.specs.Writing.{paired}
use Rattle.protocol.specs.Lent.{Lent}
use Rattle.node_table.specs.declared.Entry.{Entry}
use Rattle.node_table.specs.Nodes.{inside, entries_from, entries_in, from_first}
use Rattle.protocol.specs.Numbers.{stated}
use Rattle.protocol.specs.Sender.{child_ids, composable, refs_of, indexed, referable, node_reply}
use Rattle.reply.specs.declared.child.Children.{Children}
use Rattle.reply.specs.declared.child.Role.{Role}
use Rattle.reply.specs.declared.child.Role.TheVariants.{End, Passed, Child}
use Rattle.reply.specs.declared.plan.Plan.{Plan}
use Rattle.reply.specs.declared.query.Query.{Query}
use Rattle.reply.specs.declared.query.Query.TheVariants as asks
use Rattle.reply.specs.declared.reference.References.{References}

-- What a message that was read asks of a sender, or the question that refuses it.
abbrev pub query_of_message : Option Message → Result Query Refusal
query_of_message None = Err Form
query_of_message (Some (OpeningQuery n)) = Ok (asks.Opening n)
query_of_message (Some (NodeQuery n l i)) = Ok (asks.Node (record { session = n; level = l; id = i }))
query_of_message (Some (Opening n rule w p L M q len root at)) = Err Unexpected
query_of_message (Some (Composition n l i trail at count)) = Err Unexpected
query_of_message (Some (Literal n l i at count)) = Err Unexpected
query_of_message (Some (NoNode n l i)) = Err Unexpected

-- The entry lies in a string of n bytes and has that level and id.
abbrev pub asked : (n l i : ℕ) → Entry → Bool
asked n l i e = inside n e && (eqb e.level l && eqb e.id i)

-- What entry k is to a node of level l before it.
unfoldable pub role_at : List ℕ → (n l k : ℕ) → Role
role_at nodes n l k =
    cond (eqb (id_at nodes k) 0) End
    (cond (leb (level_at nodes k) l) End (cond (inside n (entry_at nodes k) && eqb (level_at nodes k) (l + 1)) Child Passed))

-- All of these ids.
pub record Listing (all : List ℕ) (c : Children) : Type 0 where
  pub room : length c.ids ≡ 32
  pub few : c.count ≤ 32
  pub ids_are : take c.count c.ids ≡ all

-- All of these ids, if there are at most 32.
abbrev pub Collected : (all : List ℕ) (found : Option Children) → Type 0
Collected all found = MatchOption found (32 < length all) (Listing all)

-- All of these references, each index within its field.
pub record Referrals (all : List Ref) (r : References) : Type 0 where
  pub indexes_room : length r.indexes ≡ 32
  pub counts_room : length r.counts ≡ 32
  pub few : r.count ≤ 32
  pub refs_are : paired (take r.count r.indexes) (take r.count r.counts) ≡ all
  pub low : indexed all ≡ true

-- All of these references, if they can be written: at most 32, each index within its field.
abbrev pub Referred : (all : List Ref) (found : Option References) → Type 0
Referred all found = MatchOption found ((ltb (length all) 33 && indexed all) ≡ false) (Referrals all)

-- The references of a plan stand in their places, and which they are.
pub record Writable (p : Plan) : Type 0 where
  pub few : p.references.count ≤ 32
  pub indexes_room : length p.references.indexes ≡ 32
  pub counts_room : length p.references.counts ≡ 32

unfoldable pub references_of : Plan → List Ref
references_of p = paired (take p.references.count p.references.indexes) (take p.references.count p.references.counts)

-- The composition that a plan says.
unfoldable pub composed_by : Plan → (session l i : ℕ) → Msg
composed_by p n l i = composition n l i (stated_by p.trail) (references_of p)

-- The composition of children with these ids by these references.
pub record Composing (ids : List ℕ) (refs : List Ref) (p : Plan) : Type 0 where
  pub trail_is : stated_by p.trail ≡ stated ids
  pub references_are : references_of p ≡ refs
  pub writable : Writable p

-- What is to be written of a node: the composition of children with these ids by these references, if it can be; else the node's bytes.
abbrev pub Planned : (possible : Bool) (ids : List ℕ) (refs : List Ref) (planned : Option Plan) → Type 0
Planned possible ids refs planned = MatchOption planned (possible ≡ false) (λ p. (possible ≡ true) × Composing ids refs p)

-- The ids of the children of the node of entry k, which has level l.
unfoldable pub ids_below : List ℕ → (n l k : ℕ) → List ℕ
ids_below nodes n l k = child_ids n l (entries_from nodes (length nodes / 16 - (k + 1)) (k + 1))

-- What is to be written of the node of entry k, which has level l.
abbrev pub NodePlanned : Settings → ℕ → (nodes shingles : List ℕ) → (l k : ℕ) → Option Plan → Type 0
NodePlanned σ n nodes shingles l k p =
    Planned (composable σ l (ids_below nodes n l k) && referable (shingles_in shingles) (l + 1) (ids_below nodes n l k)) (ids_below nodes n l k)
    (refs_of (shingles_in shingles) (l + 1) (ids_below nodes n l k)) p

-- The reply to a node query.
unfoldable pub node_reply_of : Settings → Lent → (session l i : ℕ) → Msg
node_reply_of σ m n l i = node_reply σ m.string (shingles_in m.shingles) n l i (from_first (asked (length m.string) l i) (entries_in m.nodes))
