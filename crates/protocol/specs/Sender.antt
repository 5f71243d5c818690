-- The sender's reply: document 01, "To type 1 the sender replies type 3", and 'Questions', "Sender: 10 as above, 11 type 1 or 2? 20
-- reply fits the buffer lent?"
use Rattle.std.specs.Prelude.{Bool, true, cond, ◌&&◌, List, [], ◌∷◌, ◌++◌, ℕ, zero, suc, ◌+◌, ◌^◌, leb, ltb, eqb, length, drop}
use Rattle.std.proofs.Math.Option.{Option, none, some}
use Rattle.partition.specs.Cuts.{rule_number}
use Rattle.tree.specs.declared.Settings.{Settings}
use Rattle.node_table.specs.Entries.{id_at}
use Rattle.shingle.specs.declared.Shingle.{Shingle}
use Rattle.shingle.specs.Shingles.{pair_of}
use Rattle.shingle.specs.Rising.{how_many}
use Rattle.shingle.specs.Children.{pairs_along}
use Rattle.shingle.specs.Table.{shingles_in}
use Rattle.single.specs.Peeling.{rows_in}
use Rattle.trail.specs.Trails.{trail_number}
use Rattle.trail.specs.Calls.{numberable}
use Rattle.message.specs.Words.{Ref}
use Rattle.message.specs.Messages.{Msg, opening_query, node_query, opening, composition, literal, no_node, encode, parse}
use Rattle.protocol.specs.Lent.{Lent, refused_by}
use Rattle.node_table.specs.declared.Entry.{Entry}
use Rattle.node_table.specs.Nodes.{inside, entries_in, from_first}
use Rattle.protocol.specs.Nodes.{block_in}
use Rattle.protocol.specs.Numbers.{stated}

-- The ids of the children of a node of level l in a string of n bytes, from the entries after it: those one level down, up to the next
-- that is not deeper. An entry that points outside the string is no child, but it ends the children as any other does.
unfoldable pub child_ids : ℕ → ℕ → List Entry → List ℕ
child_ids n l [] = []
child_ids n l (e ∷ es) =
    cond (leb e.level l) [] (cond (inside n e && eqb e.level (l + 1)) (e.id ∷ child_ids n l es) (child_ids n l es))

-- The order of the children has a number of at most 4,095.
unfoldable pub has_number : List ℕ → Bool
has_number ids = numberable ids && ltb (trail_number ids) 4096

-- A type 4 can be written: the level is below L, and the children have such a number.
unfoldable pub composable : Settings → ℕ → List ℕ → Bool
composable σ l ids = ltb l σ.levels && has_number ids

-- A reference, put in front unless its count is 0.
unfoldable pub refer : ℕ → ℕ → List Ref → List Ref
refer index zero refs = refs
refer index (suc more) refs = record { index = index; count = suc more } ∷ refs

-- "referring to its list": for each shingle, from index i on, how often its pair stands among the pairs of these children.
unfoldable pub refs_from : ℕ → List Shingle → ℕ → List ℕ → List Ref
refs_from i [] l ids = []
refs_from i (s ∷ ss) l ids = refer i (how_many (pair_of s) (pairs_along l 0 ids)) (refs_from (suc i) ss l ids)

-- The references of children of level l, rising by index.
unfoldable pub refs_of : List Shingle → ℕ → List ℕ → List Ref
refs_of list l ids = refs_from 0 list l ids

-- Every index is within its field, "12 bits list index".
unfoldable pub indexed : List Ref → Bool
indexed [] = true
indexed (r ∷ refs) = ltb r.index 4096 && indexed refs

-- References to all of the pairs can be written: at most 32, each index within its field. So it is with 32 children and a list of at most
-- 4,096 shingles that names no pair twice, as setup leaves it.
unfoldable pub referable : List Shingle → ℕ → List ℕ → Bool
referable list l ids = ltb (length (refs_of list l ids)) 33 && indexed (refs_of list l ids)

-- "None: type 6. At level L, or with a trail number above 4,095: type 5. Else type 4, referring to its list. Session is copied." The number is
-- carried unless the trail is the only one.
unfoldable pub node_reply : Settings → List ℕ → List Shingle → (session level id : ℕ) → List Entry → Msg
node_reply σ string list n l i [] = no_node n l i
node_reply σ string list n l i (e ∷ es) =
    cond (composable σ l (child_ids (length string) l es) && referable list (l + 1) (child_ids (length string) l es))
    (composition n l i (stated (child_ids (length string) l es)) (refs_of list (l + 1) (child_ids (length string) l es)))
    (literal n l i (block_in string e))

-- "An opening announces the lent string's length and the id of the node table's first entry."
unfoldable pub opening_reply : Settings → Lent → ℕ → Msg
opening_reply σ m n =
    opening n rule_number σ.window σ.fan_out σ.levels σ.nominal σ.width
    (length m.string) (id_at m.nodes 0) (rows_in σ.width m.cells)

-- "To type 1 the sender replies type 3. To type 2 it finds its first node of that level and id." To others it replies nothing.
unfoldable pub reply_to : Settings → Lent → Msg → Option Msg
reply_to σ m (opening_query n) = some (opening_reply σ m n)
reply_to σ m (node_query n l i) =
    some (node_reply σ m.string (shingles_in m.shingles) n l i
    (from_first (λ e. inside (length m.string) e && (eqb e.level l && eqb e.id i)) (entries_in m.nodes)))
reply_to σ m (opening n rule w p L M q len root cells) = none
reply_to σ m (composition n l i x refs) = none
reply_to σ m (literal n l i bytes) = none
reply_to σ m (no_node n l i) = none

-- An answer and the buffer after it: 0 to 20 the question that refuses, from 2^32 on the bytes written.
pub record Written : Type 0 where
  pub answer : ℕ
  pub buffer : List ℕ

abbrev pub unwritten : ℕ → List ℕ → Written
unwritten k buffer = record { answer = k; buffer = buffer }

-- "20 reply fits the buffer lent?" Bytes after it are untouched.
unfoldable pub writing : List ℕ → List ℕ → Written
writing bytes buffer =
    cond (leb (length bytes) (length buffer))
    (record { answer = 2 ^ 32 + length bytes; buffer = bytes ++ drop (length bytes) buffer })
    (unwritten 20 buffer)

-- "11 type 1 or 2?"
unfoldable pub replying : Settings → Lent → Option Msg → List ℕ → Written
replying σ m none buffer = unwritten 11 buffer
replying σ m (some reply) buffer = writing (encode reply) buffer

-- "10 as above"
unfoldable pub hearing : Settings → Lent → Option Msg → List ℕ → Written
hearing σ m none buffer = unwritten 10 buffer
hearing σ m (some query) buffer = replying σ m (reply_to σ m query) buffer

-- The reply to a message: 1 to 7, 10, 11, 20. "A no at any of these changes neither state nor buffer."
unfoldable pub reply : Settings → Lent → (message buffer : List ℕ) → Written
reply σ m message buffer =
    cond (eqb (refused_by σ m) 0) (hearing σ m (parse message) buffer) (unwritten (refused_by σ m) buffer)
