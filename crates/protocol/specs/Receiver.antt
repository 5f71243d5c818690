-- The receiver's two calls: taking a message and writing its query. Document 01, "The receiver holds a pile of pending nodes", and
-- 'Questions', "Receiver: 9 session still running?" to 19, in their order.
use Rattle.std.specs.Prelude.{Bool, true, false, cond, ◌&&◌, List, [], ◌∷◌, ◌++◌, map, ℕ, ◌+◌, ◌^◌, leb, ltb, eqb, length, get_or, take, drop, replicate}
use Rattle.std.proofs.Math.Option.{Option, none, some}
use Rattle.fnv.specs.Fnv.{id_of_block}
use Rattle.partition.specs.Cuts.{rule_number}
use Rattle.tree.specs.declared.Settings.{Settings}
use Rattle.tree.specs.Questions.{ask, within}
use Rattle.shingle.specs.declared.Shingle.{Shingle}
use Rattle.shingle.specs.Table.{shingles_in}
use Rattle.single.specs.Peeling.{rows_in, list_table}
use Rattle.sketch.specs.Opening.{Peeled, taken_of, opens_to, new_list}
use Rattle.trail.specs.Trails.{total, trails_over, order_of, only_over}
use Rattle.message.specs.Words.{Ref}
use Rattle.message.specs.Messages.{Msg, opening_query, node_query, opening, composition, literal, no_node, type_of, encode, parse}
use Rattle.protocol.specs.Lent.{Lent, refused_by, with_output, with_shingles}
use Rattle.protocol.specs.Nodes.{look}
use Rattle.protocol.specs.Numbers.{meant_by, rightly}
use Rattle.protocol.specs.Sender.{Written, unwritten, writing}
use Rattle.protocol.specs.State.{Pending, pending, State, going, over, running, outstanding}

-- What a call answers. Taking a message: the number of the question that refuses; accepted, and the session goes on; accepted, and a
-- string of that length is handed over. Writing the query: what writing answers.
pub data Answer : Type 0 where
  refused : ℕ → Answer
  waiting : Answer
  handed : ℕ → Answer
  wrote : ℕ → Answer

-- The number that stands for an answer: below 2^32 a refusal, or 0 while the session goes on; else a count of bytes.
unfoldable pub number_of : Answer → ℕ
number_of (refused k) = k
number_of waiting = 0
number_of (handed n) = 2 ^ 32 + n
number_of (wrote answer) = answer

-- What a call answers and leaves.
pub record Result : Type 0 where
  pub answer : Answer
  pub state : State
  pub lent : Lent

abbrev pub result : Answer → State → Lent → Result
result answer state lent = record { answer = answer; state = state; lent = lent }

-- "A no at 9 to 11 changes no state and no buffer", nor does one at 1 to 7.
unfoldable pub unchanged : ℕ → State → Lent → Result
unchanged k s m = result (refused k) s m

-- "A no at 12 to 19 ends the session and zeroes the whole output buffer."
unfoldable pub ends : ℕ → State → Lent → Result
ends k s m = result (refused k) (over s) (with_output m (replicate (length m.output) 0))

-- Session, level and id of a message; 0 where it has none.
unfoldable pub session_of : Msg → ℕ
session_of (opening_query n) = n
session_of (node_query n l i) = n
session_of (opening n rule w p L M q len root cells) = n
session_of (composition n l i x refs) = n
session_of (literal n l i bytes) = n
session_of (no_node n l i) = n

unfoldable pub level_of : Msg → ℕ
level_of (opening_query n) = 0
level_of (node_query n l i) = l
level_of (opening n rule w p L M q len root cells) = 0
level_of (composition n l i x refs) = l
level_of (literal n l i bytes) = l
level_of (no_node n l i) = l

unfoldable pub id_of : Msg → ℕ
id_of (opening_query n) = 0
id_of (node_query n l i) = i
id_of (opening n rule w p L M q len root cells) = 0
id_of (composition n l i x refs) = i
id_of (literal n l i bytes) = i
id_of (no_node n l i) = i

-- "11 type 3 to 6, of this session, matching the outstanding query's kind, level and id?" An opening matches the opening query, a
-- message of type 4 to 6 the node query with its level and id.
unfoldable pub fits : Msg → Msg → Bool
fits query m =
    eqb (session_of m) (session_of query)
    && cond (eqb (type_of query) 1) (eqb (type_of m) 3)
    (within 4 6 (type_of m) && (eqb (level_of m) (level_of query) && eqb (id_of m) (id_of query)))

unfoldable pub matches : Option Msg → Msg → Bool
matches none m = false
matches (some query) m = fits query m

-- The pending nodes that are left when copying ends, and all bytes built by then; or too many bytes.
pub data Settled : Type 0 where
  too_long : Settled
  left : (built : List ℕ) (pile : List Pending) → Settled

-- "While the top has an id of an own node at any level, the first such node's bytes are copied to the end of the output." 18: "output
-- within the announced length?"
unfoldable pub copying : (List ℕ → Settled) → (size : ℕ) (built : List ℕ) → Pending → List Pending → Option (List ℕ) → Settled
copying next size built e es none = left built (e ∷ es)
copying next size built e es (some bytes) = cond (leb (length built + length bytes) size) (next (built ++ bytes)) too_long

unfoldable pub settle : (ℕ → Option (List ℕ)) → (size : ℕ) (built : List ℕ) → List Pending → Settled
settle find size built [] = left built []
settle find size built (e ∷ es) = copying (λ (more : List ℕ). settle find size more es) size built e es (find e.id)

-- The output lent, with the bytes built at its front: "Bytes .. after the output, are untouched."
unfoldable pub output_with : List ℕ → List ℕ → List ℕ
output_with built output = built ++ drop (length built) output

-- After copying: 18; "19 if the pile is now empty: length right, and id of the buffer's first bytes, worked out afresh, right?" `s` and
-- `m` are as the call found them, for a no; `shingles` is what an accepted message leaves in the shingle table. "The accepted message
-- that leaves the pile empty hands the string over".
unfoldable pub conclude : State → Lent → (shingles : List ℕ) (size root taken : ℕ) → Settled → Result
conclude s m shingles size root taken too_long = ends 18 s m
conclude s m shingles size root taken (left built []) =
    cond (eqb (length built) size && eqb (id_of_block built) root)
    (result (handed size) (over s) (with_shingles (with_output m (output_with built m.output)) shingles))
    (ends 19 s m)
conclude s m shingles size root taken (left built (e ∷ es)) =
    result waiting (going s size root (length built) taken (e ∷ es)) (with_shingles (with_output m (output_with built m.output)) shingles)

abbrev pub find : Lent → ℕ → Option (List ℕ)
find m id = look m.string m.nodes id

-- What is taken from the difference of an opening's cells and the own ones.
unfoldable pub peeled_of : Settings → Lent → List ℕ → Peeled
peeled_of σ m cells = taken_of σ.width σ.levels cells (rows_in σ.width m.cells)

-- 0, or the first of these that an opening fails: "12 opening's rule and settings equal the own? 13 announced length at most 65,536 and
-- at most the buffer lent now? 14 does the sketch open?"
unfoldable pub opening_refusal : State → Lent → (rule w p L M q size : ℕ) → List ℕ → ℕ
opening_refusal s m rule w p L M q size cells =
    ask (eqb rule rule_number && (eqb w s.settings.window && (eqb p s.settings.fan_out && (eqb L s.settings.levels
    && (eqb M s.settings.nominal && eqb q s.settings.width))))) 12
    (ask (leb size 65536 && leb size (length m.output)) 13
    (ask (opens_to (shingles_in m.shingles) (peeled_of s.settings m cells)) 14
    0))

-- A taken opening's string has the root as its pending node. "An accepted opening leaves the new list in the shingle table, zero past its
-- end."
unfoldable pub take_opening : State → Lent → (rule w p L M q size root : ℕ) → List ℕ → Result
take_opening s m rule w p L M q size root cells =
    cond (eqb (opening_refusal s m rule w p L M q size cells) 0)
    (conclude s m
    (list_table (length m.shingles) (new_list (shingles_in m.shingles) (peeled_of s.settings m cells).taken))
    size root 0 (settle (find m) size [] (pending 0 root ∷ [])))
    (ends (opening_refusal s m rule w p L M q size cells) s m)

-- The shingle that a reference names; count 0, which no reference is within, where the list has no such index.
abbrev pub named : List Shingle → Ref → Shingle
named list r = get_or list r.index (record { previous = 0; own = 0; level = 0; count = 0 })

-- "references in the list at that level plus 1, counts within the list's"
unfoldable pub is_named : List Shingle → ℕ → Ref → Bool
is_named list l r = ltb r.index (length list) && (eqb (named list r).level l && leb r.count (named list r).count)

unfoldable pub all_named : List Shingle → ℕ → List Ref → Bool
all_named list l [] = true
all_named list l (r ∷ refs) = is_named list l r && all_named list l refs

-- The multiset that references give, as three columns.
abbrev pub previouses : List Shingle → List Ref → List ℕ
previouses list refs = map (λ (r : Ref). (named list r).previous) refs

abbrev pub owns : List Shingle → List Ref → List ℕ
owns list refs = map (λ (r : Ref). (named list r).own) refs

abbrev pub counts : List Ref → List ℕ
counts refs = map (λ (r : Ref). r.count) refs

-- "17 for a composition: node's level below L, references in the list at that level plus 1, counts within the list's, their sum k from 1
-- to 32, number at most 4,095, that trail exists, and the pile then within 128?" And is the number carried or omitted as the trails want it?
-- `trail` is the number if it is there, and `rest` the pile without its top.
unfoldable pub composes : Settings → List Shingle → (level : ℕ) → (trail : Option ℕ) → List Ref → (rest : ℕ) → Bool
composes σ list l trail refs rest =
    ltb l σ.levels
    && (all_named list (l + 1) refs
    && (within 1 32 (total (counts refs))
    && (leb (meant_by trail) 4095
    && (ltb (meant_by trail) (length (trails_over (previouses list refs) (owns list refs) (counts refs)))
    && (rightly trail (only_over (previouses list refs) (owns list refs) (counts refs))
    && leb (rest + total (counts refs)) 128)))))

-- "a composition's trail replaces the node by its children, one level down"
unfoldable pub children : List Shingle → (level : ℕ) → (trail : Option ℕ) → List Ref → List Pending
children list l trail refs = map (pending (l + 1)) (order_of (previouses list refs) (owns list refs) (counts refs) (meant_by trail))

-- The pile without its top.
unfoldable pub below : List Pending → List Pending
below [] = []
below (e ∷ es) = es

-- 0, or the first of these that a node reply fails: 13; "15 fewer than 4,096 node replies taken before? 16 not a none?"; 17, of a
-- composition; 18, of the bytes before any copy.
unfoldable pub node_refusal : State → Lent → (there composed : Bool) → List ℕ → ℕ
node_refusal s m there composed bytes =
    ask (leb s.size 65536 && leb s.size (length m.output)) 13
    (ask (ltb s.taken 4096) 15
    (ask there 16
    (ask composed 17
    (ask (leb (s.built + length bytes) s.size) 18
    0))))

-- A node reply that passes the questions adds bytes to the output and leaves a pile, and copying goes on from there.
unfoldable pub take_node : State → Lent → ℕ → List ℕ → List Pending → Result
take_node s m refusal bytes pile =
    cond (eqb refusal 0)
    (conclude s m m.shingles s.size s.root (s.taken + 1) (settle (find m) s.size (take s.built m.output ++ bytes) pile))
    (ends refusal s m)

-- What a message that matches does. Queries match nothing.
unfoldable pub act : State → Lent → Msg → Result
act s m (opening_query n) = unchanged 11 s m
act s m (node_query n l i) = unchanged 11 s m
act s m (opening n rule w p L M q size root cells) = take_opening s m rule w p L M q size root cells
act s m (composition n l i trail refs) =
    take_node s m
    (node_refusal s m true (composes s.settings (shingles_in m.shingles) l trail refs (length (below s.pile))) [])
    [] (children (shingles_in m.shingles) l trail refs ++ below s.pile)
act s m (literal n l i bytes) = take_node s m (node_refusal s m true true bytes) bytes (below s.pile)
act s m (no_node n l i) = take_node s m (node_refusal s m false true []) [] []

-- 10, then 11.
unfoldable pub hear : State → Lent → Option Msg → Result
hear s m none = unchanged 10 s m
hear s m (some message) = cond (matches (outstanding s) message) (act s m message) (unchanged 11 s m)

-- Taking a message: 1 to 7, 9, 10, 11, then 12 to 19.
unfoldable pub take_message : State → Lent → List ℕ → Result
take_message s m message =
    cond (eqb (refused_by s.settings m) 0)
    (cond (running s) (hear s m (parse message)) (unchanged 9 s m))
    (unchanged (refused_by s.settings m) s m)

-- Writing the query: 1 to 7, 9, 20. "A no at any of these changes neither state nor buffer."
unfoldable pub querying : Option Msg → List ℕ → Written
querying none buffer = unwritten 9 buffer
querying (some query) buffer = writing (encode query) buffer

unfoldable pub write_query : State → Lent → List ℕ → Written
write_query s m buffer =
    cond (eqb (refused_by s.settings m) 0) (querying (outstanding s) buffer) (unwritten (refused_by s.settings m) buffer)
