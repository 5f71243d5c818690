-- A sender that was set up replies with genuine messages: over the tables that its setup left, the first entry of a level and id is the
-- first such block of the tree, and the ids one level down after it are its children's.
use mathlib.Core.Bool.{Bool, true, false, cond, ◌&&◌}
use mathlib.Core.List.{List, [], ◌∷◌, ◌++◌, map, append_assoc, append-nil}
use mathlib.Core.Option.{some}
use mathlib.Core.Path.{◌≡◌, refl, sym, ap, subst, ◌∙◌}
use Prim.Native.Nat.{ℕ, zero, suc, ◌+◌, ◌≤◌, ◌<◌}
use native.Mathlib.Omega.{arith}
use lib.Dec.{eqb, leb, ltb}
use lib.ListN.{length}
use borrow.Author.Tests.{eqb-true, eq-eqb, ne_eqb, le-leb, lt-leb, ltb-true}
use Rattle.fnv.specs.Fnv.{id_of_block}
use Rattle.partition.specs.Cuts.{rule_number}
use Rattle.tree.specs.declared.Settings.{Settings}
use Rattle.tree.specs.Tree.{Node, node, children_of, in_turn, tree_of, nodes_of}
use Rattle.node_table.specs.Laws.{Each, none as none_within, both as both_within}
use Rattle.tree.specs.Laws.{content, Within}
use Rattle.tree.specs.Places.{Placed, places_of}
use Rattle.tree.specs.Table.{entry_of}
use Rattle.tree.proofs.Tree.{nodes_within}
use Rattle.tree.proofs.Places.{node_of, nodes_placed}
use Rattle.tree.proofs.Reading.{tree_listed}
use Rattle.shingle.specs.declared.Shingle.{Shingle}
use Rattle.shingle.proofs.PairOrder.{and_true}
use Rattle.shingle.proofs.Rising.{shingles_rise}
use Rattle.setup.specs.Tables.{shingles_of_string}
use Rattle.setup.proofs.Sizes.{few_shingles}
use Rattle.setup.proofs.Accepted.{first_id}
use Rattle.message.specs.Messages.{Msg, opening_query, node_query, opening, composition, literal, no_node}
use Rattle.protocol.specs.Lent.{Lent}
use Rattle.node_table.specs.Nodes.{inside, entries_in, from_first}
use Rattle.protocol.specs.Nodes.{block_in}
use Rattle.protocol.specs.Numbers.{stated}
use Rattle.protocol.specs.Sender.{child_ids, has_number, composable, refs_of, referable, node_reply, opening_reply, reply_to}
use Rattle.protocol.specs.Genuine.{blocks_of, children_ids, first_of, block_reply, found_reply, IsReply}
use Rattle.protocol.specs.Demand.{SetupAccepts, left_by_setup}
use Rattle.protocol.proofs.Memory.{few, made, nodes_is, accepted, cells_again, list_again}
use Rattle.protocol.proofs.Cases.{same_message, no_message}
use Rattle.protocol.proofs.Valid.{few_children}
use Rattle.protocol.proofs.Referable.{rising_referable}

-- The ids one level down, before the next node that is not deeper.
unfoldable kids_in : ℕ → List Node → List ℕ
kids_in l [] = []
kids_in l (n ∷ ns) = cond (leb n.level l) [] (cond (eqb n.level (l + 1)) (id_of_block n.bytes ∷ kids_in l ns) (kids_in l ns))

-- Nodes that lie in the string.
abbrev Inside : List ℕ → List Node → Type 0
Inside string ns = Each (λ x. Within string x.start x.bytes) ns

lies_inside : (string : List ℕ) (x : Placed) → Within string x.node.start x.node.bytes → inside (length string) (entry_of x) ≡ true
lies_inside string x w = le-leb (x.node.start + length x.node.bytes) (length string) w.inside

kids_in_lem : (string : List ℕ) (l : ℕ) (ns : List Placed) → Inside string (map node_of ns) → child_ids (length string) l (map entry_of ns) ≡ kids_in l (map node_of ns)
unfolding child_ids kids_in
kids_in_lem string l [] none_within = refl
kids_in_lem string l (n ∷ ns) (both_within w ws) =
    rw (lies_inside string n w)
    (λ i. cond (leb n.node.level l) [] (cond (eqb n.node.level (l + 1)) (id_of_block n.node.bytes ∷ kids_in_lem string l ns ws i) (kids_in_lem string l ns ws i)))

-- The list ends, or goes on with a node of level l or above it.
pub data Stops (l : ℕ) : List Node → Type 0 where
  end : Stops l []
  back : {n : Node} {ns : List Node} → n.level ≤ l → Stops l (n ∷ ns)

stops_here : {l : ℕ} {ns : List Node} → Stops l ns → kids_in l ns ≡ []
unfolding kids_in
stops_here end = refl
stops_here {l} (back {n = n} h) = rw (le-leb n.level l h) refl

stops_later : {l k : ℕ} {ns : List Node} → l ≤ k → Stops l ns → Stops k ns
stops_later h end = end
stops_later h (back {n = n} k) = back {n = n} (omega (arith, h, k))

module _ (σ : Settings) where
  -- Nodes that are more than one level down are passed over.
  skip_one : (l level start : ℕ) (bytes : List ℕ) (ns : List Node) → l + 1 < level → kids_in l (node level start bytes ∷ ns) ≡ kids_in l ns
  unfolding kids_in
  skip_one l level start bytes ns h = rw (lt-leb level l (omega (arith, h)), ne_eqb level (l + 1) (λ e. omega (arith, e, h))) refl

  skip_turns : (l : ℕ) (f : ℕ → List ℕ → List Node) → ((a : ℕ) (b : List ℕ) (tail : List Node) → kids_in l (f a b ++ tail) ≡ kids_in l tail)
      → (a : ℕ) (bs : List (List ℕ)) (tail : List Node) → kids_in l (in_turn f a bs ++ tail) ≡ kids_in l tail
  unfolding in_turn
  skip_turns l f skip a [] tail = refl
  skip_turns l f skip a (b ∷ bs) tail =
      ap (kids_in l) (append_assoc (f a b) (in_turn f (a + length b) bs) tail)
      ∙ (skip a b (in_turn f (a + length b) bs ++ tail) ∙ skip_turns l f skip (a + length b) bs tail)

  skip_tree : (l left level start : ℕ) (bytes : List ℕ) (tail : List Node) → l + 1 < level → kids_in l (tree_of σ left level start bytes ++ tail) ≡ kids_in l tail
  unfolding tree_of
  skip_tree l zero level start bytes tail h = skip_one l level start bytes tail h
  skip_tree l (suc left) level start bytes tail h =
      skip_one l level start bytes (in_turn (tree_of σ left (level + 1)) start (children_of σ (level + 1) bytes) ++ tail) h
      ∙ skip_turns l (tree_of σ left (level + 1)) (λ a b t. skip_tree l left (level + 1) a b t (omega (arith, h))) start (children_of σ (level + 1) bytes) tail

  -- Each child's subtree gives the child's id.
  kid_here : (l start : ℕ) (bytes : List ℕ) (ns : List Node) → kids_in l (node (l + 1) start bytes ∷ ns) ≡ id_of_block bytes ∷ kids_in l ns
  unfolding kids_in
  kid_here l start bytes ns = rw (lt-leb (l + 1) l (omega arith), eq-eqb (l + 1) (l + 1) refl) refl

  kid_tree : (l left start : ℕ) (bytes : List ℕ) (tail : List Node) → kids_in l (tree_of σ left (l + 1) start bytes ++ tail) ≡ id_of_block bytes ∷ kids_in l tail
  unfolding tree_of
  kid_tree l zero start bytes tail = kid_here l start bytes tail
  kid_tree l (suc left) start bytes tail =
      kid_here l start bytes (in_turn (tree_of σ left (l + 1 + 1)) start (children_of σ (l + 1 + 1) bytes) ++ tail)
      ∙ ap (λ (ids : List ℕ). id_of_block bytes ∷ ids)
      (skip_turns l (tree_of σ left (l + 1 + 1)) (λ a b t. skip_tree l left (l + 1 + 1) a b t (omega arith)) start (children_of σ (l + 1 + 1) bytes) tail)

  kid_turns : (l left start : ℕ) (bs : List (List ℕ)) (tail : List Node) → kids_in l (in_turn (tree_of σ left (l + 1)) start bs ++ tail) ≡ map id_of_block bs ++ kids_in l tail
  unfolding in_turn
  kid_turns l left start [] tail = refl
  kid_turns l left start (b ∷ bs) tail =
      let here = tree_of σ left (l + 1) start b in
      let rest = in_turn (tree_of σ left (l + 1)) (start + length b) bs in
      ap (kids_in l) (append_assoc here rest tail)
      ∙ (kid_tree l left start b (rest ++ tail) ∙ ap (λ (ids : List ℕ). id_of_block b ∷ ids) (kid_turns l left (start + length b) bs tail))

  tree_stops : (left l start : ℕ) (bytes : List ℕ) (tail : List Node) → Stops l (tree_of σ left l start bytes ++ tail)
  unfolding tree_of
  tree_stops zero l start bytes tail = back {n = node l start bytes} (omega arith)
  tree_stops (suc left) l start bytes tail = back {n = node l start bytes} (omega arith)

  turns_stop : (left l a : ℕ) (bs : List (List ℕ)) (tail : List Node) → Stops (l + 1) tail → Stops (l + 1) (in_turn (tree_of σ left (l + 1)) a bs ++ tail)
  unfolding in_turn
  turns_stop left l a [] tail h = h
  turns_stop left l a (b ∷ bs) tail h =
      let here = tree_of σ left (l + 1) a b in
      let rest = in_turn (tree_of σ left (l + 1)) (a + length b) bs in
      subst (Stops (l + 1)) (sym (append_assoc here rest tail)) (tree_stops left (l + 1) a b (rest ++ tail))

  -- Every node that is not of the last level is followed by its children.
  unfoldable Tidy : List Node → Type 0
  Tidy [] = Unit {0}
  Tidy (n ∷ ns) = (n.level < σ.levels → kids_in n.level ns ≡ children_ids σ n.level n.bytes) × Tidy ns

  -- Subtrees of level l: what follows them stops at the level above.
  tidy_turns : (left l : ℕ) → ((a : ℕ) (b : List ℕ) (tail : List Node) → Stops (l + 1) tail → Tidy tail → Tidy (tree_of σ left (l + 1) a b ++ tail))
      → (a : ℕ) (bs : List (List ℕ)) (tail : List Node) → Stops (l + 1) tail → Tidy tail → Tidy (in_turn (tree_of σ left (l + 1)) a bs ++ tail)
  unfolding in_turn
  tidy_turns left l tidy a [] tail stops h = h
  tidy_turns left l tidy a (b ∷ bs) tail stops h =
      let here = tree_of σ left (l + 1) a b in
      let rest = in_turn (tree_of σ left (l + 1)) (a + length b) bs in
      subst Tidy (sym (append_assoc here rest tail))
      (tidy a b (rest ++ tail) (turns_stop left l (a + length b) bs tail stops) (tidy_turns left l tidy (a + length b) bs tail stops h))

  tidy_tree : (left level start : ℕ) (bytes : List ℕ) (tail : List Node) → level + left ≡ σ.levels → Stops level tail → Tidy tail
      → Tidy (tree_of σ left level start bytes ++ tail)
  unfolding tree_of Tidy children_ids
  tidy_tree zero level start bytes tail depth stops h = (λ l. absurd (omega (arith, l, depth)), h)
  tidy_tree (suc left) level start bytes tail depth stops h =
      let kids = children_of σ (level + 1) bytes in (
        λ l. kid_turns level left start kids tail ∙ (ap (λ (ids : List ℕ). map id_of_block kids ++ ids) (stops_here stops) ∙ append-nil (map id_of_block kids)),
        tidy_turns left level (λ a b t s k. tidy_tree left (level + 1) a b t (omega (arith, depth)) s k) start kids tail (stops_later (omega arith) stops) h,
      )

  tidy_nodes : (string : List ℕ) → Tidy (nodes_of σ string)
  unfolding nodes_of
  tidy_nodes string = subst Tidy (append-nil (tree_of σ σ.levels 0 0 string)) (tidy_tree σ.levels 0 0 string [] (omega arith) end (unfold Tidy in tt))

-- The first node of a level and id, with what follows it.
unfoldable from_node : ℕ → ℕ → List Placed → List Placed
from_node l i [] = []
from_node l i (n ∷ ns) = cond (eqb n.node.level l && eqb (id_of_block n.node.bytes) i) (n ∷ ns) (from_node l i ns)

from_node_lem : (string : List ℕ) (l i : ℕ) (ns : List Placed) → Inside string (map node_of ns)
    → from_first (λ e. inside (length string) e && (eqb e.level l && eqb e.id i)) (map entry_of ns) ≡ map entry_of (from_node l i ns)
unfolding from_first from_node
from_node_lem string l i [] none_within = refl
from_node_lem string l i (n ∷ ns) (both_within w ws) =
    rw (lies_inside string n w) (go (eqb n.node.level l && eqb (id_of_block n.node.bytes) i) (from_node_lem string l i ns ws))
  where
    go : (t : Bool) → from_first (λ e. inside (length string) e && (eqb e.level l && eqb e.id i)) (map entry_of ns) ≡ map entry_of (from_node l i ns)
        → cond t (map entry_of (n ∷ ns)) (from_first (λ e. inside (length string) e && (eqb e.level l && eqb e.id i)) (map entry_of ns))
        ≡ map entry_of (cond t (n ∷ ns) (from_node l i ns))
    go true e = refl
    go false e = e

-- The reply over the nodes of a tree.
module _ (σ : Settings) (string : List ℕ) (n l i : ℕ) (listed : length (shingles_of_string σ string) ≤ 4096) where
  abbrev list : List Shingle
  list = shingles_of_string σ string

  module _ (x : Placed) (ns : List Placed) (level : x.node.level ≡ l) (kids : x.node.level < σ.levels → kids_in x.node.level (map node_of ns) ≡ children_ids σ x.node.level x.node.bytes)
      (within : Within string x.node.start x.node.bytes) (behind : Inside string (map node_of ns)) where
    abbrev ids : List ℕ
    ids = child_ids (length string) l (map entry_of ns)

    ids_are : l < σ.levels → ids ≡ children_ids σ l x.node.bytes
    ids_are h =
        kids_in_lem string l ns behind
        ∙ (ap (λ (k : ℕ). kids_in k (map node_of ns)) (sym level) ∙ (kids (omega (arith, level, h)) ∙ ap (λ (k : ℕ). children_ids σ k x.node.bytes) level))

    shallow_only : (a b : List ℕ) → (l < σ.levels → a ≡ b) → composable σ l a ≡ composable σ l b
    unfolding composable
    shallow_only a b e = go (ltb l σ.levels) refl
      where
        go : (t : Bool) → ltb l σ.levels ≡ t → (t && has_number a) ≡ (t && has_number b)
        go true f = ap has_number (e (ltb-true l σ.levels f))
        go false f = refl

    deep_enough : (a : List ℕ) → composable σ l a ≡ true → l < σ.levels
    unfolding composable
    deep_enough a e = ltb-true l σ.levels (and_true (ltb l σ.levels) _ e).0

    block_reply_lem : (t : Bool) → composable σ l ids ≡ t
        → cond t (composition n l i (stated ids) (refs_of list (l + 1) ids)) (literal n l i (block_in string (entry_of x))) ≡ block_reply σ string n l i x.node.bytes t
    unfolding block_reply block_in
    block_reply_lem true e = ap (λ (c : List ℕ). composition n l i (stated c) (refs_of list (l + 1) c)) (ids_are (deep_enough ids e))
    block_reply_lem false e = ap (literal n l i) within.same

    few_referred : (composable σ l ids && referable list (l + 1) ids) ≡ composable σ l ids
    few_referred = go (composable σ l ids) refl
      where
        go : (t : Bool) → composable σ l ids ≡ t → (t && referable list (l + 1) ids) ≡ t
        go true e = rising_referable list (l + 1) ids (unfold shingles_of_string in shingles_rise _) listed (few_children σ l ids e)
        go false e = refl

    first_reply : node_reply σ string list n l i (map entry_of (x ∷ ns)) ≡ found_reply σ string n l i (some x.node.bytes)
    unfolding found_reply node_reply
    first_reply = rw (few_referred, sym (shallow_only ids (children_ids σ l x.node.bytes) ids_are)) (block_reply_lem (composable σ l ids) refl)

  nodes_reply : (ns : List Placed) → Tidy σ (map node_of ns) → Inside string (map node_of ns)
      → node_reply σ string list n l i (map entry_of (from_node l i ns)) ≡ found_reply σ string n l i (first_of l i (map content (map node_of ns)))
  unfolding first_of from_node Tidy
  nodes_reply [] tidy none_within = unfold found_reply node_reply in refl
  nodes_reply (x ∷ ns) tidy (both_within w ws) = go (eqb x.node.level l && eqb (id_of_block x.node.bytes) i) refl (nodes_reply ns tidy.1 ws)
    where
      go : (t : Bool) → (eqb x.node.level l && eqb (id_of_block x.node.bytes) i) ≡ t
          → node_reply σ string list n l i (map entry_of (from_node l i ns)) ≡ found_reply σ string n l i (first_of l i (map content (map node_of ns)))
          → node_reply σ string list n l i (map entry_of (cond t (x ∷ ns) (from_node l i ns))) ≡ found_reply σ string n l i (cond t (some x.node.bytes) (first_of l i (map content (map node_of ns))))
      go true e rest = first_reply x ns (eqb-true _ _ (and_true (eqb x.node.level l) _ e).0) tidy.0 w ws
      go false e rest = rest

-- A sender's replies, its state and tables as its setup left them, are genuine.
module _ (σ : Settings) (m : Lent) (set-up : SetupAccepts σ m) where
  abbrev left : Lent
  left = left_by_setup σ m

  entries_left : entries_in left.nodes ≡ map entry_of (places_of σ m.string)
  entries_left = ap entries_in (nodes_is σ m set-up) ∙ tree_listed σ m.string m.nodes (accepted σ m set-up)

  pub replies_genuine : (query x : Msg) → reply_to σ left query ≡ some x → IsReply σ m.string query x
  unfolding reply_to IsReply opening_reply blocks_of
  replies_genuine (opening_query n) x e =
      let id = first_id σ m.string m.nodes left.nodes m.shingles left.shingles m.cells left.cells true _ (made σ m set-up) set-up in
      let rows = cells_again σ m set-up in
      sym (same_message e)
      ∙ (λ j. opening n rule_number σ.window σ.fan_out σ.levels σ.nominal σ.width (length m.string) (id j) (rows j))
  replies_genuine (node_query n l i) x e =
      let list = list_again σ m set-up in
      let same = nodes_placed σ m.string in
      let within : Inside m.string (map node_of (places_of σ m.string)) = rw same (nodes_within σ m.string) in
      let listed : length (shingles_of_string σ m.string) ≤ 4096 = omega (arith, few_shingles σ m.string, few σ m set-up) in
      let is : x ≡ node_reply σ m.string (shingles_of_string σ m.string) n l i (map entry_of (from_node l i (places_of σ m.string))) =
      sym (same_message e)
      ∙ (λ j. node_reply σ m.string (list j) n l i (from_first (λ e. inside (length m.string) e && (eqb e.level l && eqb e.id i)) (entries_left j)))
      ∙ ap (node_reply σ m.string (shingles_of_string σ m.string) n l i) (from_node_lem m.string l i (places_of σ m.string) within) in
      rw is (rw same at (nodes_reply σ m.string n l i listed (places_of σ m.string) (rw same (tidy_nodes σ m.string)) within))
  replies_genuine (opening n rule w p L M q size root cells) x e = absurd (no_message e)
  replies_genuine (composition n l i y refs) x e = absurd (no_message e)
  replies_genuine (literal n l i bytes) x e = absurd (no_message e)
  replies_genuine (no_node n l i) x e = absurd (no_message e)
