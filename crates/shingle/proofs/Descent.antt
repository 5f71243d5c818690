-- In a tree's list of nodes each node is followed by its children, each with what is deeper; so the pairs of the children of
-- any node stand in the tree's shingle list with a count at least theirs.
use mathlib.Core.Bool.{true}
use mathlib.Core.List.Memᴰ
use mathlib.Core.List.{List, [], ◌∷◌, ◌++◌, map, map-append, append_assoc, append-nil, Memᴰ}
use mathlib.Core.Logic.{⊎_elim}
use mathlib.Core.Path.{◌≡◌, refl, sym, ap, ◌∙◌}
use Prim.Native.Nat.{ℕ, zero, suc, ◌+◌, ◌-◌, ◌≤◌, ◌<◌}
use native.Mathlib.Nat.{zero-add}
use native.Mathlib.Omega.{arith}
use lib.ListN.{length}
use Rattle.fnv.specs.Fnv.{id_of_block}
use Rattle.tree.specs.declared.Settings.{Settings}
use Rattle.tree.specs.Tree.{Node, node, children_of, in_turn, tree_of, nodes_of}
use Rattle.shingle.specs.Shingles.{Listed, listed, Pair, shingle, shingles_of}
use Rattle.shingle.specs.Table.{holds}
use Rattle.shingle.specs.Rising.{how_many}
use Rattle.shingle.specs.Children.{listed_of, pairs_along, Deeper, Children, none, more, child}
use Rattle.shingle.proofs.Children.{children_listed}

deeper_append : {l : ℕ} {a b : List Listed} → Deeper l a → Deeper l b → Deeper l (a ++ b)
deeper_append none e = e
deeper_append (more h d) e = more h (deeper_append d e)

deeper_turns : {l : ℕ} (subtree : ℕ → List ℕ → List Node) → ((start : ℕ) (bytes : List ℕ) → Deeper l (map listed_of (subtree start bytes)))
    → (start : ℕ) (bs : List (List ℕ)) → Deeper l (map listed_of (in_turn subtree start bs))
unfolding in_turn
deeper_turns subtree d start [] = none
deeper_turns subtree d start (b ∷ bs) =
    rw (map-append listed_of (subtree start b) (in_turn subtree (start + length b) bs)) (deeper_append (d start b) (deeper_turns subtree d (start + length b) bs))

module _ (σ : Settings) where
  deeper_tree : (left level l : ℕ) → l < level → (start : ℕ) (bytes : List ℕ) → Deeper l (map listed_of (tree_of σ left level start bytes))
  unfolding tree_of
  deeper_tree zero level l h start bytes = more h none
  deeper_tree (suc left) level l h start bytes =
      more h (deeper_turns (tree_of σ left (level + 1)) (λ s b. deeper_tree left (level + 1) l (omega arith) s b) start (children_of σ (level + 1) bytes))

  -- What is listed after a node of the tree and below it.
  pub below : ℕ → ℕ → ℕ → List ℕ → List Node
  below zero level start bytes = []
  below (suc left) level start bytes = in_turn (tree_of σ left (level + 1)) start (children_of σ (level + 1) bytes)

  pub tree_first : (left level start : ℕ) (bytes : List ℕ) → tree_of σ left level start bytes ≡ node level start bytes ∷ below left level start bytes
  unfolding tree_of below
  tree_first zero level start bytes = refl
  tree_first (suc left) level start bytes = refl

  pub deeper_below : (left level start : ℕ) (bytes : List ℕ) → Deeper level (map listed_of (below left level start bytes))
  unfolding below
  deeper_below zero level start bytes = none
  deeper_below (suc left) level start bytes =
      deeper_turns (tree_of σ left (level + 1)) (λ s b. deeper_tree left (level + 1) level (omega arith) s b) start (children_of σ (level + 1) bytes)

  -- The blocks of a node, each with what is below it, are its children.
  pub tree_children : (left l start : ℕ) (bs : List (List ℕ)) → Children l (map id_of_block bs) (map listed_of (in_turn (tree_of σ left l) start bs))
  unfolding in_turn
  tree_children left l start [] = none
  tree_children left l start (b ∷ bs) =
      let rest = in_turn (tree_of σ left l) (start + length b) bs in
      let split : map listed_of (tree_of σ left l start b ++ rest) ≡ listed l (id_of_block b) ∷ (map listed_of (below left l start b) ++ map listed_of rest) =
      ap (λ (t : List Node). map listed_of (t ++ rest)) (tree_first left l start b)
      ∙ ap (λ (ns : List Listed). listed l (id_of_block b) ∷ ns) (map-append listed_of (below left l start b) rest) in
      rw split (child (deeper_below left l start b) (tree_children left l (start + length b) bs))

  -- A node with all below it, and the nodes listed before and after.
  pub record Found (ns : List Node) (n : Node) (left : ℕ) : Type 0 where
    pub front : List Node
    pub back : List Node
    pub is : ns ≡ front ++ (tree_of σ left n.level n.start n.bytes ++ back)

  found_within : {ns : List Node} {n : Node} {left : ℕ} (a b : List Node) → Found ns n left → Found (a ++ (ns ++ b)) n left
  found_within {ns} {n} {left} a b f =
      let t = tree_of σ left n.level n.start n.bytes in
      record {
        front = a ++ f.front;
        back = f.back ++ b;
        is = ap (λ (l : List Node). a ++ (l ++ b)) f.is ∙ simp append_assoc;
      }

  found_turns : (subtree : ℕ → List ℕ → List Node) (depth : ℕ)
      → ((start : ℕ) (bytes : List ℕ) (n : Node) → Memᴰ n (subtree start bytes) → Found (subtree start bytes) n (depth - n.level))
      → (start : ℕ) (bs : List (List ℕ)) (n : Node) → Memᴰ n (in_turn subtree start bs) → Found (in_turn subtree start bs) n (depth - n.level)
  unfolding in_turn
  found_turns subtree depth each start [] n m = absurd (Memᴰ.not-nil m)
  found_turns subtree depth each start (b ∷ bs) n m =
      let rest = in_turn subtree (start + length b) bs in
      ⊎_elim
      (λ h. found_within [] rest (each start b n h))
      (λ h. rw (← append-nil rest) (found_within (subtree start b) [] (found_turns subtree depth each (start + length b) bs n h)))
      (Memᴰ.append_cases (subtree start b) m)

  found_self : (left level start : ℕ) (bytes : List ℕ) (n : Node) (d : ℕ) → n ≡ node level start bytes → d ≡ left → Found (tree_of σ left level start bytes) n d
  found_self left level start bytes n d e f =
      record {
        front = [];
        back = [];
        is = sym (append-nil _ ∙ (ap (λ (k : ℕ). tree_of σ k n.level n.start n.bytes) f
            ∙ ap (λ (m : Node). tree_of σ left m.level m.start m.bytes) e));
      }

  found_tree : (left level start : ℕ) (bytes : List ℕ) (n : Node) → Memᴰ n (tree_of σ left level start bytes)
      → Found (tree_of σ left level start bytes) n (level + left - n.level)
  unfolding tree_of
  found_tree zero level start bytes n m =
      let e : n ≡ node level start bytes = Memᴰ.eq_of_singleton m in
      let l : n.level ≡ level = ap (λ (x : Node). x.level) e in
      found_self zero level start bytes n _ e (omega arith)
  found_tree (suc left) level start bytes n m =
      let turns = in_turn (tree_of σ left (level + 1)) start (children_of σ (level + 1) bytes) in
      ⊎_elim
      (λ e. let l : n.level ≡ level = ap (λ (x : Node). x.level) e in found_self (suc left) level start bytes n _ e (omega arith))
      (λ h.
      let deep : level + 1 + left ≡ level + suc left = omega arith in
      let f = found_turns (tree_of σ left (level + 1)) (level + 1 + left) (λ s b k i. found_tree left (level + 1) s b k i) start (children_of σ (level + 1) bytes) n h in
      rw (← append-nil turns, ← deep) (found_within (node level start bytes ∷ []) [] f))
      (Memᴰ.cases_cons m)

  nodes_found : (bytes : List ℕ) (n : Node) → Memᴰ n (nodes_of σ bytes) → Found (nodes_of σ bytes) n (σ.levels - n.level)
  unfolding nodes_of
  nodes_found bytes n m = rw zero-add at (found_tree σ.levels 0 0 bytes n m)

  -- Any node of the tree that has children.
  module _ (bytes : List ℕ) (n : Node) (m : Memᴰ n (nodes_of σ bytes)) (h : n.level < σ.levels) (k : Pair) where
    abbrev child_ids : List ℕ
    child_ids = map id_of_block (children_of σ (n.level + 1) n.bytes)

    pub tree_children_listed : 1 ≤ how_many k (pairs_along (n.level + 1) 0 child_ids)
        → (count : ℕ) × (holds (shingle k count) (shingles_of (map listed_of (nodes_of σ bytes))) ≡ true) × (how_many k (pairs_along (n.level + 1) 0 child_ids) ≤ count)
    unfolding tree_of
    tree_children_listed some =
        let f = nodes_found bytes n m in
        let left = σ.levels - n.level - 1 in
        let deep : σ.levels - n.level ≡ suc left = omega arith in
        let under = in_turn (tree_of σ left (n.level + 1)) n.start (children_of σ (n.level + 1) n.bytes) in
        let nodes : nodes_of σ bytes ≡ f.front ++ (n ∷ (under ++ f.back)) =
        f.is ∙ ap (λ (d : ℕ). f.front ++ (tree_of σ d n.level n.start n.bytes ++ f.back)) deep in
        let list : map listed_of (nodes_of σ bytes) ≡ map listed_of f.front ++ (listed_of n ∷ (map listed_of under ++ map listed_of f.back)) =
        ap (map listed_of) nodes ∙ (map-append listed_of f.front (n ∷ (under ++ f.back))
        ∙ ap (λ (l : List Listed). map listed_of f.front ++ (listed_of n ∷ l)) (map-append listed_of under f.back)) in
        rw list
        (children_listed (map listed_of f.front) (listed_of n) (map listed_of under) (map listed_of f.back) (n.level + 1) child_ids (omega arith)
        (tree_children left (n.level + 1) n.start (children_of σ (n.level + 1) n.bytes)) k some)
