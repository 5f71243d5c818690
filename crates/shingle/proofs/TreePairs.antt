-- The pairs read from the list of a tree's nodes are the pairs of the tree.
use mathlib.Core.List.{List, [], ◌∷◌, ◌++◌, map, map-append}
use mathlib.Core.Path.{◌≡◌, refl, ap, ◌∙◌}
use Prim.Native.Nat.{ℕ, zero, suc, ◌+◌}
use native.Mathlib.Omega.{arith}
use lib.ListN.{length}
use Rattle.fnv.specs.Fnv.{id_of_block}
use Rattle.tree.specs.declared.Settings.{Settings}
use Rattle.tree.specs.Tree.{Node, children_of, in_turn, tree_of, nodes_of}
use Rattle.shingle.specs.Shingles.{Listed, listed, Pair, pair, sibling_of, pairs_after, pairs_of, counted, shingles_of}
use Rattle.shingle.specs.Children.{listed_of}
use Rattle.shingle.specs.TreePairs.{pairs_in_turn, pairs_under, tree_pairs}
use Rattle.shingle.proofs.Siblings.{sibling_there, sibling_parent}
use Rattle.shingle.proofs.Children.{later, pairs_append, sibling_below}
use Rattle.shingle.proofs.Descent.{tree_first, deeper_below}

-- Listed after any nodes among which `sibling` is the left sibling at level l, the nodes give these pairs.
abbrev Gives : (l sibling : ℕ) → List Node → List Pair → Type 0
Gives l sibling ns ps = (before : List Listed) → sibling_of l before ≡ sibling → pairs_after before (map listed_of ns) ≡ ps

module _ (σ : Settings) where
  -- After a block and all below it, the block is the left sibling.
  sibling_after : (left l start : ℕ) (b : List ℕ) (before : List Listed) → sibling_of l (later (map listed_of (tree_of σ left l start b)) before) ≡ id_of_block b
  unfolding later
  sibling_after left l start b before =
      let n = listed l (id_of_block b) in
      ap (λ (t : List Node). sibling_of l (later (map listed_of t) before)) (tree_first σ left l start b)
      ∙ (sibling_below (n ∷ before) (deeper_below σ left l start b) ∙ sibling_there l n before refl)

  turn_pairs : (left l : ℕ) → ((start sibling : ℕ) (b : List ℕ) → Gives l sibling (tree_of σ left l start b) (pairs_under σ left l sibling b))
      → (start sibling : ℕ) (bs : List (List ℕ)) → Gives l sibling (in_turn (tree_of σ left l) start bs) (pairs_in_turn (pairs_under σ left l) sibling bs)
  unfolding in_turn pairs_in_turn pairs_after
  turn_pairs left l each start sibling [] before e = refl
  turn_pairs left l each start sibling (b ∷ bs) before e =
      let first = tree_of σ left l start b in
      let rest = in_turn (tree_of σ left l) (start + length b) bs in
      let after = later (map listed_of first) before in
      ap (pairs_after before) (map-append listed_of first rest)
      ∙ (pairs_append before (map listed_of first) (map listed_of rest)
      ∙ (ap (λ (ps : List Pair). ps ++ pairs_after after (map listed_of rest)) (each start sibling b before e)
      ∙ ap (λ (ps : List Pair). pairs_under σ left l sibling b ++ ps)
      (turn_pairs left l each (start + length b) (id_of_block b) bs after (sibling_after left l start b before))))

  subtree_pairs : (left l start sibling : ℕ) (b : List ℕ) → Gives l sibling (tree_of σ left l start b) (pairs_under σ left l sibling b)
  unfolding tree_of pairs_under pairs_after
  subtree_pairs zero l start sibling b before e = ap (λ (id : ℕ). pair l id (id_of_block b) ∷ []) e
  subtree_pairs (suc left) l start sibling b before e =
      let n = listed l (id_of_block b) in
      let children = children_of σ (l + 1) b in
      let below = pairs_after (n ∷ before) (map listed_of (in_turn (tree_of σ left (l + 1)) start children)) in
      ap (λ (id : ℕ). pair l id (id_of_block b) ∷ below) e
      ∙ ap (λ (ps : List Pair). pair l sibling (id_of_block b) ∷ ps)
      (turn_pairs left (l + 1) (λ s v c f g. subtree_pairs left (l + 1) s v c f g) start 0 children (n ∷ before)
      (sibling_parent (l + 1) n before (omega arith)))

  pub tree_pairs_lem : (bytes : List ℕ) → pairs_of (map listed_of (nodes_of σ bytes)) ≡ tree_pairs σ bytes
  unfolding pairs_of nodes_of tree_pairs sibling_of
  tree_pairs_lem bytes = subtree_pairs σ.levels 0 0 0 bytes [] refl

  -- So the shingles of a tree's nodes count the pairs of the tree.
  pub tree_shingles : (bytes : List ℕ) → shingles_of (map listed_of (nodes_of σ bytes)) ≡ counted (tree_pairs σ bytes)
  unfolding shingles_of
  tree_shingles bytes = ap counted (tree_pairs_lem bytes)
