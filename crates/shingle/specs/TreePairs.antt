-- The pairs of a tree, said of the tree itself and not of a list of its nodes: document 01, "Each node gives the pair (id of its left
-- sibling, own id) at its level; a first child and the root have 0 for the sibling."
use Rattle.std.specs.Prelude.{List, [], ◌∷◌, ◌++◌, ℕ, zero, suc, ◌+◌}
use Rattle.fnv.specs.Fnv.{id_of_block}
use Rattle.tree.specs.declared.Settings.{Settings}
use Rattle.tree.specs.Tree.{children_of}
use Rattle.shingle.specs.Shingles.{Pair, pair}

-- The pairs of siblings, from the left: of each block what `subtree` gives, after the id of the block to its left. The first comes after
-- `sibling`.
unfoldable pub pairs_in_turn : (ℕ → List ℕ → List Pair) → ℕ → List (List ℕ) → List Pair
pairs_in_turn subtree sibling [] = []
pairs_in_turn subtree sibling (b ∷ bs) = subtree sibling b ++ pairs_in_turn subtree (id_of_block b) bs

-- The pairs of a node and of all below it, with so many levels left.
unfoldable pub pairs_under : Settings → (left level sibling : ℕ) → List ℕ → List Pair
pairs_under σ zero level sibling bytes = pair level sibling (id_of_block bytes) ∷ []
pairs_under σ (suc left) level sibling bytes =
    pair level sibling (id_of_block bytes) ∷ pairs_in_turn (pairs_under σ left (level + 1)) 0 (children_of σ (level + 1) bytes)

-- The pairs of a string's tree.
unfoldable pub tree_pairs : Settings → List ℕ → List Pair
tree_pairs σ bytes = pairs_under σ σ.levels 0 0 bytes
