-- The tree of blocks: document 01, 'Settings and tree', from "The whole string is the node of level 0" on.
use Rattle.std.specs.Prelude.{List, [], ◌∷◌, ◌++◌, ℕ, zero, suc, ◌+◌, length}
use Rattle.partition.specs.Blocks.{blocks_of}
use Rattle.tree.specs.declared.Settings.{Settings}
use Rattle.tree.specs.Questions.{spacing, modulus}

-- A node: its level, where its bytes start in the whole string, and its bytes.
pub record Node : Type 0 where
  pub level : ℕ
  pub start : ℕ
  pub bytes : List ℕ

abbrev pub node : ℕ → ℕ → List ℕ → Node
node level start bytes = record { level = level; start = start; bytes = bytes }

-- "A node's blocks are its children": the blocks of a node's bytes by the rule of level l, the children's level.
unfoldable pub children_of : Settings → ℕ → List ℕ → List (List ℕ)
children_of σ l bytes = blocks_of σ.window (spacing σ l) (modulus σ l) bytes

-- "a child with all its descendants before its next sibling, from the left": what `subtree` lists for each of the blocks
-- that follow each other from `start` on.
unfoldable pub in_turn : (ℕ → List ℕ → List Node) → ℕ → List (List ℕ) → List Node
in_turn subtree start [] = []
in_turn subtree start (b ∷ bs) = subtree start b ++ in_turn subtree (start + length b) bs

-- "Nodes are listed each before its children", which "are cut in turn by the next level's rule, down to level L":
-- the node and all below it, with so many levels left.
unfoldable pub tree_of : Settings → ℕ → ℕ → ℕ → List ℕ → List Node
tree_of σ zero level start bytes = node level start bytes ∷ []
tree_of σ (suc left) level start bytes = node level start bytes ∷ in_turn (tree_of σ left (level + 1)) start (children_of σ (level + 1) bytes)

-- "The whole string is the node of level 0."
unfoldable pub nodes_of : Settings → List ℕ → List Node
nodes_of σ bytes = tree_of σ σ.levels 0 0 bytes
