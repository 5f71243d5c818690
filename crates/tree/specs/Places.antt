-- The nodes of a tree with their places: document 02, request 1, "The node record therefore gains its parent's place in the table, and its place
-- among its siblings from 0; the root names itself, at place 0."
use Rattle.std.specs.Prelude.{List, [], ◌∷◌, ◌++◌, ℕ, zero, suc, ◌+◌, length}
use Rattle.tree.specs.declared.Settings.{Settings}
use Rattle.tree.specs.Tree.{Node, node, children_of}

-- A node, the entry of its parent, and its place among its siblings.
pub record Placed : Type 0 where
  pub node : Node
  pub parent : ℕ
  pub place : ℕ

abbrev pub placed : Node → ℕ → ℕ → Placed
placed n parent place = record { node = n; parent = parent; place = place }

-- `in_turn` with places: the blocks are siblings under the entry `parent`, from the given place on, and the first stands at entry `at`.
unfoldable pub placed_in_turn : ((start at parent place : ℕ) → List ℕ → List Placed) → (parent start at place : ℕ) → List (List ℕ) → List Placed
placed_in_turn subtree parent start at place [] = []
placed_in_turn subtree parent start at place (b ∷ bs) =
    subtree start at parent place b
    ++ placed_in_turn subtree parent (start + length b) (at + length (subtree start at parent place b)) (place + 1) bs

-- `tree_of` with places: the node stands at entry `at` of the table.
unfoldable pub placed_tree : Settings → (left level start at parent place : ℕ) → List ℕ → List Placed
placed_tree σ zero level start at parent place bytes = placed (node level start bytes) parent place ∷ []
placed_tree σ (suc left) level start at parent place bytes =
    placed (node level start bytes) parent place
    ∷ placed_in_turn (placed_tree σ left (level + 1)) at start (at + 1) 0 (children_of σ (level + 1) bytes)

-- "the root names itself, at place 0"
unfoldable pub places_of : Settings → List ℕ → List Placed
places_of σ bytes = placed_tree σ σ.levels 0 0 0 0 0 bytes
