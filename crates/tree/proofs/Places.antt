-- Laws of places: without them the tree is the same, and a place is below 32.
use mathlib.Core.List.{List, [], ◌∷◌, ◌++◌, map, map-append}
use mathlib.Core.Path.{◌≡◌, refl, sym, ap, ap₂, ◌∙◌}
use Prim.Native.Nat.{ℕ, zero, suc, ◌+◌, ◌≤◌, ◌<◌}
use native.Mathlib.Omega.{arith}
use lib.ListN.{length, length-map}
use Rattle.node_table.specs.Laws.{Each, none, both}
use Rattle.tree.specs.declared.Settings.{Settings}
use Rattle.tree.specs.Tree.{Node, node, children_of, in_turn, tree_of, nodes_of}
use Rattle.tree.specs.Places.{Placed, placed, placed_in_turn, placed_tree, places_of}
use Rattle.tree.proofs.Tree.{children_few, each_append}

abbrev pub node_of : Placed → Node
node_of p = p.node

in_turn_placed : (f : (start at parent place : ℕ) → List ℕ → List Placed) (g : ℕ → List ℕ → List Node)
    → ((start at parent place : ℕ) (b : List ℕ) → map node_of (f start at parent place b) ≡ g start b)
    → (parent start at place : ℕ) (bs : List (List ℕ)) → map node_of (placed_in_turn f parent start at place bs) ≡ in_turn g start bs
unfolding placed_in_turn in_turn
in_turn_placed f g h parent start at place [] = refl
in_turn_placed f g h parent start at place (b ∷ bs) =
    map-append node_of (f start at parent place b) _ ∙ ap₂ ◌++◌ (h start at parent place b) (in_turn_placed f g h parent (start + length b) _ (place + 1) bs)

tree_placed : (σ : Settings) (left level start at parent place : ℕ) (bytes : List ℕ)
    → map node_of (placed_tree σ left level start at parent place bytes) ≡ tree_of σ left level start bytes
unfolding placed_tree tree_of
tree_placed σ zero level start at parent place bytes = refl
tree_placed σ (suc left) level start at parent place bytes =
    ap (λ (l : List Node). node level start bytes ∷ l)
    (in_turn_placed (placed_tree σ left (level + 1)) (tree_of σ left (level + 1)) (tree_placed σ left (level + 1)) at start (at + 1) 0
    (children_of σ (level + 1) bytes))

-- Without places they are the tree's nodes.
pub nodes_placed : (σ : Settings) (bytes : List ℕ) → map node_of (places_of σ bytes) ≡ nodes_of σ bytes
unfolding places_of nodes_of
nodes_placed σ bytes = tree_placed σ σ.levels 0 0 0 0 0 bytes

pub count_placed : (σ : Settings) (bytes : List ℕ) → length (places_of σ bytes) ≡ length (nodes_of σ bytes)
count_placed σ bytes = sym (length-map (places_of σ bytes) node_of) ∙ ap length (nodes_placed σ bytes)

-- Its place is below 32.
turn_few : (f : (start at parent place : ℕ) → List ℕ → List Placed)
    → ((start at parent place : ℕ) (b : List ℕ) → place < 32 → Each (λ n. n.place < 32) (f start at parent place b))
    → (parent start at place : ℕ) (bs : List (List ℕ)) → place + length bs ≤ 32 → Each (λ n. n.place < 32) (placed_in_turn f parent start at place bs)
unfolding placed_in_turn
turn_few f h parent start at place [] l = none
turn_few f h parent start at place (b ∷ bs) l =
    each_append (h start at parent place b (omega arith)) (turn_few f h parent (start + length b) _ (place + 1) bs (omega arith))

tree_few : (σ : Settings) (left level start at parent place : ℕ) (bytes : List ℕ) → place < 32 → Each (λ n. n.place < 32) (placed_tree σ left level start at parent place bytes)
unfolding placed_tree
tree_few σ zero level start at parent place bytes l = both {n = placed (node level start bytes) parent place} l none
tree_few σ (suc left) level start at parent place bytes l =
    both {n = placed (node level start bytes) parent place} l
    (turn_few (placed_tree σ left (level + 1)) (λ s a q i b. tree_few σ left (level + 1) s a q i b) at start (at + 1) 0 (children_of σ (level + 1) bytes)
    (omega (arith, children_few σ (level + 1) bytes)))

pub places_few : (σ : Settings) (bytes : List ℕ) → Each (λ n. n.place < 32) (places_of σ bytes)
unfolding places_of
places_few σ bytes = tree_few σ σ.levels 0 0 0 0 0 bytes (omega arith)
