-- The children of a node among the nodes that a table lists, and the pairs that they give.
use Rattle.std.specs.Prelude.{List, [], ◌∷◌, ◌++◌, ℕ, ◌<◌}
use Rattle.fnv.specs.Fnv.{id_of_block}
use Rattle.tree.specs.Tree.{Node}
use Rattle.shingle.specs.Shingles.{Listed, listed, Pair, pair}

-- A node of the tree as its table lists it.
abbrev pub listed_of : Node → Listed
listed_of n = listed n.level (id_of_block n.bytes)

-- The pairs of neighbours of level l with the given ids, the first of which has `previous` before it.
unfoldable pub pairs_along : ℕ → ℕ → List ℕ → List Pair
pairs_along l previous [] = []
pairs_along l previous (id ∷ ids) = pair l previous id ∷ pairs_along l id ids

-- All of the nodes are deeper than level l.
pub data Deeper (l : ℕ) : List Listed → Type 0 where
  none : Deeper l []
  more : {n : Listed} {ns : List Listed} → l < n.level → Deeper l ns → Deeper l (n ∷ ns)

-- "a child with all its descendants before its next sibling, from the left": nodes of level l with the given ids, each
-- followed by what is deeper.
pub data Children (l : ℕ) : List ℕ → List Listed → Type 0 where
  none : Children l [] []
  child : {id : ℕ} {ids : List ℕ} {below rest : List Listed} → Deeper l below → Children l ids rest
      → Children l (id ∷ ids) (listed l id ∷ (below ++ rest))
