-- The shingles of a list of nodes: document 01, 'Shingles and sketch', first paragraph.
use Rattle.std.specs.Prelude.{Bool, false, cond, List, [], ◌∷◌, ℕ, ◌+◌, ltb, eqb}
use Rattle.entries.specs.Order.{earlier}
use Rattle.shingle.specs.declared.Shingle.{Shingle}

-- A node as a node table lists it: its level and its id. Lists of nodes have the table's order: "each before its children,
-- and a child with all its descendants before its next sibling, from the left".
pub record Listed : Type 0 where
  pub level : ℕ
  pub id : ℕ

abbrev pub listed : ℕ → ℕ → Listed
listed level id = record { level = level; id = id }

-- "Each node gives the pair (id of its left sibling, own id) at its level"
pub record Pair : Type 0 where
  pub level : ℕ
  pub previous : ℕ
  pub own : ℕ

abbrev pub pair : ℕ → ℕ → ℕ → Pair
pair level previous own = record { level = level; previous = previous; own = own }

-- "A shingle .. is previous id, own id, level, count": a pair at its level with its count.
abbrev pub shingle : Pair → ℕ → Shingle
shingle k count = record { previous = k.previous; own = k.own; level = k.level; count = count }

abbrev pub pair_of : Shingle → Pair
pair_of s = pair s.level s.previous s.own

-- The id of the left sibling of a node of level l, from the nodes listed before it, the nearest first. Deeper ones are below
-- that sibling. The first that is not deeper is the sibling, or else the parent: "a first child and the root have 0".
unfoldable pub sibling_of : ℕ → List Listed → ℕ
sibling_of l [] = 0
sibling_of l (n ∷ ns) = cond (ltb l n.level) (sibling_of l ns) (cond (eqb n.level l) n.id 0)

-- The pairs that nodes give, where others were listed before them, the nearest first.
unfoldable pub pairs_after : List Listed → List Listed → List Pair
pairs_after before [] = []
pairs_after before (n ∷ ns) = pair n.level (sibling_of n.level before) n.id ∷ pairs_after (n ∷ before) ns

unfoldable pub pairs_of : List Listed → List Pair
pairs_of ns = pairs_after [] ns

-- "sorted by level, previous id, own id, unsigned"
unfoldable pub lower : Pair → Pair → Bool
lower a b = earlier a.level a.previous a.own b.level b.previous b.own false

-- One more node gives the pair k: its shingle's count is one more, or it gets one of count 1 in its place.
unfoldable pub counting : Pair → List Shingle → List Shingle
counting k [] = shingle k 1 ∷ []
counting k (s ∷ ss) =
    cond (lower (pair_of s) k) (s ∷ counting k ss)
    (cond (lower k (pair_of s)) (shingle k 1 ∷ s ∷ ss)
    (shingle k (s.count + 1) ∷ ss))

-- "Count is how many nodes of the level give that pair."
unfoldable pub counted : List Pair → List Shingle
counted [] = []
counted (k ∷ ks) = counting k (counted ks)

unfoldable pub shingles_of : List Listed → List Shingle
shingles_of ns = counted (pairs_of ns)
