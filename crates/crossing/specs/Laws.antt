-- Words for the laws that say the answer exactly: document 02, request 1, "exactly the nodes that share a byte with that range, in tree
-- order, with each node's parent".
use Rattle.std.specs.Prelude.{true, List, [], ◌∷◌, ◌⊎◌, ◌≡◌, ℕ, ◌+◌, ◌≤◌, ◌<◌, length, get_or}
use Rattle.node_table.specs.declared.Entry.{Entry}
use Rattle.node_table.specs.Nodes.{inside}
use Rattle.tree.specs.declared.Settings.{Settings}
use Rattle.tree.specs.Tree.{node}
use Rattle.tree.specs.Places.{Placed, placed, places_of}
use Rattle.tree.specs.Table.{entry_of}
use Rattle.crossing.specs.Crossing.{Crossing}

-- "share a byte with that range": a byte that lies in the range and in the node.
pub record Shares (start size : ℕ) (e : Entry) : Type 0 where
  pub byte : ℕ
  pub range_from : start ≤ byte
  pub range_to : byte < start + size
  pub node_from : e.start ≤ byte
  pub node_to : byte < e.start + e.size

-- The pair is one of the list.
unfoldable pub In : Crossing → List Crossing → Type 0
In c [] = ⊥
In c (d ∷ cs) = (c ≡ d) ⊎ In c cs

-- The pair is the place of a listed entry that lies in a string of n bytes and shares a byte with the range, and that entry's parent.
pub record CrossedEntry (n start size : ℕ) (es : List Entry) (d : Entry) (c : Crossing) : Type 0 where
  pub listed : c.node < length es
  pub inside : inside n (get_or es c.node d) ≡ true
  pub shares : Shares start size (get_or es c.node d)
  pub parent : c.parent ≡ (get_or es c.node d).parent

-- Node k of the string's tree.
abbrev pub node_at : Settings → List ℕ → ℕ → Placed
node_at σ string k = get_or (places_of σ string) k (placed (node 0 0 []) 0 0)

-- "the nodes that share a byte with that range .. with each node's parent": the pair is the place of such a node of the string's tree, and its
-- parent's.
pub record CrossedNode (σ : Settings) (string : List ℕ) (start size : ℕ) (c : Crossing) : Type 0 where
  pub listed : c.node < length (places_of σ string)
  pub shares : Shares start size (entry_of (node_at σ string c.node))
  pub parent : c.parent ≡ (node_at σ string c.node).parent

-- "in tree order": the places rise strictly, the first from `low` on.
pub data Rises : ℕ → List Crossing → Type 0 where
  none : {low : ℕ} → Rises low []
  more : {low : ℕ} {c : Crossing} {cs : List Crossing} → low ≤ c.node → Rises (c.node + 1) cs → Rises low (c ∷ cs)

-- "exactly": none but these, each of these, and in order.
pub record Exactly (P : Crossing → Type 0) (found : List Crossing) : Type 0 where
  pub only : (c : Crossing) → In c found → P c
  pub each : (c : Crossing) → P c → In c found
  pub order : Rises 0 found
