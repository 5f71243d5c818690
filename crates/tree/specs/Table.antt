-- The node table: an entry for each node. What cutting a string answers and leaves.
use Rattle.std.specs.Prelude.{cond, List, ◌++◌, map, ◌≡◌, ℕ, ◌+◌, ◌*◌, ◌-◌, ◌^◌, leb, eqb, length, replicate}
use Rattle.fnv.specs.Fnv.{id_of_block}
use Rattle.node_table.specs.declared.Entry.{Entry}
use Rattle.node_table.specs.Nodes.{entries_bytes}
use Rattle.tree.specs.declared.Settings.{Settings}
use Rattle.tree.specs.Questions.{ask, refusal}
use Rattle.tree.specs.Tree.{nodes_of}
use Rattle.tree.specs.Places.{Placed, places_of}

-- The entry of a node.
abbrev pub entry_of : Placed → Entry
entry_of n =
    record {
      id = id_of_block n.node.bytes;
      level = n.node.level;
      start = n.node.start;
      size = length n.node.bytes;
      parent = n.parent;
      place = n.place;
    }

-- The bytes of nodes' entries, one after the other.
abbrev pub entries_of : List Placed → List ℕ
entries_of ns = entries_bytes (map entry_of ns)

-- 0, or the number of the first question that fails: 1 to 6, then "7 lent tables long enough for 4,096 nodes", then
-- "8 at most 4,096 nodes".
unfoldable pub tree_refusal : Settings → List ℕ → ℕ → ℕ
tree_refusal σ string room =
    ask (eqb (refusal σ (length string)) 0) (refusal σ (length string))
    (ask (leb 65536 room) 7
    (ask (leb (length (nodes_of σ string)) 4096) 8
    0))

-- The answer: the refusing question's number, or 2^32 and the number of nodes.
unfoldable pub tree_answer : Settings → List ℕ → ℕ → ℕ
tree_answer σ string room = cond (eqb (tree_refusal σ string room) 0) (2 ^ 32 + length (nodes_of σ string)) (tree_refusal σ string room)

-- The table after it: "A no at 1 to 7 leaves tables unchanged; at 8 they are all zero. .. After a yes, entries past the last
-- used are zero."
unfoldable pub tree_table : Settings → List ℕ → List ℕ → List ℕ
tree_table σ string t =
    cond (eqb (tree_refusal σ string (length t)) 0)
    (entries_of (places_of σ string) ++ replicate (length t - 16 * length (nodes_of σ string)) 0)
    (cond (eqb (tree_refusal σ string (length t)) 8) (replicate (length t) 0) t)

-- What cutting a string promises.
pub record Tabled (σ : Settings) (string before after : List ℕ) (r : ℕ) : Type 0 where
  pub answer : r ≡ tree_answer σ string (length before)
  pub table : after ≡ tree_table σ string before
