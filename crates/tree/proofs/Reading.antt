-- Reading a table that cutting a string wrote: the entries that it lists are those of the string's tree.
use mathlib.Core.Bool.{Bool, true, false}
use mathlib.Core.List.{List, [], ◌∷◌, ◌++◌, map}
use mathlib.Core.Path.{◌≡◌, refl, sym, ap, ◌∙◌}
use Prim.Native.Nat.{ℕ, ◌*◌, ◌-◌, ◌/◌, ◌≤◌, ◌<◌}
use native.Mathlib.Omega.{arith}
use native.Mathlib.Nat.{suc-ne-zero}
use borrow.Author.Tests.{eqb-true, eqb-false, leb-true}
use lib.Dec.{eqb, leb}
use lib.ListN.{length, get_or, replicate, length-append, length-replicate, length-map}
use Rattle.fnv.proofs.Fnv.{block_id_small, block_id_nonzero}
use Rattle.node_table.specs.declared.Entry.{Entry}
use Rattle.node_table.specs.Entries.{entry_at}
use Rattle.node_table.specs.Nodes.{entries_from, entries_in}
use Rattle.node_table.specs.Laws.{Each, none, both, Fits}
use Rattle.node_table.proofs.Nodes.{read_back, listed_entry}
use Rattle.tree.specs.declared.Settings.{Settings}
use Rattle.tree.specs.Questions.{refusal, ask}
use Rattle.tree.specs.Tree.{node, nodes_of}
use Rattle.tree.specs.Places.{Placed, placed, places_of}
use Rattle.tree.specs.Table.{entry_of, entries_of, tree_refusal, tree_table}
use Rattle.tree.specs.Filling.{ChildrenFill}
use Rattle.tree.specs.Laws.{Within}
use Rattle.tree.proofs.Questions.{passed, granted}
use Rattle.tree.proofs.Wrote.{length_nodes}
use Rattle.tree.proofs.Tree.{nodes_within, nodes_shallow}
use Rattle.tree.proofs.Places.{node_of, nodes_placed, count_placed, places_few}
use Rattle.tree.proofs.Filling.{root_itself, children_fill, parents_listed}

-- What an accepted tree passed: 1 to 6, 7 and 8.
pub record Accepted (σ : Settings) (string : List ℕ) (room : ℕ) : Type 0 where
  pub settings : refusal σ (length string) ≡ 0
  pub long : 65536 ≤ room
  pub few : length (nodes_of σ string) ≤ 4096

pub tree_accepted : (σ : Settings) (string : List ℕ) (room : ℕ) → tree_refusal σ string room ≡ 0 → Accepted σ string room
unfolding tree_refusal ask
tree_accepted σ string room e = go (eqb (refusal σ (length string)) 0) refl e
  where
    go : (t : Bool) → eqb (refusal σ (length string)) 0 ≡ t
        → ask t (refusal σ (length string)) (ask (leb 65536 room) 7 (ask (leb (length (nodes_of σ string)) 4096) 8 0)) ≡ 0 → Accepted σ string room
    go true t q =
        let seven = passed (leb 65536 room) 7 _ (suc-ne-zero 6) q in
        let eight = passed (leb (length (nodes_of σ string)) 4096) 8 0 (suc-ne-zero 7) seven.1 in
        record { settings = eqb-true (refusal σ (length string)) 0 t; long = leb-true 65536 room seven.0; few = leb-true _ 4096 eight.0 }
    go false t q = absurd (eqb-false (refusal σ (length string)) 0 t q)

-- Nodes in a string of at most 65,536 bytes, at most four levels deep and at most 4,096 in number, fit their entries.
nodes_fit : (ns : List Placed) (string : List ℕ) (levels count : ℕ) → length string ≤ 65536 → levels ≤ 4 → count ≤ 4096
    → Each (λ n. Within string n.start n.bytes) (map node_of ns) → Each (λ n. n.level ≤ levels) (map node_of ns)
    → Each (λ e. e.parent < count) (map entry_of ns) → Each (λ n. n.place < 32) ns → Each Fits (map entry_of ns)
nodes_fit [] string levels count size deep few none none none none = none
nodes_fit (n ∷ ns) string levels count size deep few (both w ws) (both l ls) (both p ps) (both q qs) =
    both {n = entry_of n}
    (record {
      some = block_id_nonzero n.node.bytes;
      id = block_id_small n.node.bytes;
      level = omega arith;
      size = omega (arith, w.inside);
      start = omega (arith, w.inside);
      parent = omega arith;
      place = q;
    })
    (nodes_fit ns string levels count size deep few ws ls ps qs)

-- The table of a string that was accepted.
module _ (σ : Settings) (string before : List ℕ) (accepted : tree_refusal σ string (length before) ≡ 0) where
  given : Accepted σ string (length before)
  given = tree_accepted σ string (length before) accepted

  count : length (map entry_of (places_of σ string)) ≡ length (nodes_of σ string)
  count = length-map (places_of σ string) entry_of ∙ count_placed σ string

  pub entries_fit : Each Fits (map entry_of (places_of σ string))
  entries_fit =
      let passes = granted σ (length string) given.settings in
      nodes_fit (places_of σ string) string σ.levels (length (map entry_of (places_of σ string))) passes.1 passes.0.levels_high (omega (arith, count, given.few))
      (rw (nodes_placed σ string) (nodes_within σ string)) (rw (nodes_placed σ string) (nodes_shallow σ string)) (parents_listed σ string) (places_few σ string)

  abbrev zeros : ℕ
  zeros = length before - 16 * length (nodes_of σ string)

  written : tree_table σ string before ≡ entries_of (places_of σ string) ++ replicate zeros 0
  unfolding tree_table
  written = rw accepted

  long : length (tree_table σ string before) ≡ length before
  long =
      ap length written ∙ (length-append (entries_of (places_of σ string)) (replicate zeros 0)
      ∙ omega (arith, length_nodes (places_of σ string), count_placed σ string, length-replicate {A = ℕ} zeros 0, given.few, given.long))

  -- The entries from the first on, at most so many.
  pub tree_entries : (left : ℕ) → length (nodes_of σ string) ≤ left → entries_from (tree_table σ string before) left 0 ≡ map entry_of (places_of σ string)
  tree_entries left h =
      ap (λ (t : List ℕ). entries_from t left 0) written ∙ read_back entries_fit zeros left (omega (arith, count))

  pub tree_listed : entries_in (tree_table σ string before) ≡ map entry_of (places_of σ string)
  unfolding entries_in
  tree_listed = tree_entries (length (tree_table σ string before) / 16) (omega (arith, long, given.few, given.long))

  -- The first entry is the whole string's.
  pub root_entry : entry_at (tree_table σ string before) 0 ≡ entry_of (placed (node 0 0 string) 0 0)
  root_entry =
      let d = entry_of (placed (node 0 0 string) 0 0) in
      let root = root_itself σ string d in
      sym (listed_entry (tree_table σ string before) 0 d (rw tree_listed root.0)) ∙ (ap (λ (es : List Entry). get_or es 0 d) tree_listed ∙ root.1)

  -- "In an accepted tree the nodes naming a parent, one level down, fill it end to end in order of place": of the table's bytes.
  pub table_fills : (k : ℕ) (d : Entry) → let es = entries_in (tree_table σ string before) in
      k < length es → (get_or es k d).level < σ.levels → ChildrenFill es k (get_or es k d)
  table_fills k d = rw tree_listed (children_fill σ string k d)
