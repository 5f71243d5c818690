-- How many bytes the used front of each table has.
use mathlib.Core.List.{List, [], ◌∷◌, map}
use mathlib.Core.Path.{◌≡◌, refl, ap, ◌∙◌}
use Prim.Native.Nat.{ℕ, ◌*◌, ◌≤◌}
use native.Mathlib.Omega.{arith}
use lib.ListN.{length, length-append, length-map}
use Rattle.rows.proofs.Put.{length_bytes}
use Rattle.entries.specs.declared.Entry.{Entry}
use Rattle.entries.specs.Entries.{entry_bytes, table_bytes}
use Rattle.tree.specs.declared.Settings.{Settings}
use Rattle.tree.specs.Tree.{nodes_of}
use Rattle.tree.specs.Places.{places_of}
use Rattle.tree.proofs.Wrote.{length_nodes}
use Rattle.tree.proofs.Places.{count_placed}
use Rattle.shingle.specs.declared.Shingle.{Shingle}
use Rattle.shingle.specs.Children.{listed_of}
use Rattle.shingle.specs.Table.{entry_of}
use Rattle.shingle.proofs.Rising.{shingles_few}
use Rattle.sketch.specs.Cells.{cells_of}
use Rattle.sketch.proofs.Sums.{length_rows, length-sums}
use Rattle.setup.specs.Tables.{shingles_of_string, node_front, shingle_front, cell_front}

length_entry : (e : Entry) → length (entry_bytes e) ≡ 24
unfolding entry_bytes
length_entry e = simp (length-append, length_bytes)

length_table : (es : List Entry) → length (table_bytes es) ≡ length es * 24
unfolding table_bytes
length_table [] = refl
length_table (e ∷ es) = simp (length-append, length_entry, length_table es) (omega arith)

pub length_shingles : (ss : List Shingle) → length (table_bytes (map entry_of ss)) ≡ length ss * 24
length_shingles ss = length_table (map entry_of ss) ∙ ap (λ (n : ℕ). n * 24) (length-map ss entry_of)

pub length_cells : (q : ℕ) (ss : List Shingle) → length (cells_of q ss) ≡ q * 15
unfolding cells_of
length_cells q ss = length-sums (q * 15) _

module _ (σ : Settings) (string : List ℕ) where
  pub node_bytes : length (node_front σ string) ≡ length (nodes_of σ string) * 16
  unfolding node_front
  node_bytes = length_nodes (places_of σ string) ∙ ap (λ (n : ℕ). n * 16) (count_placed σ string)

  pub shingle_bytes : length (shingle_front σ string) ≡ length (shingles_of_string σ string) * 24
  unfolding shingle_front
  shingle_bytes = length_shingles (shingles_of_string σ string)

  pub cell_bytes : length (cell_front σ string) ≡ σ.width * 120
  unfolding cell_front
  cell_bytes =
      let ss = shingles_of_string σ string in
      omega (arith, length_rows (cells_of σ.width ss), length_cells σ.width ss)

  -- There are no more shingles than nodes.
  pub few_shingles : length (shingles_of_string σ string) ≤ length (nodes_of σ string)
  unfolding shingles_of_string
  few_shingles = omega (arith, shingles_few (map listed_of (nodes_of σ string)), length-map (nodes_of σ string) listed_of)
