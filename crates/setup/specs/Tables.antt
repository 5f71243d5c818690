-- The three tables that setting up an end leaves, said of the settings and the string alone.
use Rattle.std.specs.Prelude.{Bool, cond, List, ◌++◌, map, ◌≡◌, ℕ, ◌-◌, eqb, length, replicate}
use Rattle.tree.specs.declared.Settings.{Settings}
use Rattle.tree.specs.Tree.{nodes_of}
use Rattle.tree.specs.Places.{places_of}
use Rattle.tree.specs.Table.{entries_of}
use Rattle.entries.specs.Entries.{table_bytes}
use Rattle.shingle.specs.declared.Shingle.{Shingle}
use Rattle.shingle.specs.Shingles.{shingles_of}
use Rattle.shingle.specs.Children.{listed_of}
use Rattle.shingle.specs.Table.{entry_of, shingles_in}
use Rattle.sketch.specs.Sums.{row_bytes}
use Rattle.sketch.specs.Cells.{cells_of}
use Rattle.setup.specs.Questions.{setup_refusal, setup_answer}

-- The shingle list of a string: that of its tree's nodes.
unfoldable pub shingles_of_string : Settings → List ℕ → List Shingle
shingles_of_string σ string = shingles_of (map listed_of (nodes_of σ string))

-- The used front of each table: the nodes' entries, the shingles' entries, the rows of the cells.
unfoldable pub node_front : Settings → List ℕ → List ℕ
node_front σ string = entries_of (places_of σ string)

unfoldable pub shingle_front : Settings → List ℕ → List ℕ
shingle_front σ string = table_bytes (map entry_of (shingles_of_string σ string))

unfoldable pub cell_front : Settings → List ℕ → List ℕ
cell_front σ string = row_bytes (cells_of σ.width (shingles_of_string σ string))

-- A table t after setup: "A no at 1 to 7 leaves tables unchanged; at 8 they are all zero. .. After a yes, entries past the last used
-- are zero."
unfoldable pub setup_table : (refused : ℕ) → (front t : List ℕ) → List ℕ
setup_table refused front t =
    cond (eqb refused 0)
    (front ++ replicate (length t - length front) 0)
    (cond (eqb refused 8) (replicate (length t) 0) t)

-- What setting up promises of its answer and of every byte of the three tables; and that a yes leaves the string's shingles to be read.
pub record SetUp (σ : Settings) (string : List ℕ) (other : Bool) (nodes nodes' shingles shingles' cells cells' : List ℕ) (r : ℕ) : Type 0 where
  pub answer : r ≡ setup_answer (setup_refusal σ string other nodes shingles cells) (length (nodes_of σ string))
  pub node_table : nodes' ≡ setup_table (setup_refusal σ string other nodes shingles cells) (node_front σ string) nodes
  pub shingle_table : shingles' ≡ setup_table (setup_refusal σ string other nodes shingles cells) (shingle_front σ string) shingles
  pub cell_table : cells' ≡ setup_table (setup_refusal σ string other nodes shingles cells) (cell_front σ string) cells
  pub list : setup_refusal σ string other nodes shingles cells ≡ 0 → shingles_in shingles' ≡ shingles_of_string σ string
