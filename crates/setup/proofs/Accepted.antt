-- What those who call setup rely on: which answers are a yes, that lengths are kept, and what is read from the tables after a yes.
use mathlib.Core.Bool.{Bool, true, false, cond, ◌&&◌}
use mathlib.Core.List.{List, ◌++◌, map}
use mathlib.Core.Path.{◌≡◌, refl, ap, ◌∙◌}
use Prim.Native.Nat.{ℕ, ◌+◌, ◌*◌, ◌-◌, ◌^◌, ◌≤◌, ◌<◌}
use native.Mathlib.Nat.{suc-ne-zero}
use native.Mathlib.Omega.{arith}
use borrow.Author.Tests.{eq-eqb, eqb-true, le-leb, leb-true}
use lib.Dec.{eqb}
use lib.ListN.{length, take, replicate, length-append, length-replicate}
use lib.Seq.{take_at}
use Rattle.rows.specs.Rows.{words_of}
use Rattle.rows.proofs.Rows.{words_append}
use Rattle.fnv.specs.Fnv.{id_of_block}
use Rattle.tree.specs.declared.Settings.{Settings}
use Rattle.tree.specs.Questions.{ask}
use Rattle.tree.specs.Tree.{nodes_of}
use Rattle.node_table.specs.declared.Entry.{Entry}
use Rattle.node_table.specs.Entries.{id_at}
use Rattle.tree.specs.Table.{tree_refusal, tree_answer, tree_table, Tabled}
use Rattle.tree.proofs.Questions.{passed}
use Rattle.tree.proofs.Reading.{root_entry}
use Rattle.shingle.specs.declared.Shingle.{Shingle}
use Rattle.shingle.specs.Table.{nodes_in, shingles_in}
use Rattle.shingle.specs.Children.{listed_of}
use Rattle.shingle.proofs.NodeTable.{tree_read}
use Rattle.sketch.specs.Cells.{all_parts, cells_of}
use Rattle.sketch.specs.Sums.{sums, row_bytes}
use Rattle.sketch.proofs.Sums.{words_sums, length_rows, length-sums}
use Rattle.setup.specs.Questions.{tables_fit, refusal_of, setup_refusal, setup_answer}
use Rattle.setup.specs.Tables.{shingles_of_string, node_front, shingle_front, cell_front, setup_table, SetUp}
use Rattle.setup.proofs.Questions.{Lent, lent, lent_small, both_passed, ask_small}
use Rattle.setup.proofs.Sizes.{node_bytes, shingle_bytes, cell_bytes, few_shingles}

length_after : (refused : ℕ) (front t : List ℕ) → (refused ≡ 0 → length front ≤ length t) → length (setup_table refused front t) ≡ length t
unfolding setup_table
length_after refused front t room = go (eqb refused 0) (eqb refused 8) refl
  where
    go : (a b : Bool) → eqb refused 0 ≡ a
        → length (cond a (front ++ replicate (length t - length front) 0) (cond b (replicate (length t) 0) t)) ≡ length t
    go true b e =
        let fits = room (eqb-true refused 0 e) in
        simp (length-append, length-replicate) (omega arith)
    go false true e = length-replicate (length t) 0
    go false false e = refl

first_of : (refused : ℕ) (front t : List ℕ) → refused ≡ 0 → setup_table refused front t ≡ front ++ replicate (length t - length front) 0
unfolding setup_table
first_of refused front t e = rw e

-- The rows of a cell table's front are the cells.
cell_rows : (q zeros : ℕ) (ss : List Shingle) → take (q * 15) (words_of (row_bytes (cells_of q ss) ++ replicate zeros 0)) ≡ cells_of q ss
unfolding cells_of
cell_rows q zeros ss =
    let rows = sums (q * 15) (all_parts q ss) in
    let back = words_of (replicate zeros 0) in
    let long : length rows ≡ q * 15 = length-sums (q * 15) (all_parts q ss) in
    ap (take (q * 15)) (words_append (row_bytes rows) (replicate zeros 0) (omega (arith, length_rows rows))
    ∙ ap (λ (l : List ℕ). l ++ back) (words_sums (q * 15) (all_parts q ss)))
    ∙ take_at rows back (q * 15) long

-- What the questions say after a yes.
pub setup_passed : (σ : Settings) (string : List ℕ) (other : Bool) (nodes shingles cells : List ℕ) → setup_refusal σ string other nodes shingles cells ≡ 0
    → (other ≡ true) × Lent σ (length string) (length nodes) (length shingles) (length cells) × (length (nodes_of σ string) ≤ 4096)
unfolding setup_refusal refusal_of
setup_passed σ string other nodes shingles cells e =
    let asked = both_passed _ _ e in
    let seven = lent σ (length string) (length nodes) (length shingles) (length cells) other asked.0 in
    let eight = passed _ 8 0 (suc-ne-zero 7) asked.1 in
    (seven.0, seven.1, leb-true _ 4096 eight.0)

module _ (σ : Settings) (string nodes nodes' shingles shingles' cells cells' : List ℕ) (other : Bool) (r : ℕ)
    (made : SetUp σ string other nodes nodes' shingles shingles' cells cells' r) where
  abbrev refused_by : ℕ
  refused_by = setup_refusal σ string other nodes shingles cells

  pub yes_counts : refused_by ≡ 0 → r ≡ 2 ^ 32 + length (nodes_of σ string)
  unfolding setup_answer
  yes_counts e = made.answer ∙ rw e

  refusal_small : refused_by ≤ 8
  unfolding setup_refusal refusal_of
  refusal_small =
      let fit = other && tables_fit σ.width (length nodes) (length shingles) (length cells) in
      ask_small 8 _ _ _ (omega (arith, lent_small σ (length string) fit)) (ask_small 8 _ 8 0 (omega arith) (omega arith))

  -- An answer from 2^32 on is a yes, and no other is.
  pub yes_answer : 2 ^ 32 ≤ r → refused_by ≡ 0
  unfolding setup_answer
  yes_answer h = go (eqb refused_by 0) refl made.answer
    where
      go : (b : Bool) → eqb refused_by 0 ≡ b → r ≡ cond b (2 ^ 32 + length (nodes_of σ string)) refused_by → refused_by ≡ 0
      go true e f = eqb-true refused_by 0 e
      go false e f = absurd (omega (arith, refusal_small))

  pub no_answer : r < 2 ^ 32 → refused_by ≡ 0 → ⊥
  no_answer h e = omega (arith, yes_counts e)

  pub lent_after_yes : refused_by ≡ 0 → Lent σ (length string) (length nodes) (length shingles) (length cells)
  lent_after_yes e = (setup_passed σ string other nodes shingles cells e).1

  pub other_after_yes : refused_by ≡ 0 → other ≡ true
  other_after_yes e = (setup_passed σ string other nodes shingles cells e).0

  pub few_nodes : refused_by ≡ 0 → length (nodes_of σ string) ≤ 4096
  few_nodes e = (setup_passed σ string other nodes shingles cells e).2

  -- Every table keeps its length, whatever the answer.
  pub nodes_length : length nodes' ≡ length nodes
  nodes_length =
      ap length made.node_table
      ∙ length_after _ (node_front σ string) nodes (λ e. omega (arith, node_bytes σ string, few_nodes e, (lent_after_yes e).node_room))

  pub shingles_length : length shingles' ≡ length shingles
  shingles_length =
      ap length made.shingle_table
      ∙ length_after _ (shingle_front σ string) shingles
      (λ e. omega (arith, shingle_bytes σ string, few_shingles σ string, few_nodes e, (lent_after_yes e).shingle_room))

  pub cells_length : length cells' ≡ length cells
  cells_length =
      ap length made.cell_table
      ∙ length_after _ (cell_front σ string) cells (λ e. omega (arith, cell_bytes σ string, (lent_after_yes e).cell_room))

  -- What is read from the tables after a yes.
  module _ (accepted : refused_by ≡ 0) where
    pub tree_accepted : tree_refusal σ string (length nodes) ≡ 0
    unfolding tree_refusal ask
    tree_accepted =
        let given = lent_after_yes accepted in
        rw (eq-eqb _ 0 given.settings, le-leb 65536 _ given.node_room, le-leb _ 4096 (few_nodes accepted))

    pub tabled : Tabled σ string nodes nodes' r
    unfolding tree_answer tree_table node_front
    tabled =
        let size : 16 * length (nodes_of σ string) ≡ length (node_front σ string) = omega (arith, node_bytes σ string) in
        record {
          answer = yes_counts accepted ∙ rw tree_accepted;
          table = made.node_table ∙ (first_of _ (node_front σ string) nodes accepted ∙ rw (tree_accepted, size));
        }

    pub nodes_read : nodes_in nodes' ≡ map listed_of (nodes_of σ string)
    nodes_read = tree_read σ string nodes nodes' r tabled (omega (arith, yes_counts accepted))

    pub shingles_read : shingles_in shingles' ≡ shingles_of_string σ string
    shingles_read = made.list accepted

    pub cells_read : take (σ.width * 15) (words_of cells') ≡ cells_of σ.width (shingles_of_string σ string)
    unfolding cell_front
    cells_read =
        ap (λ (t : List ℕ). take (σ.width * 15) (words_of t)) (made.cell_table ∙ first_of _ (cell_front σ string) cells accepted)
        ∙ cell_rows σ.width (length cells - length (cell_front σ string)) (shingles_of_string σ string)

    -- The first entry of the node table is the whole string.
    pub first_id : id_at nodes' 0 ≡ id_of_block string
    first_id = ap (λ (t : List ℕ). id_at t 0) tabled.table ∙ ap (λ (e : Entry). e.id) (root_entry σ string nodes tree_accepted)
