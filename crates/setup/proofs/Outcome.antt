-- Each way out of filling the three tables is a case of the definition: refused by 1 to 7, by 8, and accepted.
use mathlib.Core.Bool.{Bool, true, false, ◌&&◌}
use mathlib.Core.List.{List, ◌++◌, map}
use mathlib.Core.Path.{◌≡◌, refl, sym, ap, ◌∙◌}
use Prim.Native.Nat.{ℕ, ◌+◌, ◌*◌, ◌-◌, ◌^◌, ◌≤◌}
use native.Mathlib.Nat.{sub-zero}
use native.Mathlib.Omega.{arith}
use borrow.Author.Tests.{eq-eqb, ne_eqb, le-leb}
use lib.Dec.{leb, eqb}
use lib.ListN.{length, replicate}
use Rattle.refusal.specs.declared.Refusal.{Refusal}
use Rattle.refusal.specs.Answer.{number_of}
use Rattle.refusal.proofs.Numbers.{number_small, number_nonzero}
use Rattle.rows.specs.Rows.{clear_from}
use Rattle.entries.specs.Entries.{table_bytes}
use Rattle.tree.specs.declared.Settings.{Settings}
use Rattle.tree.specs.Questions.{ask}
use Rattle.tree.specs.Tree.{nodes_of}
use Rattle.tree.specs.Table.{tree_refusal, tree_answer, tree_table, Tabled}
use Rattle.shingle.specs.declared.Shingle.{Shingle}
use Rattle.shingle.specs.Shingles.{Listed, shingles_of}
use Rattle.shingle.specs.Table as shingle
use Rattle.shingle.specs.Table.{entry_of, nodes_in, shingles_in}
use Rattle.shingle.proofs.NodeTable.{tree_read}
use Rattle.sketch.specs.Cells as sketch
use Rattle.sketch.specs.Sums.{row_bytes}
use Rattle.sketch.specs.Cells.{cells_of}
use Rattle.setup.specs.Questions.{tables_fit, lent_refusal, refusal_of, setup_refusal, setup_answer}
use Rattle.setup.specs.Tables.{shingles_of_string, node_front, shingle_front, cell_front, setup_table, SetUp}
use Rattle.setup.proofs.Questions.{Lent, lent, lent_small}
use Rattle.setup.proofs.Sizes.{node_bytes, length_shingles, cell_bytes}

cleared : (front t : List ℕ) (refused : ℕ) → refused ≡ 8 → clear_from t 0 ≡ setup_table refused front t
unfolding clear_from setup_table
cleared front t refused e = rw (e, sub-zero)

filled : (front t : List ℕ) (refused size : ℕ) → refused ≡ 0 → size ≡ length front
    → front ++ replicate (length t - size) 0 ≡ setup_table refused front t
unfolding setup_table
filled front t refused size e s = rw (e, s)

-- A shingle table filled from a node table that holds these nodes.
shingles_filled : (nodes t : List ℕ) (ns : List Listed) → 98304 ≤ length t → nodes_in nodes ≡ ns
    → shingle.fill_table nodes t ≡ table_bytes (map entry_of (shingles_of ns)) ++ replicate (length t - 24 * length (shingles_of ns)) 0
unfolding shingle.fill_table
shingles_filled nodes t ns room e = rw (le-leb 98304 (length t) room, e)

-- A cell table filled from a shingle table that holds these shingles.
cells_filled : (q : ℕ) (shingles t : List ℕ) (ss : List Shingle) → 1 ≤ q → q ≤ 64 → q * 120 ≤ length t → shingles_in shingles ≡ ss
    → sketch.fill_table q shingles t ≡ row_bytes (cells_of q ss) ++ replicate (length t - q * 120) 0
unfolding sketch.fill_table
cells_filled q shingles t ss low high room e = rw (le-leb 1 q low, le-leb q 64 high, le-leb (q * 120) (length t) room, e)

module _ (σ : Settings) (string nodes shingles cells : List ℕ) (other : Bool) where
  abbrev fit : Bool
  fit = other && tables_fit σ.width (length nodes) (length shingles) (length cells)

  abbrev refused_by : ℕ
  refused_by = setup_refusal σ string other nodes shingles cells

  -- A no at 1 to 7.
  pub refused : (k : ℕ) → k ≡ lent_refusal σ (length string) fit → (k ≡ 0 → ⊥) → SetUp σ string other nodes nodes shingles shingles cells cells k
  unfolding setup_refusal refusal_of setup_answer setup_table ask
  refused k e some =
      let at : refused_by ≡ k = rw (← e, ne_eqb k 0 some) in
      let early : eqb k 8 ≡ false = ne_eqb k 8 (λ z. omega (arith, lent_small σ (length string) fit)) in
      record {
        answer = rw (at, ne_eqb k 0 some);
        node_table = rw (at, ne_eqb k 0 some, early);
        shingle_table = rw (at, ne_eqb k 0 some, early);
        cell_table = rw (at, ne_eqb k 0 some, early);
        list = λ z. absurd (some (sym at ∙ z));
      }

  -- 1 to 7 passed, and the string cut.
  module _ (passes : lent_refusal σ (length string) fit ≡ 0) (nodes' : List ℕ) (r : ℕ) (tabled : Tabled σ string nodes nodes' r) where
    long : Lent σ (length string) (length nodes) (length shingles) (length cells)
    long = (lent σ _ _ _ _ other passes).1

    last_question : (b : Bool) → leb (length (nodes_of σ string)) 4096 ≡ b → refused_by ≡ ask b 8 0
    unfolding setup_refusal refusal_of ask
    last_question b e = rw (eq-eqb _ 0 passes, e)

    tree_question : (b : Bool) → leb (length (nodes_of σ string)) 4096 ≡ b → tree_refusal σ string (length nodes) ≡ ask b 8 0
    unfolding tree_refusal ask
    tree_question b e = rw (eq-eqb _ 0 long.settings, le-leb 65536 (length nodes) long.node_room, e)

    same_refusal : tree_refusal σ string (length nodes) ≡ refused_by
    same_refusal = tree_question _ refl ∙ sym (last_question _ refl)

    answered : r ≡ setup_answer refused_by (length (nodes_of σ string))
    unfolding tree_answer setup_answer
    answered = tabled.answer ∙ rw same_refusal

    tree_written : nodes' ≡ setup_table refused_by (node_front σ string) nodes
    unfolding tree_table setup_table node_front
    tree_written =
        let size : 16 * length (nodes_of σ string) ≡ length (node_front σ string) = omega (arith, node_bytes σ string) in
        tabled.table ∙ rw (same_refusal, size)

    -- Only 8 is left to refuse.
    at_zero : refused_by ≡ 0 → r ≡ 2 ^ 32 + length (nodes_of σ string)
    unfolding setup_answer
    at_zero e = answered ∙ rw e

    at_eight : refused_by ≡ 8 → r ≡ 8
    unfolding setup_answer
    at_eight e = answered ∙ rw e

    either : (P : Type 0) → (refused_by ≡ 0 → r ≡ 2 ^ 32 + length (nodes_of σ string) → P) → (refused_by ≡ 8 → r ≡ 8 → P) → P
    unfolding ask
    either P few many = go _ refl
      where
        go : (b : Bool) → leb (length (nodes_of σ string)) 4096 ≡ b → P
        go true t = let e : refused_by ≡ 0 = last_question true t in few e (at_zero e)
        go false t = let e : refused_by ≡ 8 = last_question false t in many e (at_eight e)

    -- Of the questions, 8 alone.
    pub only_count : (q : Refusal) → r ≡ number_of q → r ≡ 8
    only_count q e = either (r ≡ 8) (λ z k. absurd (omega (arith, number_small q, e, k))) (λ z k. k)

    -- The two tables that are filled from the nodes are long enough.
    pub shingles_pass : (shingles' : List ℕ) (q : Refusal) → shingle.Filled nodes' shingles shingles' (number_of q) → ⊥
    unfolding shingle.fill_answer
    shingles_pass shingles' q s =
        let e : number_of q ≡ 2 ^ 32 + length (shingles_of (nodes_in nodes')) = s.answer ∙ rw (le-leb 98304 (length shingles) long.shingle_room) in
        absurd (omega (arith, number_small q, e))

    pub cells_pass : (shingles' cells' : List ℕ) (q : Refusal) → sketch.Filled σ.width shingles' cells cells' (number_of q) → ⊥
    unfolding sketch.fill_answer
    cells_pass shingles' cells' q c =
        number_nonzero q (c.answer ∙ rw (le-leb 1 σ.width long.width_low, le-leb σ.width 64 long.width_high, le-leb (σ.width * 120) (length cells) long.cell_room))

    pub refused_count : r ≡ 8 → (shingles' cells' : List ℕ) → shingles' ≡ clear_from shingles 0 → cells' ≡ clear_from cells 0
        → SetUp σ string other nodes nodes' shingles shingles' cells cells' 8
    refused_count eight shingles' cells' s c =
        let e : refused_by ≡ 8 = either (refused_by ≡ 8) (λ z a. absurd (omega arith)) (λ z a. z) in
        record {
          answer = sym eight ∙ answered;
          node_table = tree_written;
          shingle_table = s ∙ cleared (shingle_front σ string) shingles _ e;
          cell_table = c ∙ cleared (cell_front σ string) cells _ e;
          list = λ z. absurd (omega (arith, e, z));
        }

    pub accepted : (r ≡ 8 → ⊥) → (shingles' cells' : List ℕ) (a b : ℕ) → shingle.Filled nodes' shingles shingles' a
        → sketch.Filled σ.width shingles' cells cells' b → SetUp σ string other nodes nodes' shingles shingles' cells cells' r
    unfolding shingles_of_string shingle_front cell_front
    accepted some shingles' cells' a b s c =
        let e : refused_by ≡ 0 = either (refused_by ≡ 0) (λ z k. z) (λ z k. absurd (some k)) in
        let yes-answer : 2 ^ 32 ≤ r = either (2 ^ 32 ≤ r) (λ z k. omega arith) (λ z k. absurd (some k)) in
        let read = tree_read σ string nodes nodes' r tabled yes-answer in
        let ss = shingles_of_string σ string in
        let listed : shingles_in shingles' ≡ ss = s.list long.shingle_room ∙ ap shingles_of read in
        record {
          answer = answered;
          node_table = tree_written;
          shingle_table =
              s.table ∙ (shingles_filled nodes' shingles _ long.shingle_room read
              ∙ filled (shingle_front σ string) shingles _ (24 * length ss) e (omega (arith, length_shingles ss)));
          cell_table =
              c.table ∙ (cells_filled σ.width shingles' cells ss long.width_low long.width_high long.cell_room listed
              ∙ filled (cell_front σ string) cells _ (σ.width * 120) e (sym (cell_bytes σ string)));
          list = λ z. listed;
        }
