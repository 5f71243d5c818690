-- What an accepted setup leaves is what a session starts from: long enough, its nodes are those of the own tree, and its list and cells
-- are the own string's.
use mathlib.Core.Bool.{Bool, true, false, cond, ◌&&◌}
use mathlib.Core.List.{List, [], ◌∷◌, ◌++◌, map}
use mathlib.Core.Logic.{inl, inr}
use mathlib.Core.Option.{Option, none, some}
use mathlib.Core.Path.{◌≡◌, refl, sym, ap, ◌∙◌}
use Prim.Native.Nat.{ℕ, suc, ◌+◌, ◌*◌, ◌-◌, ◌≤◌, ◌<◌}
use native.Mathlib.Omega.{arith}
use lib.Dec.{eqb}
use lib.ListN.{length, get_or, take, replicate}
use lib.Seq.{get_or-take}
use borrow.Author.Tests.{eqb-true}
use Rattle.entries.proofs.Linear.{both}
use Rattle.rows.specs.Rows.{words_of}
use Rattle.fnv.specs.Fnv.{id_of_block}
use Rattle.tree.specs.declared.Settings.{Settings}
use Rattle.tree.specs.Questions.{refusal}
use Rattle.tree.specs.Tree.{nodes_of}
use Rattle.node_table.specs.Laws.{Each, both as both_within}
use Rattle.tree.specs.Laws.{Content, content, Within}
use Rattle.tree.specs.Places.{Placed, places_of}
use Rattle.tree.specs.Table.{entry_of as node_entry, tree_refusal, tree_table}
use Rattle.tree.proofs.Questions.{granted}
use Rattle.tree.proofs.Tree.{nodes_within}
use Rattle.tree.proofs.Places.{node_of, nodes_placed}
use Rattle.tree.proofs.Reading.{tree_listed}
use Rattle.entries.specs.Entries.{table_bytes}
use Rattle.shingle.proofs.PairOrder.{and_true}
use Rattle.shingle.specs.Table.{shingles_in, entry_of}
use Rattle.sketch.specs.Sums.{along}
use Rattle.sketch.specs.Cells.{cells_of}
use Rattle.setup.specs.Questions.{setup_refusal, setup_answer}
use Rattle.setup.specs.Tables.{shingles_of_string, node_front, shingle_front, cell_front, setup_table, SetUp}
use Rattle.setup.proofs.Questions.{long_enough}
use Rattle.setup.proofs.Sizes.{length_cells, length_shingles}
use Rattle.setup.proofs.Accepted.{setup_passed, nodes_length, shingles_length, cells_length, tree_accepted, tabled, cells_read}
use Rattle.protocol.specs.Lent.{Lent, refused_by}
use Rattle.node_table.specs.declared.Entry.{Entry}
use Rattle.node_table.specs.Nodes.{inside, entries_in, from_first}
use Rattle.protocol.specs.Nodes.{block_in, first_block, look}
use Rattle.single.specs.Peeling.{rows_in}
use Rattle.protocol.specs.State.{initial}
use Rattle.single.specs.Peeling.{list_table}
use Rattle.protocol.specs.Calls.{Every, Some}
use Rattle.protocol.specs.Genuine.{blocks_of}
use Rattle.protocol.specs.Demand.{In, SetupAccepts, left_by_setup}
use Rattle.protocol.proofs.Pending.{Sound}
use Rattle.protocol.proofs.Stages.{Starts}
use Rattle.protocol.proofs.Tables.{list_read}

-- A list from its members by number.
along_list : (ws l : List ℕ) (i : ℕ) → ((k : ℕ) → k < length l → get_or ws (i + k) 0 ≡ get_or l k 0) → along (length l) i (λ (k : ℕ). get_or ws k 0) ≡ l
unfolding along
along_list ws [] i same = refl
along_list ws (x ∷ l) i same =
    let here : i ≡ i + 0 = omega arith in
    let first : get_or ws i 0 ≡ x = ap (λ (k : ℕ). get_or ws k 0) here ∙ same 0 (omega arith) in
    let rest = along_list ws l (suc i) (λ k h. let next : suc i + k ≡ i + suc k = omega arith in ap (λ (j : ℕ). get_or ws j 0) next ∙ same (suc k) (omega (arith, h))) in
    λ j. first j ∷ rest j

-- Bytes under `some`.
unfoldable bytes_in : Option (List ℕ) → List ℕ
bytes_in none = []
bytes_in (some x) = x

pub same_bytes : {x y : List ℕ} → some x ≡ some y → x ≡ y
unfolding bytes_in
same_bytes e = ap bytes_in e

pub none_not : {x : List ℕ} → none ≡ some x → ⊥
none_not {x} e = both refl (ap is_some (sym e))
  where
    is_some : Option (List ℕ) → Bool
    is_some none = false
    is_some (some y) = true

-- An entry of the node table is a block of the own tree.
pub record BlockOf (σ : Settings) (own : List ℕ) (e : Entry) : Type 0 where
  pub of : Content
  pub there : In of (blocks_of σ own)
  pub id : id_of_block of.bytes ≡ e.id
  pub bytes : block_in own e ≡ of.bytes

module _ (σ : Settings) (own : List ℕ) where
  every_block : (ns : List Placed) → ((c : Content) → In c (map content (map node_of ns)) → In c (blocks_of σ own))
      → Each (λ x. Within own x.start x.bytes) (map node_of ns) → Every (BlockOf σ own) (map node_entry ns)
  unfolding Every Some block_in
  every_block [] there within = tt
  every_block (n ∷ ns) there (both_within w ws) =
      (record { of = content n.node; there = there (content n.node) (inl refl); id = refl; bytes = w.same }, every_block ns (λ c h. there c (inr h)) ws)

  every_entry : (nodes : List ℕ) → tree_refusal σ own (length nodes) ≡ 0 → Every (BlockOf σ own) (entries_in (tree_table σ own nodes))
  unfolding blocks_of
  every_entry nodes accepted =
      let same = nodes_placed σ own in
      rw (tree_listed σ own nodes accepted) (every_block (places_of σ own) (λ c h. rw same at h) (rw same (nodes_within σ own)))

  -- What is found under an id is a block of the own tree with that id.
  found_block : (id : ℕ) (es : List Entry) (x : List ℕ) → Every (BlockOf σ own) es → first_block own (from_first (λ e. inside (length own) e && eqb e.id id) es) ≡ some x
      → (c : Content) × In c (blocks_of σ own) × (id_of_block c.bytes ≡ id) × (x ≡ c.bytes)
  unfolding from_first Every
  found_block id [] x h e = unfold first_block in absurd (none_not e)
  found_block id (y ∷ es) x h e = go (inside (length own) y && eqb y.id id) refl e (found_block id es x h.1)
    where
      go : (t : Bool) → (inside (length own) y && eqb y.id id) ≡ t → first_block own (cond t (y ∷ es) (from_first (λ e. inside (length own) e && eqb e.id id) es)) ≡ some x
          → (first_block own (from_first (λ e. inside (length own) e && eqb e.id id) es) ≡ some x → (c : Content) × In c (blocks_of σ own) × (id_of_block c.bytes ≡ id) × (x ≡ c.bytes))
          → (c : Content) × In c (blocks_of σ own) × (id_of_block c.bytes ≡ id) × (x ≡ c.bytes)
      go true f g rest =
          unfold first_block in
          (h.0.of, h.0.there, h.0.id ∙ eqb-true y.id id (and_true (inside (length own) y) _ f).1, sym (same_bytes g) ∙ h.0.bytes)
      go false f g rest = rest g

-- What an accepted setup leaves.
module _ (σ : Settings) (m : Lent) (set-up : SetupAccepts σ m) where
  abbrev own : List ℕ
  own = m.string

  abbrev left : Lent
  left = left_by_setup σ m

  abbrev setup_refused_by : ℕ
  setup_refused_by = setup_refusal σ own true m.nodes m.shingles m.cells

  pub few : length (nodes_of σ own) ≤ 4096
  few = (setup_passed σ own true m.nodes m.shingles m.cells set-up).2

  shallow : σ.levels ≤ 4
  shallow = (granted σ (length own) (setup_passed σ own true m.nodes m.shingles m.cells set-up).1.settings).0.levels_high

  table_is : (front t : List ℕ) → setup_table setup_refused_by front t ≡ setup_table 0 front t
  table_is front t = ap (λ (r : ℕ). setup_table r front t) set-up

  list_front : (room size : ℕ) → size ≡ length (shingle_front σ own) → shingle_front σ own ++ replicate (room - size) 0 ≡ list_table room (shingles_of_string σ own)
  unfolding list_table shingle_front
  list_front room size e =
      let long : size ≡ 24 * length (shingles_of_string σ own) = omega (arith, e, length_shingles (shingles_of_string σ own)) in
      ap (λ (k : ℕ). table_bytes (map entry_of (shingles_of_string σ own)) ++ replicate (room - k) 0) long

  pub list_again : shingles_in left.shingles ≡ shingles_of_string σ own
  unfolding setup_table
  list_again = ap shingles_in (list_front (length m.shingles) (length (shingle_front σ own)) refl) ∙ list_read σ own shallow few (length m.shingles)

  pub made : SetUp σ own true m.nodes left.nodes m.shingles left.shingles m.cells left.cells (setup_answer setup_refused_by (length (nodes_of σ own)))
  made =
      record {
        answer = refl;
        node_table = sym (table_is (node_front σ own) m.nodes);
        shingle_table = sym (table_is (shingle_front σ own) m.shingles);
        cell_table = sym (table_is (cell_front σ own) m.cells);
        list = λ e. list_again;
      }

  pub nodes_is : left.nodes ≡ tree_table σ own m.nodes
  nodes_is = (tabled σ own m.nodes left.nodes m.shingles left.shingles m.cells left.cells true _ made set-up).table

  pub cells_again : rows_in σ.width left.cells ≡ cells_of σ.width (shingles_of_string σ own)
  unfolding rows_in
  cells_again =
      let rows = cells_of σ.width (shingles_of_string σ own) in
      let front : take (σ.width * 15) (words_of left.cells) ≡ rows =
      cells_read σ own m.nodes left.nodes m.shingles left.shingles m.cells left.cells true _ made set-up in
      let many : length rows ≡ σ.width * 15 = length_cells σ.width (shingles_of_string σ own) in
      ap (λ (k : ℕ). along k 0 (λ (j : ℕ). get_or (words_of left.cells) j 0)) (sym many)
      ∙ along_list (words_of left.cells) rows 0
      (λ k h. let here : 0 + k ≡ k = omega arith in ap (λ (j : ℕ). get_or (words_of left.cells) j 0) here
      ∙ (sym (get_or-take (σ.width * 15) (words_of left.cells) k 0 (omega (arith, h, many))) ∙ ap (λ (l : List ℕ). get_or l k 0) front))

  pub asks : refused_by σ left ≡ 0
  asks =
      let given = (setup_passed σ own true m.nodes m.shingles m.cells set-up).1 in
      let nodes = nodes_length σ own m.nodes left.nodes m.shingles left.shingles m.cells left.cells true _ made in
      let shingles = shingles_length σ own m.nodes left.nodes m.shingles left.shingles m.cells left.cells true _ made in
      let cells = cells_length σ own m.nodes left.nodes m.shingles left.shingles m.cells left.cells true _ made in
      sym (long_enough σ (length own) (refusal σ (length own)) refl given.settings σ.width (length left.nodes) (length left.shingles) (length left.cells)
      (omega (arith, given.node_room, nodes)) (omega (arith, given.shingle_room, shingles)) (omega (arith, given.cell_room, cells)))

  pub accepted : tree_refusal σ own (length m.nodes) ≡ 0
  accepted = tree_accepted σ own m.nodes left.nodes m.shingles left.shingles m.cells left.cells true _ made set-up

  -- The start of a session.
  module _ (string : List ℕ) (n : ℕ)
      (apart : (a b : Content) → In a (blocks_of σ own) → In b (blocks_of σ string) → id_of_block a.bytes ≡ id_of_block b.bytes → a.bytes ≡ b.bytes)
      (room : length string ≤ length m.output) where
    sound : Sound σ string (look own left.nodes)
    unfolding look
    sound =
        record {
          same = λ c real x e.
              let found = found_block σ own (id_of_block c.bytes) _ x (every_entry σ own m.nodes accepted) (rw nodes_is at e) in
              found.3 ∙ apart found.0 c found.1 real found.2;
        }

    pub session_starts : Starts σ string own n (suc (length (nodes_of σ string))) (initial σ n) left
    session_starts =
        record {
          is = refl;
          memory = record { asks = asks; finds = sound; room = room; listed = list_again };
          cells = cells_again;
          count = omega arith;
        }
