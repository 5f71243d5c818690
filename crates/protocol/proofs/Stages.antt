-- The stages of a session between genuine ends: before the opening, with blocks pending, ended. An accepted reply leads to the next stage.
use mathlib.Core.Bool.{true, false}
use mathlib.Core.List.{List, [], ◌∷◌, map}
use mathlib.Core.Path.{◌≡◌, refl, sym, ap, ◌∙◌}
use Prim.Native.Nat.{ℕ, suc, ◌+◌, ◌%◌, ◌^◌, ◌≤◌}
use native.Mathlib.Omega.{arith}
use lib.ListN.{length, take, drop, length-append, length-drop, length-map}
use borrow.Author.Tests.{eq-eqb, le-leb}
use Rattle.entries.proofs.Linear.{both}
use Rattle.fnv.specs.Fnv.{id_of_block}
use Rattle.tree.specs.declared.Settings.{Settings}
use Rattle.tree.specs.Tree.{nodes_of}
use Rattle.tree.specs.Laws.{Content}
use Rattle.shingle.specs.declared.Shingle.{Shingle}
use Rattle.shingle.specs.Table.{shingles_in}
use Rattle.sketch.specs.Cells.{cells_of}
use Rattle.setup.specs.Tables.{shingles_of_string}
use Rattle.protocol.specs.Lent.{Lent, refused_by, with_output, with_shingles}
use Rattle.protocol.specs.State.{Pending, State, opened, ended, initial, going, over, live, shallow, running}
use Rattle.single.specs.Peeling.{rows_in}
use Rattle.protocol.specs.Receiver.{handed, Result, result, Settled, left, output_with, conclude, find}
use Rattle.protocol.specs.Calls.{goes_on, Every}
use Rattle.protocol.specs.Genuine.{blocks_of}
use Rattle.protocol.specs.Demand.{In}
use Rattle.protocol.proofs.Cases.{built_front, size_in, waiting_not}
use Rattle.protocol.proofs.Exactly.{hands}
use Rattle.protocol.proofs.Blocks.{blocks_shallow}
use Rattle.protocol.proofs.Pending.{name_of, Holding, pile_fits, all_built, Sound, Settles}

module _ (σ : Settings) (string own : List ℕ) (n : ℕ) where
  -- What is lent is long enough, and what is found in it is right; its shingle table has the given list.
  pub record Memory (list : List Shingle) (m : Lent) : Type 0 where
    pub asks : refused_by σ m ≡ 0
    pub finds : Sound σ string (find m)
    pub room : length string ≤ length m.output
    pub listed : shingles_in m.shingles ≡ list

  -- The state with blocks pending.
  abbrev pub state_of : List ℕ → ℕ → List Content → State
  state_of built taken blocks = going (initial σ n) (length string) (id_of_block string) (length built) taken (map name_of blocks)

  pub record Pends (still : ℕ) (s : State) (m : Lent) : Type 0 where
    pub top : Content
    pub rest : List Content
    pub built : List ℕ
    pub taken : ℕ
    pub is : s ≡ state_of built taken (top ∷ rest)
    pub front : take (length built) m.output ≡ built
    pub holding : Holding σ string (top ∷ rest) built taken
    pub memory : Memory (shingles_of_string σ string) m
    pub count : length (nodes_of σ string) ≤ still + taken

  pub record Starts (still : ℕ) (s : State) (m : Lent) : Type 0 where
    pub is : s ≡ initial σ n
    pub memory : Memory (shingles_of_string σ own) m
    pub cells : rows_in σ.width m.cells ≡ cells_of σ.width (shingles_of_string σ own)
    pub count : suc (length (nodes_of σ string)) ≤ still

  -- A stage in which at most so many replies will still be accepted.
  pub data Stage (still : ℕ) (s : State) (m : Lent) : Type 0 where
    starts : Starts still s m → Stage still s m
    pends : Pends still s m → Stage still s m
    closed : s.phase ≡ ended → Stage still s m

  -- The result of an accepted reply.
  pub record Outcome (still : ℕ) (r : Result) : Type 0 where
    pub goes : goes_on r.answer ≡ true
    pub stage : Stage still r.state r.lent
    pub whole : (size : ℕ) → r.answer ≡ handed size → take size r.lent.output ≡ string
    pub alive : hands r.answer ≡ false → running r.state ≡ true
    pub dead : hands r.answer ≡ true → running r.state ≡ false

  shallow_names : (blocks : List Content) → Every (λ c. In c (blocks_of σ string)) blocks → shallow σ.levels (map name_of blocks) ≡ true
  unfolding Every shallow
  shallow_names [] real = refl
  shallow_names (c ∷ cs) real = rw (le-leb c.level σ.levels (blocks_shallow σ string c real.0)) (shallow_names cs real.1)

  module _ (low : σ.levels ≤ 4) where
    pub still_running : {c : Content} {cs : List Content} {built : List ℕ} {taken : ℕ} → Holding σ string (c ∷ cs) built taken
        → running (state_of built taken (c ∷ cs)) ≡ true
    unfolding running going initial live
    still_running {c} {cs} h =
        let few = pile_fits σ string (c ∷ cs) low h in
        let long : length (map name_of (c ∷ cs)) ≡ length (c ∷ cs) = length-map (c ∷ cs) name_of in
        rw (shallow_names (c ∷ cs) h.real, le-leb (length (map name_of (c ∷ cs))) 128 (omega (arith, few, long))) refl

    output_long : (built output : List ℕ) → length output ≤ length (output_with built output)
    unfolding output_with
    output_long built output =
        let e = length-append built (drop (length built) output) in
        let d = length-drop (length built) output in
        omega (arith, e, d)

    -- The end of an accepted call.
    module _ (still : ℕ) (s : State) (m : Lent) (shingles : List ℕ) (taken : ℕ) (settings : s.settings ≡ σ) (session : s.session ≡ n % 2 ^ 24)
        (memory : Memory (shingles_of_string σ string) (with_shingles m shingles)) (count : length (nodes_of σ string) ≤ still + taken) where
      going_on : (built : List ℕ) (pile : List Pending)
          → going s (length string) (id_of_block string) (length built) taken pile ≡ going (initial σ n) (length string) (id_of_block string) (length built) taken pile
      unfolding going initial
      going_on built pile =
          λ i. record {
            settings = settings i;
            session = session i;
            phase = opened;
            size = length string;
            root = id_of_block string;
            built = length built;
            taken = taken;
            pile = pile;
          }

      abbrev after : List ℕ → Lent
      after built = with_shingles (with_output m (output_with built m.output)) shingles

      remembered : (built : List ℕ) → Memory (shingles_of_string σ string) (after built)
      remembered built =
          record {
            asks = memory.asks;
            finds = memory.finds;
            room = omega (arith, memory.room, output_long built m.output);
            listed = memory.listed;
          }

      goes_on_lem : (c : Content) (cs : List Content) (built : List ℕ) → Holding σ string (c ∷ cs) built taken
          → Outcome still (conclude s m shingles (length string) (id_of_block string) taken (left built (map name_of (c ∷ cs))))
      unfolding conclude goes_on hands
      goes_on_lem c cs built h =
          record {
            goes = refl;
            stage = pends (record {
              top = c;
              rest = cs;
              built = built;
              taken = taken;
              is = going_on built (map name_of (c ∷ cs));
              front = built_front built m.output (length built) refl;
              holding = h;
              memory = remembered built;
              count = count;
            });
            whole = λ size e. absurd (waiting_not e);
            alive = λ e. ap running (going_on built (map name_of (c ∷ cs))) ∙ still_running h;
            dead = λ e. absurd (both e refl);
          }

      handed-over : (built : List ℕ) → built ≡ string → Outcome still (result (handed (length string)) (over s) (after built))
      unfolding goes_on hands over running live size_in
      handed-over built all =
          record {
            goes = refl;
            stage = closed refl;
            whole = λ size e. built_front built m.output size (sym (ap size_in e) ∙ sym (ap length all)) ∙ all;
            alive = λ e. absurd (both refl e);
            dead = λ e. refl;
          }

      hands_over : (built : List ℕ) → Holding σ string [] built taken → Outcome still (conclude s m shingles (length string) (id_of_block string) taken (left built []))
      unfolding conclude
      hands_over built h =
          rw (all_built σ string h, eq-eqb (length string) (length string) refl, eq-eqb (id_of_block string) (id_of_block string) refl)
          (handed-over string refl)

      pub concluded : (t : Settled) → Settles σ string taken t → Outcome still (conclude s m shingles (length string) (id_of_block string) taken t)
      concluded t settles = rw settles.is (go settles.blocks settles.holding)
        where
          go : (blocks : List Content) → Holding σ string blocks settles.built taken
              → Outcome still (conclude s m shingles (length string) (id_of_block string) taken (left settles.built (map name_of blocks)))
          go [] h = hands_over settles.built h
          go (c ∷ cs) h = goes_on_lem c cs settles.built h
