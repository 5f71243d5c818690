-- Why a genuine reply to the outstanding query is accepted: question by question, 12 to 19 are passed.
use mathlib.Core.Bool.{Bool, true, false, ◌&&◌}
use mathlib.Core.List.{List, [], ◌∷◌, ◌++◌, map, append-nil}
use mathlib.Core.Path.{◌≡◌, refl, sym, ap, subst, ◌∙◌}
use Prim.Native.Nat.{ℕ, suc, ◌+◌, ◌*◌, ◌≤◌, ◌<◌}
use native.Mathlib.Omega.{arith}
use lib.Dec.{leb, ltb}
use lib.ListN.{length, take, length-map}
use borrow.Author.Tests.{eq-eqb, lt-ltb, le-leb, ltb-true}
use Rattle.partition.specs.Cuts.{rule_number}
use Rattle.shingle.proofs.PairOrder.{and_true}
use Rattle.fnv.specs.Fnv.{id_of_block}
use Rattle.tree.specs.declared.Settings.{Settings}
use Rattle.tree.specs.Questions.{ask, refusal}
use Rattle.tree.specs.Tree.{children_of, nodes_of}
use Rattle.tree.specs.Laws.{Content}
use Rattle.tree.proofs.Questions.{granted}
use Rattle.tree.proofs.Tree.{children_few}
use Rattle.shingle.specs.declared.Shingle.{Shingle}
use Rattle.shingle.specs.Table.{shingles_in}
use Rattle.sketch.specs.Cells.{cells_of}
use Rattle.sketch.specs.Opening.{taken_of, opens_to, new_list}
use Rattle.setup.specs.Tables.{shingles_of_string}
use Rattle.setup.proofs.Questions.{lent as lent_passed, long_enough}
use Rattle.trail.specs.Trails.{trail_number}
use Rattle.trail.specs.Calls.{numberable}
use Rattle.message.specs.Words.{Ref}
use Rattle.message.specs.Messages.{Msg, node_query, opening, composition, literal}
use Rattle.protocol.specs.Lent.{Lent, refused_by, with_shingles}
use Rattle.protocol.specs.State.{Pending, State, pending, initial, going}
use Rattle.protocol.specs.Numbers.{stated}
use Rattle.protocol.specs.Sender.{has_number, composable, refs_of}
use Rattle.single.specs.Peeling.{rows_in}
use Rattle.protocol.specs.Receiver.{peeled_of, opening_refusal, take_opening, below, node_refusal, composes, children, take_node, act, find, settle}
use Rattle.single.specs.Peeling.{list_table}
use Rattle.protocol.specs.Genuine.{blocks_of, Accepted, children_ids, block_reply, found_reply, IsReply}
use Rattle.protocol.specs.Demand.{In, taken_between}
use Rattle.protocol.specs.Calls.{Every}
use Rattle.protocol.proofs.Blocks.{block, children_blocks}
use Rattle.protocol.proofs.Pending.{name_of, Fit, Holding, holding_root, holding_built, holding_children, names_children, room_left, bytes_fit, settles}
use Rattle.protocol.proofs.Replies.{first_found, composition_taken, composition_children}
use Rattle.protocol.proofs.Stages.{Memory, state_of, Outcome, concluded}

-- Questions in a row, all passed.
ask_true : (number next : ℕ) (test : Bool) → test ≡ true → ask test number next ≡ next
unfolding ask
ask_true number next test e = rw e

-- A longer shingle table passes question 7 as well.
longer : (σ : Settings) (m : Lent) (shingles : List ℕ) → refused_by σ m ≡ 0 → length m.shingles ≤ length shingles → refused_by σ (with_shingles m shingles) ≡ 0
longer σ m shingles e h =
    let given = (lent_passed σ (length m.string) (length m.nodes) (length m.shingles) (length m.cells) true e).1 in
    sym (long_enough σ (length m.string) (refusal σ (length m.string)) refl given.settings σ.width (length m.nodes) (length shingles) (length m.cells)
    given.node_room (omega (arith, given.shingle_room, h)) (omega (arith, given.cell_room)))

module _ (σ : Settings) (string own : List ℕ) (n : ℕ) (sender : Accepted σ string) where
  pub low : σ.levels ≤ 4
  low = (granted σ (length string) sender.questions).0.levels_high

  short : length string ≤ 65536
  short = (granted σ (length string) sender.questions).1

  -- The opening: 12 the settings are the own ones, 13 the buffer holds the string, 14 the sketch opens.
  module _ (opens : opens_to (shingles_of_string σ own) (taken_between σ own string) ≡ true)
      (renewed : new_list (shingles_of_string σ own) (taken_between σ own string).taken ≡ shingles_of_string σ string)
      (read : (room : ℕ) → shingles_in (list_table room (shingles_of_string σ string)) ≡ shingles_of_string σ string)
      (long : (room : ℕ) → room ≤ length (list_table room (shingles_of_string σ string)))
      (m : Lent) (memory : Memory σ string own n (shingles_of_string σ own) m)
      (cells : rows_in σ.width m.cells ≡ cells_of σ.width (shingles_of_string σ own)) where
    abbrev theirs : List ℕ
    theirs = cells_of σ.width (shingles_of_string σ string)

    peeled_between : peeled_of σ m theirs ≡ taken_between σ own string
    unfolding peeled_of
    peeled_between = ap (taken_of σ.width σ.levels theirs) cells

    opening_asked : opening_refusal (initial σ n) m rule_number σ.window σ.fan_out σ.levels σ.nominal σ.width (length string) theirs ≡ 0
    unfolding opening_refusal initial
    opening_asked =
        ask_true 12 _ _ (rw (
          eq-eqb σ.window σ.window refl,
          eq-eqb σ.fan_out σ.fan_out refl,
          eq-eqb σ.levels σ.levels refl,
          eq-eqb σ.nominal σ.nominal refl,
          eq-eqb σ.width σ.width refl,
        ) refl)
        ∙ (ask_true 13 _ _ (rw (le-leb (length string) 65536 short, le-leb (length string) (length m.output) memory.room) refl)
        ∙ ask_true 14 _ _ (rw memory.listed (ap (opens_to (shingles_of_string σ own)) peeled_between ∙ opens)))

    -- With the new list in the table, the memory is as it was.
    renewed_table : List ℕ
    renewed_table = list_table (length m.shingles) (new_list (shingles_in m.shingles) (peeled_of σ m theirs).taken)

    renewed_is : renewed_table ≡ list_table (length m.shingles) (shingles_of_string σ string)
    unfolding renewed_table
    renewed_is = rw (memory.listed, peeled_between, renewed) refl

    remembers : Memory σ string own n (shingles_of_string σ string) (with_shingles m renewed_table)
    remembers =
        record {
          asks = longer σ m renewed_table memory.asks (rw renewed_is (long (length m.shingles)));
          finds = memory.finds;
          room = memory.room;
          listed = ap shingles_in renewed_is ∙ read (length m.shingles);
        }

    pub opening_accepted : (session : ℕ) → Outcome σ string own n (length (nodes_of σ string)) (act (initial σ n) m
        (opening session rule_number σ.window σ.fan_out σ.levels σ.nominal σ.width (length string) (id_of_block string) theirs))
    unfolding act take_opening renewed_table initial
    opening_accepted session =
        rw (eq-eqb _ 0 opening_asked)
        (concluded σ string own n low (length (nodes_of σ string)) (initial σ n) m renewed_table 0 refl refl remembers (omega arith)
        (settle (find m) (length string) [] (pending 0 (id_of_block string) ∷ []))
        (settles σ string (find m) memory.finds (block 0 string ∷ []) [] 0 (holding_root σ string)))

  -- A node reply: 13, 15 and 18 by what is pending, 16 since the sender has the block, 17 since both ends have the same list.
  module _ (apart : (a b : Content) → In a (blocks_of σ string) → In b (blocks_of σ string) → id_of_block a.bytes ≡ id_of_block b.bytes → a.bytes ≡ b.bytes)
      (still : ℕ) (m : Lent) (memory : Memory σ string own n (shingles_of_string σ string) m)
      (c : Content) (cs : List Content) (built : List ℕ) (taken : ℕ) (front : take (length built) m.output ≡ built)
      (holding : Holding σ string (c ∷ cs) built taken) (count : length (nodes_of σ string) ≤ suc still + taken) where
    real : In c (blocks_of σ string)
    real = unfold Every in holding.real.0

    room_for_one : taken < 4096
    room_for_one = omega (arith, room_left σ string holding, sender.few)

    -- What a reply that passes 16 and 17 leaves.
    node_taken : (composed : Bool) (bytes : List ℕ) (blocks : List Content) → composed ≡ true → length built + length bytes ≤ length string
        → Holding σ string blocks (built ++ bytes) (taken + 1)
        → Outcome σ string own n still (take_node (state_of σ string own n built taken (c ∷ cs)) m
        (node_refusal (state_of σ string own n built taken (c ∷ cs)) m true composed bytes) bytes (map name_of blocks))
    unfolding take_node node_refusal going initial
    node_taken composed bytes blocks e fits h =
        let thirteen : (leb (length string) 65536 && leb (length string) (length m.output)) ≡ true =
        rw (le-leb (length string) 65536 short, le-leb (length string) (length m.output) memory.room) refl in
        let passed-all =
        ask_true 13 _ _ thirteen
        ∙ (ask_true 15 _ _ (lt-ltb taken 4096 room_for_one)
        ∙ (ask_true 16 _ true refl ∙ (ask_true 17 _ composed e ∙ ask_true 18 0 _ (le-leb (length built + length bytes) (length string) fits)))) in
        rw (eq-eqb _ 0 passed-all, front)
        (concluded σ string own n low still (state_of σ string own n built taken (c ∷ cs)) m m.shingles (taken + 1) refl refl memory (omega (arith, count))
        (settle (find m) (length string) (built ++ bytes) (map name_of blocks))
        (settles σ string (find m) memory.finds blocks (built ++ bytes) (taken + 1) h))

    abbrev s : State
    s = state_of σ string own n built taken (c ∷ cs)

    literal_accepted : (session l i : ℕ) → Outcome σ string own n still (act s m (literal session l i c.bytes))
    unfolding act below going initial
    literal_accepted session l i = node_taken true c.bytes cs refl (bytes_fit σ string holding) (holding_built σ string holding)

    module _ (deep : c.level < σ.levels) (small : trail_number (children_ids σ c.level c.bytes) ≤ 4095) where
      abbrev ids : List ℕ
      ids = children_ids σ c.level c.bytes

      abbrev refs : List Ref
      refs = refs_of (shingles_of_string σ string) (c.level + 1) ids

      pile_room : length (map name_of cs) + length ids ≤ 128
      unfolding children_ids
      pile_room =
          let behind : length cs ≤ 31 * c.level = unfold Fit in holding.fit.0 in
          let kids = children_few σ (c.level + 1) c.bytes in
          let names : length (map name_of cs) ≡ length cs = length-map cs name_of in
          let many : length (map id_of_block (children_of σ (c.level + 1) c.bytes)) ≡ length (children_of σ (c.level + 1) c.bytes) = length-map (children_of σ (c.level + 1) c.bytes) id_of_block in
          omega (arith, behind, kids, names, many, deep, low)

      composition_accepted : (session i : ℕ) → Outcome σ string own n still (act s m (composition session c.level i (stated ids) refs))
      unfolding act below going initial
      composition_accepted session i =
          let after = holding_children σ string deep holding in
          let passes : composes σ (shingles_in m.shingles) c.level (stated ids) refs (length (map name_of cs)) ≡ true =
          ap (λ (list : List Shingle). composes σ list c.level (stated ids) refs (length (map name_of cs))) memory.listed
          ∙ composition_taken σ string c real deep small (length (map name_of cs)) pile_room in
          let pile : children (shingles_in m.shingles) c.level (stated ids) refs ++ map name_of cs ≡ map name_of (children_blocks σ c ++ cs) =
          ap (λ (list : List Shingle). children list c.level (stated ids) refs ++ map name_of cs) memory.listed
          ∙ (ap (λ (p : List Pending). p ++ map name_of cs) (composition_children σ string c real deep small) ∙ sym (names_children σ string c cs)) in
          let leaves : act s m (composition session c.level i (stated ids) refs) ≡ take_node s m _ [] (map name_of (children_blocks σ c ++ cs)) = ap (take_node s m _ []) pile in
          subst (Outcome σ string own n still) (sym leaves)
          (node_taken _ [] (children_blocks σ c ++ cs) passes (omega (arith, bytes_fit σ string holding))
          (subst (λ (b : List ℕ). Holding σ string (children_blocks σ c ++ cs) b (taken + 1)) (sym (append-nil built)) after))

    block_accepted : (session : ℕ) (t : Bool) → composable σ c.level (children_ids σ c.level c.bytes) ≡ t
        → Outcome σ string own n still (act s m (block_reply σ string session c.level (id_of_block c.bytes) c.bytes t))
    unfolding block_reply composable has_number
    block_accepted session false e = literal_accepted session c.level (id_of_block c.bytes)
    block_accepted session true e =
        let ids = children_ids σ c.level c.bytes in
        let deep = and_true (ltb c.level σ.levels) _ e in
        let numbered = and_true (numberable ids) (ltb (trail_number ids) 4096) deep.1 in
        composition_accepted (ltb-true _ _ deep.0) (let h = ltb-true (trail_number ids) 4096 numbered.1 in omega (arith, h)) session (id_of_block c.bytes)

    pub node_accepted : (session : ℕ) (x : Msg) → IsReply σ string (node_query session c.level (id_of_block c.bytes)) x → Outcome σ string own n still (act s m x)
    unfolding IsReply found_reply
    node_accepted session x r =
        rw (r, first_found c (blocks_of σ string) (λ d i e. apart d c i real e) real)
        (block_accepted session (composable σ c.level (children_ids σ c.level c.bytes)) refl)
