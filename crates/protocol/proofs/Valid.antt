-- Genuine replies are within their fields, so that what is read of them is what was written.
use mathlib.Core.Bool.{Bool, true, false, cond, ◌&&◌}
use mathlib.Core.List.{List, [], ◌∷◌, ◌++◌, map}
use mathlib.Core.Option.{Option, none, some}
use mathlib.Core.Path.{◌≡◌, refl, ap, subst, ◌∙◌}
use Prim.Native.Nat.{ℕ, zero, suc, ◌+◌, ◌*◌, ◌%◌, ◌^◌, ◌≤◌, ◌<◌}
use native.Mathlib.Nat.{mod-lt}
use native.Mathlib.Omega.{arith}
use lib.Dec.{eqb, leb, ltb}
use lib.ListN.{length, take, drop, length-append}
use borrow.Author.Tests.{le-leb, leb-true, ltb-true}
use Rattle.fnv.specs.Fnv.{id_of_block}
use Rattle.fnv.proofs.Fnv.{block_id_small}
use Rattle.partition.specs.Cuts.{rule_number}
use Rattle.tree.specs.declared.Settings.{Settings}
use Rattle.tree.specs.Tree.{Node, nodes_of}
use Rattle.node_table.specs.Laws.{Each, none as Each-none, both as Each-both}
use Rattle.tree.specs.Laws.{Content, content, Within}
use Rattle.tree.proofs.Questions.{granted}
use Rattle.tree.proofs.Tree.{nodes_within}
use Rattle.shingle.specs.declared.Shingle.{Shingle}
use Rattle.shingle.specs.Shingles.{Pair, pair_of}
use Rattle.shingle.specs.Rising.{same_pair, how_many}
use Rattle.shingle.specs.Children.{pairs_along}
use Rattle.shingle.proofs.PairOrder.{and_true}
use Rattle.shingle.proofs.Rising.{shingles_rise}
use Rattle.sketch.specs.Sums.{along, sums}
use Rattle.sketch.specs.Cells.{cells_of}
use Rattle.setup.specs.Tables.{shingles_of_string}
use Rattle.setup.proofs.Questions.{width_within}
use Rattle.setup.proofs.Sizes.{length_cells, few_shingles}
use Rattle.trail.specs.Trails.{only_trail}
use Rattle.trail.specs.Calls.{numberable}
use Rattle.trail.proofs.Answers.{number_small}
use Rattle.message.specs.Words.{Ref, plain, number_word, reference_word}
use Rattle.message.specs.Fields.{one, value, values, values_to, many, many_to, maybe_to, MaybeFits, maybe, only, rising, text, text_to}
use Rattle.message.specs.Fields.{Every as Throughout}
use Rattle.message.specs.Messages.{Msg, opening_query, node_query, opening, composition, literal, no_node, cell_values, headed, words_then, size_of, Parts, Valid}
use Rattle.message.proofs.Rising.{rising_from, rising_from_zero}
use Rattle.protocol.specs.Numbers.{stated}
use Rattle.protocol.specs.Sender.{has_number, composable, refer, refs_from, refs_of, indexed, referable}
use Rattle.protocol.specs.Calls.{Every}
use Rattle.protocol.specs.Genuine.{blocks_of, Accepted, children_ids, first_of, block_reply, found_reply, IsReply}
use Rattle.protocol.proofs.Memory.{same_bytes, none_not}
use Rattle.protocol.proofs.Numbers.{stated_only, stated_others}
use Rattle.protocol.proofs.Referable.{length_along, rising_referable}

-- References: few, each within its fields, rising by index.
how_many_few : (k : Pair) (ps : List Pair) → how_many k ps ≤ length ps
unfolding how_many
how_many_few k [] = omega arith
how_many_few k (p ∷ ps) = go (same_pair k p) (how_many_few k ps)
  where
    go : (t : Bool) {n m : ℕ} → n ≤ m → cond t (suc n) n ≤ suc m
    go true h = omega (arith, h)
    go false h = omega (arith, h)

module _ (l : ℕ) (ids : List ℕ) where
  abbrev times : Shingle → ℕ
  times s = how_many (pair_of s) (pairs_along l 0 ids)

  refs_narrow : length ids ≤ 32 → (i : ℕ) (ss : List Shingle) → indexed (refs_from i ss l ids) ≡ true → Throughout reference_word.Fits (refs_from i ss l ids)
  unfolding refs_from
  refs_narrow few i [] h = tt
  refs_narrow few i (s ∷ ss) h = go (times s) times-few h (refs_narrow few (suc i) ss)
    where
      times-few : times s ≤ 32
      times-few = omega (arith, few, how_many_few (pair_of s) (pairs_along l 0 ids), length_along l 0 ids)

      go : (n : ℕ) → n ≤ 32 → indexed (refer i n (refs_from (suc i) ss l ids)) ≡ true
          → (indexed (refs_from (suc i) ss l ids) ≡ true → Throughout reference_word.Fits (refs_from (suc i) ss l ids))
          → Throughout reference_word.Fits (refer i n (refs_from (suc i) ss l ids))
      go zero k low rest = unfold refer in rest low
      go (suc n) k low rest =
          unfold refer indexed reference_word in
          let t = and_true (ltb i 4096) _ low in
          ((ltb-true i 4096 t.0, omega arith, omega (arith, k)), rest t.1)

-- What may follow a lower index may follow a lower one still.
rising_lower : (a b : ℕ) (refs : List Ref) → a ≤ b → rising_from b refs ≡ true → rising_from a refs ≡ true
unfolding rising_from
rising_lower a b [] h e = refl
rising_lower a b (r ∷ refs) h e =
    let t = and_true (leb b r.index) (rising_from (suc r.index) refs) e in
    rw (le-leb a r.index (let low = leb-true b r.index t.0 in omega (arith, h, low)), t.1) refl

refs_rise : (l : ℕ) (ids : List ℕ) (i : ℕ) (ss : List Shingle) → rising_from i (refs_from i ss l ids) ≡ true
unfolding rising_from refs_from
refs_rise l ids i [] = refl
refs_rise l ids i (s ∷ ss) = go (times l ids s) (refs_rise l ids (suc i) ss)
  where
    go : (n : ℕ) → rising_from (suc i) (refs_from (suc i) ss l ids) ≡ true → rising_from i (refer i n (refs_from (suc i) ss l ids)) ≡ true
    go zero rest = unfold refer in rising_lower i (suc i) (refs_from (suc i) ss l ids) (omega arith) rest
    go (suc n) rest = unfold refer in rw (le-leb i i (omega arith), rest) refl

-- The references that a sender writes rise by index, whatever its list is.
pub references_rise : (list : List Shingle) (l : ℕ) (ids : List ℕ) → rising (refs_of list l ids) ≡ true
unfolding refs_of
references_rise list l ids = rising_from_zero (refs_from 0 list l ids) ∙ refs_rise l ids 0 list

-- References to a list are within their fields if each index is.
pub references_fit : (list : List Shingle) (l : ℕ) (ids : List ℕ) → length ids ≤ 32 → indexed (refs_of list l ids) ≡ true
    → (Throughout reference_word.Fits (refs_of list l ids)) × (rising (refs_of list l ids) ≡ true)
references_fit list l ids few low = (unfold refs_of in refs_narrow l ids few 0 list low, references_rise list l ids)

-- The values of cells.
cells_fit : (n i : ℕ) (f : ℕ → ℕ) → Throughout (λ x. x < 2 ^ 64) (along n i (λ (k : ℕ). f k % 2 ^ 64))
unfolding along
cells_fit zero i f = tt
cells_fit (suc n) i f = (mod-lt (f i) (omega arith), cells_fit n (suc i) f)

-- Three words for each value.
pub length_values : (xs : List ℕ) → length (values_to xs) ≡ length xs * 3
unfolding values_to value
length_values [] = refl
length_values (x ∷ xs) = let e = length_values xs in omega (arith, e)

-- The bytes of blocks.
pub all_take : (P : ℕ → Type 0) (n : ℕ) (l : List ℕ) → Every P l → Throughout P (take n l)
unfolding Every
all_take P zero l h = tt
all_take P (suc n) [] h = tt
all_take P (suc n) (x ∷ l) h = (h.0, all_take P n l h.1)

pub every_drop : (P : ℕ → Type 0) (n : ℕ) (l : List ℕ) → Every P l → Every P (drop n l)
unfolding Every
every_drop P zero l h = h
every_drop P (suc n) [] h = tt
every_drop P (suc n) (x ∷ l) h = every_drop P n l h.1

pub record Printable (n : ℕ) (bytes : List ℕ) : Type 0 where
  pub bytes_fit : Throughout (λ b. b < 256) bytes
  pub short : length bytes ≤ n

blocks_printable : (string : List ℕ) → Every (λ (b : ℕ). b < 256) string → {ns : List Node} → Each (λ n. Within string n.start n.bytes) ns
    → Every (λ c. Printable (length string) c.bytes) (map content ns)
unfolding Every
blocks_printable string h Each-none = tt
blocks_printable string h (Each-both {n = n} w ws) = (
  record {
    bytes_fit = subst (Throughout (λ b. b < 256)) w.same (all_take _ (length n.bytes) (drop n.start string) (every_drop _ n.start string h));
    short = omega (arith, w.inside);
  },
  blocks_printable string h ws,
)

first_printable : (n l i : ℕ) (cs : List Content) (bytes : List ℕ) → Every (λ c. Printable n c.bytes) cs → first_of l i cs ≡ some bytes → Printable n bytes
unfolding first_of Every
first_printable n l i [] bytes h e = absurd (none_not e)
first_printable n l i (c ∷ cs) bytes h e = go (eqb c.level l && eqb (id_of_block c.bytes) i) e (first_printable n l i cs bytes h.1)
  where
    go : (t : Bool) → cond t (some c.bytes) (first_of l i cs) ≡ some bytes → (first_of l i cs ≡ some bytes → Printable n bytes) → Printable n bytes
    go true f rest = subst (Printable n) (same_bytes f) h.0
    go false f rest = rest f

length_text : (bytes : List ℕ) → length (text_to bytes) ≤ length bytes
unfolding text_to
length_text [] = omega arith
length_text (a ∷ []) = omega arith
length_text (a ∷ b ∷ []) = omega arith
length_text (a ∷ b ∷ c ∷ rest) = let h = length_text rest in omega (arith, h)

-- A word for each reference.
pub length_references : (refs : List Ref) → length (many_to reference_word refs) ≡ length refs
unfolding many_to
length_references [] = refl
length_references (r ∷ refs) = ap suc (length_references refs)

-- Each type of reply.
pub valid_none : (n l i : ℕ) → Valid (node_query n l i) → Valid (no_node n l i)
unfolding Parts size_of words_then headed one value
valid_none n l i v = record { size = omega arith; parts = v.parts }

pub valid_literal : (n l i : ℕ) (bytes : List ℕ) → Valid (node_query n l i) → Printable 65536 bytes → Valid (literal n l i bytes)
unfolding Parts size_of words_then headed one value text
valid_literal n l i bytes v p =
    let e = length-append (text_to bytes) [] in
    let h = length_text bytes in
    record { size = omega (arith, e, h, p.short); parts = (v.parts.0, v.parts.1, v.parts.2, p.bytes_fit) }

pub few_children : (σ : Settings) (l : ℕ) (ids : List ℕ) → composable σ l ids ≡ true → length ids ≤ 32
unfolding composable has_number numberable
few_children σ l ids e =
    let numbered = (and_true (numberable ids) _ (and_true (ltb l σ.levels) _ e).1).0 in
    let few = ltb-true (length ids) 33 (and_true (ltb (length ids) 33) _ (and_true (ltb 0 (length ids)) _ numbered).1).0 in
    omega (arith, few)

-- A number that is carried is within its field, and it is one word.
stated_printable : (ids : List ℕ) → MaybeFits number_word (stated ids) × (length (maybe_to number_word (stated ids)) ≤ 1)
unfolding MaybeFits maybe_to plain
stated_printable ids = go (only_trail ids) refl
  where
    go : (t : Bool) → only_trail ids ≡ t → MaybeFits number_word (stated ids) × (length (maybe_to number_word (stated ids)) ≤ 1)
    go true e = rw (stated_only ids e) (tt, omega arith)
    go false e = rw (stated_others ids e) (omega (arith, number_small ids), omega arith)

-- A composition that can be written, over any list.
pub valid_composition : (σ : Settings) (list : List Shingle) (n l i : ℕ) (ids : List ℕ) → Valid (node_query n l i) → composable σ l ids ≡ true
    → referable list (l + 1) ids ≡ true → Valid (composition n l i (stated ids) (refs_of list (l + 1) ids))
unfolding referable Parts size_of words_then headed one value only many maybe
valid_composition σ list n l i ids v c r =
    let refs = refs_of list (l + 1) ids in
    let written = and_true (ltb (length refs) 33) (indexed refs) r in
    let short = ltb-true (length refs) 33 written.0 in
    let words = length-append (maybe_to number_word (stated ids)) (many_to reference_word refs ++ []) in
    let e = length-append (many_to reference_word refs) [] in
    let h = length_references refs in
    let trail = stated_printable ids in
    record {
      size = omega (arith, words, e, h, short, trail.1);
      parts = (
        v.parts.0,
        v.parts.1,
        v.parts.2,
        trail.0,
        references_fit list (l + 1) ids (few_children σ l ids c) written.1,
      );
    }

module _ (τ : Settings) (string : List ℕ) (setup : Accepted τ string) where
  valid_opening : (n : ℕ) → n < 2 ^ 24
      → Valid (opening n rule_number τ.window τ.fan_out τ.levels τ.nominal τ.width (length string) (id_of_block string) (cells_of τ.width (shingles_of_string τ string)))
  unfolding Parts size_of words_then headed one value values plain cell_values cells_of sums
  valid_opening n h =
      let g = granted τ (length string) setup.questions in
      let w = width_within τ (length string) setup.questions in
      let cells = cells_of τ.width (shingles_of_string τ string) in
      let many : length cells ≡ τ.width * 15 = length_cells τ.width (shingles_of_string τ string) in
      let a = length-append (values_to cells) [] in
      let b = length_values cells in
      let root = block_id_small string in
      record {
        size = omega (arith, many, a, b, w.1);
        parts = (
          h,
          omega arith,
          omega (arith, g.0.window_high),
          omega (arith, g.0.fan_out_high),
          omega (arith, g.0.levels_high),
          omega (arith, g.0.nominal_high),
          omega (arith, w.1),
          omega (arith, g.1),
          omega (arith, root),
          (omega (arith, many), cells_fit (τ.width * 15) 0 _),
        );
      }

  valid_block : (n l i : ℕ) (bytes : List ℕ) (t : Bool) → composable τ l (children_ids τ l bytes) ≡ t → Valid (node_query n l i) → Printable (length string) bytes
      → Valid (block_reply τ string n l i bytes t)
  unfolding block_reply
  valid_block n l i bytes false e v p =
      valid_literal n l i bytes v (record { bytes_fit = p.bytes_fit; short = omega (arith, p.short, (granted τ (length string) setup.questions).1) })
  valid_block n l i bytes true e v p =
      let list = shingles_of_string τ string in
      let ids = children_ids τ l bytes in
      let listed : length list ≤ 4096 = omega (arith, few_shingles τ string, setup.few) in
      valid_composition τ list n l i ids v e (rising_referable list (l + 1) ids (unfold shingles_of_string in shingles_rise _) listed (few_children τ l ids e))

  valid_found : (n l i : ℕ) (o : Option (List ℕ)) → first_of l i (blocks_of τ string) ≡ o → Valid (node_query n l i) → Valid (found_reply τ string n l i o)
  unfolding found_reply blocks_of
  valid_found n l i none e v = valid_none n l i v
  valid_found n l i (some bytes) e v =
      valid_block n l i bytes (composable τ l (children_ids τ l bytes)) refl v
      (first_printable (length string) l i (map content (nodes_of τ string)) bytes (blocks_printable string setup.bytes (nodes_within τ string)) e)

-- A genuine reply to a query that is within its fields is so itself.
pub valid_reply : (τ : Settings) (string : List ℕ) (query x : Msg) → Accepted τ string → Valid query → IsReply τ string query x → Valid x
unfolding IsReply Parts
valid_reply τ string (opening_query n) x setup v r = rw r (valid_opening τ string setup n v.parts)
valid_reply τ string (node_query n l i) x setup v r = rw r (valid_found τ string setup n l i (first_of l i (blocks_of τ string)) refl v)
valid_reply τ string (opening n rule w p L M q size root cells) x setup v r = absurd r
valid_reply τ string (composition n l i y refs) x setup v r = absurd r
valid_reply τ string (literal n l i bytes) x setup v r = absurd r
valid_reply τ string (no_node n l i) x setup v r = absurd r
