-- What the answer is, by the bytes themselves: a node is crossed where some byte is shared, and the answer is exactly these nodes in order.
use mathlib.Core.Bool.{Bool, true, false, and-false, and-eq-true_iff}
use mathlib.Core.List.{List, [], ◌∷◌, map}
use mathlib.Core.Logic.{⊎_elim, inl, inr}
use mathlib.Core.Path.{◌≡◌, refl, sym, ap, ◌∙◌}
use Prim.Native.Nat.{ℕ, zero, suc, ◌+◌, ◌≤◌, ◌<◌, max, min}
use native.Mathlib.Omega.{arith}
use borrow.Author.Tests.{ltb-true, lt-ltb, le-ltb, le-leb}
use lib.ListN.{length, get_or, length-map, get_or-map}
use Rattle.node_table.specs.declared.Entry.{Entry}
use Rattle.node_table.specs.Nodes.{inside, entries_in}
use Rattle.tree.specs.declared.Settings.{Settings}
use Rattle.tree.specs.Tree.{Node, node, nodes_of}
use Rattle.tree.specs.Places.{Placed, placed, places_of}
use Rattle.tree.specs.Table.{entry_of, tree_refusal, tree_table}
use Rattle.tree.proofs.Tree.{each_at, nodes_within}
use Rattle.tree.proofs.Places.{node_of, nodes_placed, count_placed}
use Rattle.tree.proofs.Reading.{tree_listed}
use Rattle.crossing.specs.Crossing.{crosses, Crossing, crossing_from, crossing}
use Rattle.crossing.specs.Laws.{Shares, In, CrossedEntry, node_at, CrossedNode, Rises, none, more, Exactly}

-- A node is crossed where it lies in the string and shares a byte with the range, and nowhere else.
module _ (n start size : ℕ) (e : Entry) where
  pub crossed_inside : crosses n start size e ≡ true → inside n e ≡ true
  unfolding crosses
  crossed_inside c = ((and-eq-true_iff (inside n e) _).0 c).0

  pub crosses_shares : crosses n start size e ≡ true → Shares start size e
  unfolding crosses
  crosses_shares c =
      let met = ltb-true (max start e.start) (min (start + size) (e.start + e.size)) ((and-eq-true_iff (inside n e) _).0 c).1 in
      record {
        byte = max start e.start;
        range_from = omega arith;
        range_to = omega arith;
        node_from = omega arith;
        node_to = omega arith;
      }

  pub shares_crosses : inside n e ≡ true → Shares start size e → crosses n start size e ≡ true
  unfolding crosses
  shares_crosses i s =
      let a = s.range_from in
      let b = s.range_to in
      let c = s.node_from in
      let d = s.node_to in
      rw (i, lt-ltb (max start e.start) (min (start + size) (e.start + e.size)) (omega arith))

-- "A range that is empty crosses no node."
pub empty_crosses_none : (n start : ℕ) (e : Entry) → crosses n start 0 e ≡ false
unfolding crosses
empty_crosses_none n start e =
    rw (le-ltb (max start e.start) (min (start + 0) (e.start + e.size)) (omega arith)) (and-false (inside n e))

empty_none_from : (n start k : ℕ) (es : List Entry) → crossing_from n start 0 k es ≡ []
unfolding crossing_from
empty_none_from n start k [] = refl
empty_none_from n start k (e ∷ es) = rw (empty_crosses_none n start e) (empty_none_from n start (k + 1) es)

pub crossing_empty : (n start : ℕ) (nodes : List ℕ) → crossing n start 0 nodes ≡ []
unfolding crossing
crossing_empty n start nodes = empty_none_from n start 0 (entries_in nodes)

lower : (low high : ℕ) {cs : List Crossing} → low ≤ high → Rises high cs → Rises low cs
lower low high h none = none
lower low high h (more {c = c} g r) = more {low = low} {c = c} (omega arith) r

module _ (n start size : ℕ) where
  pair_first : (k : ℕ) (e : Entry) (es : List Entry) → crosses n start size e ≡ true
      → crossing_from n start size k (e ∷ es) ≡ record { node = k; parent = e.parent } ∷ crossing_from n start size (k + 1) es
  unfolding crossing_from
  pair_first k e es h = rw h

  passed_over : (k : ℕ) (e : Entry) (es : List Entry) → crosses n start size e ≡ false
      → crossing_from n start size k (e ∷ es) ≡ crossing_from n start size (k + 1) es
  unfolding crossing_from
  passed_over k e es h = rw h

  -- The pair of the entry at a place of the list, where the first entry stands at k.
  record At (k : ℕ) (es : List Entry) (d : Entry) (c : Crossing) : Type 0 where
    place : ℕ
    is : c.node ≡ k + place
    listed : place < length es
    crossed : crosses n start size (get_or es place d) ≡ true
    parent : c.parent ≡ (get_or es place d).parent

  module _ (d : Entry) (c : Crossing) where
    at_next : (k : ℕ) (e : Entry) (es : List Entry) → At (k + 1) es d c → At k (e ∷ es) d c
    at_next k e es a =
        let is = a.is in
        let listed = a.listed in
        record { place = suc a.place; is = omega arith; listed = omega arith; crossed = a.crossed; parent = a.parent }

    at_first : (k : ℕ) (e : Entry) (es : List Entry) → crosses n start size e ≡ true → c ≡ record { node = k; parent = e.parent } → At k (e ∷ es) d c
    at_first k e es h same =
        let node = ap (λ (x : Crossing). x.node) same in
        record { place = 0; is = omega arith; listed = omega arith; crossed = h; parent = ap (λ (x : Crossing). x.parent) same }

    listed_at : (k : ℕ) (es : List Entry) → In c (crossing_from n start size k es) → At k es d c
    unfolding In crossing_from
    listed_at k [] m = absurd m
    listed_at k (e ∷ es) m = turn (crosses n start size e) refl (listed_at (k + 1) es)
      where
        turn : (b : Bool) → crosses n start size e ≡ b → (In c (crossing_from n start size (k + 1) es) → At (k + 1) es d c) → At k (e ∷ es) d c
        turn true h later = ⊎_elim (λ same. at_first k e es h same) (λ rest. at_next k e es (later rest)) (rw h at m)
        turn false h later = at_next k e es (later (rw h at m))

    the_pair : (k p : ℕ) → c.node ≡ k → c.parent ≡ p → c ≡ record { node = k; parent = p }
    the_pair k p e f = rw (← e, ← f)

    in_next : (k : ℕ) (e : Entry) (es : List Entry) → In c (crossing_from n start size (k + 1) es) → In c (crossing_from n start size k (e ∷ es))
    unfolding In
    in_next k e es m = turn (crosses n start size e) refl
      where
        turn : (b : Bool) → crosses n start size e ≡ b → In c (crossing_from n start size k (e ∷ es))
        turn true h = rw (pair_first k e es h) (inr m)
        turn false h = rw (passed_over k e es h) m

    at_listed : (k place : ℕ) (es : List Entry) → c.node ≡ k + place → place < length es → crosses n start size (get_or es place d) ≡ true
        → c.parent ≡ (get_or es place d).parent → In c (crossing_from n start size k es)
    unfolding In
    at_listed k place [] is b h p = absurd (omega arith)
    at_listed k zero (e ∷ es) is b h p = rw (pair_first k e es h) (inl (the_pair k e.parent (omega arith) p))
    at_listed k (suc place) (e ∷ es) is b h p = in_next k e es (at_listed (k + 1) place es (omega arith) (omega arith) h p)

    -- None but the crossed entries, and each of them.
    pub only_crossed : (es : List Entry) → In c (crossing_from n start size 0 es) → CrossedEntry n start size es d c
    only_crossed es m =
        let a = listed_at 0 es m in
        let there : c.node ≡ a.place = a.is ∙ omega arith in
        record {
          listed = rw there a.listed;
          inside = rw there (crossed_inside n start size _ a.crossed);
          shares = rw there (crosses_shares n start size _ a.crossed);
          parent = rw there a.parent;
        }

    pub each_crossed : (es : List Entry) → CrossedEntry n start size es d c → In c (crossing_from n start size 0 es)
    each_crossed es p = at_listed 0 c.node es (omega arith) p.listed (shares_crosses n start size _ p.inside p.shares) p.parent

  -- Their places rise.
  pub places_rise : (k : ℕ) (es : List Entry) → Rises k (crossing_from n start size k es)
  unfolding crossing_from
  places_rise k [] = none
  places_rise k (e ∷ es) = turn (crosses n start size e) refl (places_rise (k + 1) es)
    where
      turn : (b : Bool) → crosses n start size e ≡ b → Rises (k + 1) (crossing_from n start size (k + 1) es) → Rises k (crossing_from n start size k (e ∷ es))
      turn true h later = rw (pair_first k e es h) (more {low = k} {c = record { node = k; parent = e.parent }} (omega arith) later)
      turn false h later = rw (passed_over k e es h) (lower k (k + 1) (omega arith) later)

  -- Of any table: exactly the listed entries that lie in the string and share a byte with the range.
  pub table_exact : (nodes : List ℕ) (d : Entry) → Exactly (CrossedEntry n start size (entries_in nodes) d) (crossing n start size nodes)
  unfolding crossing
  table_exact nodes d =
      record { only = λ c. only_crossed d c (entries_in nodes); each = λ c. each_crossed d c (entries_in nodes); order = places_rise 0 (entries_in nodes) }

-- "exactly the nodes that share a byte with that range, in tree order, with each node's parent": over the table of a string that was accepted.
module _ (σ : Settings) (string before : List ℕ) (accepted : tree_refusal σ string (length before) ≡ 0) (start size : ℕ) where
  abbrev table : List ℕ
  table = tree_table σ string before

  abbrev nothing : Placed
  nothing = placed (node 0 0 []) 0 0

  listed : entries_in table ≡ map entry_of (places_of σ string)
  listed = tree_listed σ string before accepted

  entry_is : (k : ℕ) → get_or (entries_in table) k (entry_of nothing) ≡ entry_of (node_at σ string k)
  entry_is k = ap (λ (es : List Entry). get_or es k (entry_of nothing)) listed ∙ get_or-map entry_of (places_of σ string) k nothing

  count : length (entries_in table) ≡ length (places_of σ string)
  count = ap length listed ∙ length-map (places_of σ string) entry_of

  node_inside : (k : ℕ) → k < length (places_of σ string) → inside (length string) (entry_of (node_at σ string k)) ≡ true
  node_inside k h =
      let within = each_at (nodes_within σ string) k (node_of nothing) (omega (arith, count_placed σ string)) in
      let same : get_or (nodes_of σ string) k (node_of nothing) ≡ (node_at σ string k).node =
      ap (λ (ns : List Node). get_or ns k (node_of nothing)) (sym (nodes_placed σ string)) ∙ get_or-map node_of (places_of σ string) k nothing in
      le-leb _ (length string) (rw same at within).inside

  node_crossed : (c : Crossing) → CrossedEntry (length string) start size (entries_in table) (entry_of nothing) c → CrossedNode σ string start size c
  node_crossed c e =
      let same = entry_is c.node in
      record { listed = rw count at e.listed; shares = rw same at e.shares; parent = e.parent ∙ ap (λ (x : Entry). x.parent) same }

  crossed_node : (c : Crossing) → CrossedNode σ string start size c → CrossedEntry (length string) start size (entries_in table) (entry_of nothing) c
  crossed_node c e =
      let same = entry_is c.node in
      record {
        listed = rw count e.listed;
        inside = rw same (node_inside c.node e.listed);
        shares = rw same e.shares;
        parent = e.parent ∙ ap (λ (x : Entry). x.parent) (sym same);
      }

  pub crossing_exact : Exactly (CrossedNode σ string start size) (crossing (length string) start size table)
  crossing_exact =
      let exact = table_exact (length string) start size table (entry_of nothing) in
      record { only = λ c m. node_crossed c (exact.only c m); each = λ c e. exact.each c (crossed_node c e); order = exact.order }
