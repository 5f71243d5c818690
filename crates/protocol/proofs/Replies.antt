-- What a genuine reply to the query of a pending block says: the block's bytes, or references and, where it is needed, a number, from which the
-- receiver, with the sender's list, has the block's children again.
use mathlib.Core.Bool.{Bool, true, false, cond, ◌&&◌}
use mathlib.Core.List.{List, [], ◌∷◌, map, Memᴰ}
use mathlib.Core.Logic.{inl, inr, ⊎_elim}
use mathlib.Core.Option.{some}
use mathlib.Core.Path.{◌≡◌, refl, sym, ap, subst, ◌∙◌}
use Prim.Native.Nat.{ℕ, ◌+◌, ◌≤◌, ◌<◌}
use native.Mathlib.Omega.{arith}
use lib.Dec.{eqb}
use lib.ListN.{length, length-map}
use borrow.Author.Tests.{eqb-true, eq-eqb, lt-ltb, le-leb}
use Rattle.entries.proofs.Linear.{both}
use Rattle.fnv.specs.Fnv.{id_of_block}
use Rattle.tree.specs.declared.Settings.{Settings}
use Rattle.tree.specs.Tree.{Node, children_of, nodes_of}
use Rattle.tree.specs.Laws.{Content, content}
use Rattle.tree.proofs.Tree.{children_some, children_few}
use Rattle.shingle.specs.Shingles.{Pair, shingle}
use Rattle.shingle.specs.declared.Shingle.{Shingle}
use Rattle.shingle.specs.Rising.{Rising, how_many}
use Rattle.shingle.specs.Children.{pairs_along}
use Rattle.shingle.specs.Table.{holds}
use Rattle.shingle.proofs.PairOrder.{and_true}
use Rattle.shingle.proofs.Rising.{shingles_rise}
use Rattle.shingle.proofs.Descent.{tree_children_listed}
use Rattle.setup.specs.Tables.{shingles_of_string}
use Rattle.trail.specs.Trails.{pairs_from, pairs_of, total, trail_number, trails_over, order_of, only_trail, only_over}
use Rattle.trail.proofs.Only.{only_alike}
use Rattle.trail.proofs.Orders.{order_of_number}
use Rattle.trail.proofs.Weigh.{trail_length}
use Rattle.message.specs.Words.{Ref}
use Rattle.protocol.specs.State.{pending}
use Rattle.protocol.specs.Numbers.{stated, meant_by}
use Rattle.protocol.specs.Sender.{refs_of}
use Rattle.protocol.specs.Receiver.{previouses, owns, counts, composes, children}
use Rattle.protocol.specs.Calls.{Some}
use Rattle.protocol.specs.Genuine.{blocks_of, children_ids, first_of}
use Rattle.protocol.specs.Demand.{In}
use Rattle.protocol.proofs.Numbers.{meant_number, stated-rightly}
use Rattle.protocol.proofs.References.{refs_named, refs_pairs}

-- Among blocks whose ids tell them apart, the first of a block's level and id has its bytes.
pub first_found : (c : Content) (cs : List Content) → ((d : Content) → In d cs → id_of_block d.bytes ≡ id_of_block c.bytes → d.bytes ≡ c.bytes) → In c cs
    → first_of c.level (id_of_block c.bytes) cs ≡ some c.bytes
unfolding first_of Some
first_found c [] apart i = absurd i
first_found c (d ∷ ds) apart i =
    go (eqb d.level c.level && eqb (id_of_block d.bytes) (id_of_block c.bytes)) refl (λ j. first_found c ds (λ x k. apart x (inr k)) j)
  where
    itself : d ≡ c → (eqb d.level c.level && eqb (id_of_block d.bytes) (id_of_block c.bytes)) ≡ true
    itself e =
        rw (eq-eqb d.level c.level (ap (λ (x : Content). x.level) e), eq-eqb (id_of_block d.bytes) (id_of_block c.bytes) (ap (λ (x : Content). id_of_block x.bytes) e)) refl

    go : (t : Bool) → (eqb d.level c.level && eqb (id_of_block d.bytes) (id_of_block c.bytes)) ≡ t
        → (Some (λ (x : Content). x ≡ c) ds → first_of c.level (id_of_block c.bytes) ds ≡ some c.bytes)
        → cond t (some d.bytes) (first_of c.level (id_of_block c.bytes) ds) ≡ some c.bytes
    go true e rest = ap some (apart d (inl refl) (eqb-true _ _ (and_true (eqb d.level c.level) _ e).1))
    go false e rest = rest (⊎_elim (λ f. absurd (both (itself f) e)) (λ j. j) i)

-- The node of a block.
record NodeOf (ns : List Node) (c : Content) : Type 0 where
  node : Node
  there : Memᴰ node ns
  same : content node ≡ c

node_of : (ns : List Node) (c : Content) → In c (map content ns) → NodeOf ns c
unfolding Some
node_of [] c i = absurd i
node_of (n ∷ ns) c i =
    ⊎_elim
    (λ e. record { node = n; there = Memᴰ.head refl; same = e })
    (λ j. let found = node_of ns c j in record { node = found.node; there = Memᴰ.tail found.there; same = found.same })
    i

module _ (σ : Settings) (string : List ℕ) (c : Content) (real : In c (blocks_of σ string)) (deep : c.level < σ.levels) where
  abbrev ids : List ℕ
  ids = children_ids σ c.level c.bytes

  children_there : (k : Pair) → 1 ≤ how_many k (pairs_along (c.level + 1) 0 ids)
      → (count : ℕ) × (holds (shingle k count) (shingles_of_string σ string) ≡ true) × (how_many k (pairs_along (c.level + 1) 0 ids) ≤ count)
  unfolding blocks_of shingles_of_string children_ids
  children_there k given =
      let found = node_of (nodes_of σ string) c real in
      let level : found.node.level ≡ c.level = ap (λ (x : Content). x.level) found.same in
      subst
      (λ (x : Content). 1 ≤ how_many k (pairs_along (x.level + 1) 0 (map id_of_block (children_of σ (x.level + 1) x.bytes)))
      → (count : ℕ) × (holds (shingle k count) (shingles_of_string σ string) ≡ true) × (how_many k (pairs_along (x.level + 1) 0 (map id_of_block (children_of σ (x.level + 1) x.bytes))) ≤ count))
      found.same (tree_children_listed σ string found.node found.there (omega (arith, level, deep)) k) given

  length_ids : length ids ≡ length (children_of σ (c.level + 1) c.bytes)
  unfolding children_ids
  length_ids = length-map (children_of σ (c.level + 1) c.bytes) id_of_block

  abbrev list : List Shingle
  list = shingles_of_string σ string

  abbrev refs : List Ref
  refs = refs_of list (c.level + 1) ids

  rises : Rising list
  unfolding shingles_of_string
  rises = shingles_rise _

  same_pairs : pairs_from 0 ids ≡ pairs_of (previouses list refs) (owns list refs) (counts refs)
  same_pairs = refs_pairs list rises (c.level + 1) ids children_there

  columns : (length (previouses list refs) ≡ length (counts refs)) × (length (owns list refs) ≡ length (counts refs))
  columns = (length-map refs _ ∙ sym (length-map refs _), length-map refs _ ∙ sym (length-map refs _))

  -- Both ends decide alike: there is one trail over what the references name exactly where the sender, over the children's own pairs, saw one.
  pub decided_alike : only_trail ids ≡ only_over (previouses list refs) (owns list refs) (counts refs)
  decided_alike = only_alike (previouses list refs) (owns list refs) (counts refs) columns ids same_pairs

  as_many : length ids ≡ total (counts refs)
  as_many =
      trail_length 0 ids
      (record { previouses = previouses list refs; owns = owns list refs; counts = counts refs; long = columns; gives = refl; size = refl })
      same_pairs

  module _ (low : trail_number ids ≤ 4095) where
    meant : meant_by (stated ids) ≡ trail_number ids
    meant = meant_number (previouses list refs) (owns list refs) (counts refs) columns ids same_pairs

    trail : (trail_number ids < length (trails_over (previouses list refs) (owns list refs) (counts refs)))
        × (order_of (previouses list refs) (owns list refs) (counts refs) (trail_number ids) ≡ ids)
    trail = order_of_number (previouses list refs) (owns list refs) (counts refs) columns ids same_pairs low

    -- Question 17 is passed, and the trail is the children's ids.
    pub composition_taken : (rest : ℕ) → rest + length ids ≤ 128 → composes σ list c.level (stated ids) refs rest ≡ true
    unfolding composes
    composition_taken rest room =
        let named = refs_named list rises (c.level + 1) ids children_there in
        let some : 1 ≤ total (counts refs) = omega (arith, as_many, length_ids, children_some σ (c.level + 1) c.bytes) in
        let few : total (counts refs) ≤ 32 = omega (arith, as_many, length_ids, children_few σ (c.level + 1) c.bytes) in
        rw (
          lt-ltb c.level σ.levels deep,
          named,
          le-leb 1 (total (counts refs)) some,
          le-leb (total (counts refs)) 32 few,
          meant,
          le-leb (trail_number ids) 4095 low,
          lt-ltb _ _ trail.0,
          stated-rightly (previouses list refs) (owns list refs) (counts refs) columns ids same_pairs,
          le-leb (rest + total (counts refs)) 128 (omega (arith, as_many, room)),
        ) refl

    pub composition_children : children list c.level (stated ids) refs ≡ map (pending (c.level + 1)) ids
    unfolding children
    composition_children = ap (map (pending (c.level + 1))) (ap (order_of (previouses list refs) (owns list refs) (counts refs)) meant ∙ trail.1)
