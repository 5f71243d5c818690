-- The pairs of one node's children stand in the shingle list with a count at least theirs: among the pairs of all nodes they
-- follow each other, with only deeper nodes' pairs between them.
use mathlib.Core.Bool.{Bool, true, false, cond}
use mathlib.Core.List.{List, [], ◌∷◌, ◌++◌}
use mathlib.Core.Path.{◌≡◌, refl, ap, ◌∙◌}
use Prim.Native.Nat.{ℕ, suc, ◌+◌, ◌≤◌, ◌<◌}
use native.Mathlib.Omega.{arith}
use Rattle.shingle.specs.Shingles.{Listed, listed, Pair, pair, shingle, sibling_of, pairs_after, pairs_of, shingles_of}
use Rattle.shingle.specs.Table.{holds}
use Rattle.shingle.specs.Rising.{same_pair, how_many}
use Rattle.shingle.specs.Children.{pairs_along, Deeper, Children, none, more, child}
use Rattle.shingle.proofs.Siblings.{sibling_deeper, sibling_there, sibling_parent}
use Rattle.shingle.proofs.Rising.{listed_exactly}

-- The nodes before those that come after ns.
unfoldable pub later : List Listed → List Listed → List Listed
later [] before = before
later (n ∷ ns) before = later ns (n ∷ before)

pub pairs_append : (before ns ms : List Listed) → pairs_after before (ns ++ ms) ≡ pairs_after before ns ++ pairs_after (later ns before) ms
unfolding pairs_after later
pairs_append before [] ms = refl
pairs_append before (n ∷ ns) ms = ap (λ (l : List Pair). pair n.level (sibling_of n.level before) n.id ∷ l) (pairs_append (n ∷ before) ns ms)

many_append : (k : Pair) (a b : List Pair) → how_many k (a ++ b) ≡ how_many k a + how_many k b
unfolding how_many
many_append k [] b = omega arith
many_append k (p ∷ a) b = go (same_pair k p) (many_append k a b)
  where
    go : (t : Bool) → how_many k (a ++ b) ≡ how_many k a + how_many k b
        → cond t (suc (how_many k (a ++ b))) (how_many k (a ++ b)) ≡ cond t (suc (how_many k a)) (how_many k a) + how_many k b
    go true e = omega arith
    go false e = e

-- Deeper nodes do not change who is the left sibling.
pub sibling_below : {l : ℕ} {below : List Listed} (before : List Listed) → Deeper l below → sibling_of l (later below before) ≡ sibling_of l before
unfolding later
sibling_below before none = refl
sibling_below {l} before (more {n = n} h d) = sibling_below (n ∷ before) d ∙ sibling_deeper l n before h

more_of_both : (t : Bool) (a b : ℕ) → a ≤ b → cond t (suc a) a ≤ cond t (suc b) b
more_of_both true a b h = omega arith
more_of_both false a b h = h

children_within : {l : ℕ} {ids : List ℕ} {ns : List Listed} (k : Pair) (before : List Listed) (u : ℕ) → sibling_of l before ≡ u → Children l ids ns
    → how_many k (pairs_along l u ids) ≤ how_many k (pairs_after before ns)
unfolding pairs_along pairs_after how_many
children_within k before u e none = omega arith
children_within {l} k before u e (child {id = id} {ids = ids} {below = below} {rest = rest} d c) =
    let n = listed l id in
    let next = children_within k (later below (n ∷ before)) id (sibling_below (n ∷ before) d ∙ sibling_there l n before refl) c in
    let all = ap (how_many k) (pairs_append (n ∷ before) below rest) ∙ many_append k (pairs_after (n ∷ before) below) (pairs_after (later below (n ∷ before)) rest) in
    rw e (more_of_both (same_pair k (pair l u id)) (how_many k (pairs_along l id ids)) (how_many k (pairs_after (n ∷ before) (below ++ rest))) (omega arith))

first_more : (k p : Pair) (ps : List Pair) → how_many k ps ≤ how_many k (p ∷ ps)
unfolding how_many
first_more k p ps = go (same_pair k p)
  where
    go : (t : Bool) → how_many k ps ≤ cond t (suc (how_many k ps)) (how_many k ps)
    go true = omega arith
    go false = omega arith

-- The pairs of all nodes after the first ones, and the node's own pair first.
parent_pairs : (before : List Listed) (n : Listed) (ns : List Listed)
    → pairs_after before (n ∷ ns) ≡ pair n.level (sibling_of n.level before) n.id ∷ pairs_after (n ∷ before) ns
unfolding pairs_after
parent_pairs before n ns = refl

-- A node, its children each with what is deeper, and any nodes before and after.
module _ (front : List Listed) (parent : Listed) (below back : List Listed) (l : ℕ) (ids : List ℕ)
    (under : parent.level < l) (c : Children l ids below) (k : Pair) where
  pub children_counted : how_many k (pairs_along l 0 ids) ≤ how_many k (pairs_of (front ++ (parent ∷ (below ++ back))))
  unfolding pairs_of
  children_counted =
      let before = later front [] in
      let own = pair parent.level (sibling_of parent.level before) parent.id in
      let here = children_within k (parent ∷ before) 0 (sibling_parent l parent before under) c in
      let one = ap (how_many k) (pairs_append [] front (parent ∷ (below ++ back))) ∙ many_append k (pairs_after [] front) (pairs_after before (parent ∷ (below ++ back))) in
      let two = ap (how_many k) (pairs_append (parent ∷ before) below back) ∙ many_append k (pairs_after (parent ∷ before) below) (pairs_after (later below (parent ∷ before)) back) in
      let three = ap (how_many k) (parent_pairs before parent (below ++ back)) in
      let four = first_more k own (pairs_after (parent ∷ before) (below ++ back)) in
      omega arith

  pub children_listed : 1 ≤ how_many k (pairs_along l 0 ids)
      → (count : ℕ) × (holds (shingle k count) (shingles_of (front ++ (parent ∷ (below ++ back)))) ≡ true) × (how_many k (pairs_along l 0 ids) ≤ count)
  children_listed h =
      let all = front ++ (parent ∷ (below ++ back)) in
      let many = children_counted in
      (how_many k (pairs_of all), (listed_exactly all (shingle k (how_many k (pairs_of all)))).1 (refl, omega arith), many)
