-- Laws of the tree: its first node, what it depends on, how many nodes it has, and that its nodes lie in the string.
-- Each goes by induction on the levels left, with one lemma for the children in turn.
use mathlib.Core.List.{List, [], ◌∷◌, ◌++◌, map, map-append, flatten}
use mathlib.Core.Path.{◌≡◌, refl, sym, ap, ap₂, ◌∙◌}
use Prim.Native.Nat.{ℕ, zero, suc, ◌+◌, ◌≤◌, ◌<◌}
use native.Mathlib.Nat.{not-suc-le-zero, le_of_suc-le-suc}
use native.Mathlib.Omega.{arith}
use lib.ListN.{length, get_or, take, drop, length-append, length-drop, length-map}
use lib.Seq.{take_at, drop_at, take-add, drop-drop, length-take-le, take_all}
use Rattle.partition.proofs.Blocks.{blocks_join, blocks_some, blocks_few}
use Rattle.node_table.specs.Laws.{Each, none, both}
use Rattle.tree.specs.declared.Settings.{Settings}
use Rattle.tree.specs.Tree.{Node, node, children_of, in_turn, tree_of, nodes_of}
use Rattle.tree.specs.Laws.{Content, content, Within, total}

-- The children of a node fill it, and there are 1 to 32.
module _ (σ : Settings) (l : ℕ) (bytes : List ℕ) where
  pub children_join : flatten (children_of σ l bytes) ≡ bytes
  unfolding children_of
  children_join = blocks_join _ _ _ bytes

  pub children_some : 1 ≤ length (children_of σ l bytes)
  unfolding children_of
  children_some = blocks_some _ _ _ bytes

  pub children_few : length (children_of σ l bytes) ≤ 32
  unfolding children_of
  children_few = blocks_few _ _ _ bytes

-- The first node is the node itself, so the table's first is the string.
first : (σ : Settings) (left level start : ℕ) (bytes : List ℕ) (d : Node) → get_or (tree_of σ left level start bytes) 0 d ≡ node level start bytes
unfolding tree_of
first σ zero level start bytes d = refl
first σ (suc left) level start bytes d = refl

pub root_first : (σ : Settings) (bytes : List ℕ) (d : Node) → get_or (nodes_of σ bytes) 0 d ≡ node 0 0 bytes
unfolding nodes_of
root_first σ bytes d = first σ σ.levels 0 0 bytes d

-- Levels and bytes do not depend on where a node starts: settings, level and bytes alone decide them.
in_turn_alike : (f : ℕ → List ℕ → List Node) → ((a b : ℕ) (bytes : List ℕ) → map content (f a bytes) ≡ map content (f b bytes))
    → (a b : ℕ) (bs : List (List ℕ)) → map content (in_turn f a bs) ≡ map content (in_turn f b bs)
unfolding in_turn
in_turn_alike f h a b [] = refl
in_turn_alike f h a b (x ∷ bs) =
    map-append content (f a x) (in_turn f (a + length x) bs)
    ∙ (ap₂ ◌++◌ (h a b x) (in_turn_alike f h (a + length x) (b + length x) bs) ∙ sym (map-append content (f b x) (in_turn f (b + length x) bs)))

pub contents_alike : (σ : Settings) (left level a b : ℕ) (bytes : List ℕ) → map content (tree_of σ left level a bytes) ≡ map content (tree_of σ left level b bytes)
unfolding tree_of
contents_alike σ zero level a b bytes = refl
contents_alike σ (suc left) level a b bytes =
    ap (λ (l : List Content). record { level = level; bytes = bytes } ∷ l) (in_turn_alike (tree_of σ left (level + 1)) (contents_alike σ left (level + 1)) a b (children_of σ (level + 1) bytes))

-- How many nodes a node gives, itself among them, does not depend on where it starts; they are one more than its children give.
pub count_alike : (σ : Settings) (left level a b : ℕ) (bytes : List ℕ) → length (tree_of σ left level a bytes) ≡ length (tree_of σ left level b bytes)
count_alike σ left level a b bytes =
    sym (length-map (tree_of σ left level a bytes) content)
    ∙ (ap length (contents_alike σ left level a b bytes) ∙ length-map (tree_of σ left level b bytes) content)

length_in_turn : (f : ℕ → List ℕ → List Node) (size : List ℕ → ℕ) → ((a : ℕ) (bytes : List ℕ) → length (f a bytes) ≡ size bytes)
    → (a : ℕ) (bs : List (List ℕ)) → length (in_turn f a bs) ≡ total size bs
unfolding in_turn total
length_in_turn f size h a [] = refl
length_in_turn f size h a (b ∷ bs) = length-append (f a b) (in_turn f (a + length b) bs) ∙ ap₂ ◌+◌ (h a b) (length_in_turn f size h (a + length b) bs)

pub subtree_count : (σ : Settings) (left level start : ℕ) (bytes : List ℕ)
    → length (tree_of σ (suc left) level start bytes) ≡ suc (total (λ (b : List ℕ). length (tree_of σ left (level + 1) 0 b)) (children_of σ (level + 1) bytes))
unfolding tree_of
subtree_count σ left level start bytes =
    ap suc (length_in_turn (tree_of σ left (level + 1)) _ (λ a b. count_alike σ left (level + 1) a 0 b) start (children_of σ (level + 1) bytes))

-- Every node lies in the string that its tree was cut from.
pub each_append : {A : Type 0} {P : A → Type 0} {ns ms : List A} → Each P ns → Each P ms → Each P (ns ++ ms)
each_append none h = h
each_append (both p ps) h = both p (each_append ps h)

pub each_at : {A : Type 0} {P : A → Type 0} {ns : List A} → Each P ns → (k : ℕ) (d : A) → k < length ns → P (get_or ns k d)
each_at none k d h = absurd (not-suc-le-zero h)
each_at (both p ps) zero d h = p
each_at (both p ps) (suc k) d h = each_at ps k d (le_of_suc-le-suc h)

-- Bytes in two parts stand in the string as the two parts do.
within_split : (string : List ℕ) (start : ℕ) (x y : List ℕ) → Within string start (x ++ y) → Within string start x × Within string (start + length x) y
within_split string start x y w =
    let size : length (x ++ y) ≡ length x + length y = length-append x y in
    let joined : take (length x) (drop start string) ++ take (length y) (drop (length x) (drop start string)) ≡ x ++ y =
    sym (take-add (length x) (length y) (drop start string)) ∙ (ap (λ (n : ℕ). take n (drop start string)) (sym size) ∙ w.same) in
    let long : length (take (length x) (drop start string)) ≡ length x =
    length-take-le (length x) (drop start string) (simp length-drop (omega (arith, w.inside))) in
    let front = take (length x) (drop start string) in
    let back = take (length y) (drop (length x) (drop start string)) in
    let left : front ≡ x = sym (take_at front back (length x) long) ∙ (ap (take (length x)) joined ∙ take_at x y (length x) refl) in
    let right : back ≡ y = sym (drop_at front back (length x) long) ∙ (ap (drop (length x)) joined ∙ drop_at x y (length x) refl) in (
      record { inside = omega (arith, w.inside); same = left },
      record { inside = omega (arith, w.inside); same = ap (take (length y)) (sym (drop-drop (length x) start string)) ∙ right },
    )

module _ (string : List ℕ) where
  abbrev Lies : Node → Type 0
  Lies n = Within string n.start n.bytes

  in_turn_within : (f : ℕ → List ℕ → List Node) → ((a : ℕ) (b : List ℕ) → Within string a b → Each Lies (f a b))
      → (a : ℕ) (bs : List (List ℕ)) → Within string a (flatten bs) → Each Lies (in_turn f a bs)
  unfolding in_turn flatten
  in_turn_within f h a [] w = none
  in_turn_within f h a (b ∷ bs) w =
      let parts = within_split string a b (flatten bs) w in
      each_append (h a b parts.0) (in_turn_within f h (a + length b) bs parts.1)

  tree_within : (σ : Settings) (left level start : ℕ) (bytes : List ℕ) → Within string start bytes → Each Lies (tree_of σ left level start bytes)
  unfolding tree_of
  tree_within σ zero level start bytes w = both w none
  tree_within σ (suc left) level start bytes w =
      both w (in_turn_within (tree_of σ left (level + 1)) (λ a b. tree_within σ left (level + 1) a b) start (children_of σ (level + 1) bytes)
      (rw children_join w))

pub nodes_within : (σ : Settings) (string : List ℕ) → Each (λ n. Within string n.start n.bytes) (nodes_of σ string)
unfolding nodes_of
nodes_within σ string = tree_within string σ σ.levels 0 0 string (record { inside = omega arith; same = take_all (length string) string (omega arith) })

-- No node is deeper than the settings' levels.
in_turn_shallow : (f : ℕ → List ℕ → List Node) (deepest : ℕ) → ((a : ℕ) (b : List ℕ) → Each (λ n. n.level ≤ deepest) (f a b))
    → (a : ℕ) (bs : List (List ℕ)) → Each (λ n. n.level ≤ deepest) (in_turn f a bs)
unfolding in_turn
in_turn_shallow f deepest h a [] = none
in_turn_shallow f deepest h a (b ∷ bs) = each_append (h a b) (in_turn_shallow f deepest h (a + length b) bs)

tree_shallow : (σ : Settings) (left level start : ℕ) (bytes : List ℕ) (deepest : ℕ) → level + left ≤ deepest
    → Each (λ n. n.level ≤ deepest) (tree_of σ left level start bytes)
unfolding tree_of
tree_shallow σ zero level start bytes deepest h = both {n = node level start bytes} (omega arith) none
tree_shallow σ (suc left) level start bytes deepest h =
    both {n = node level start bytes} (omega arith) (in_turn_shallow (tree_of σ left (level + 1)) deepest (λ a b. tree_shallow σ left (level + 1) a b deepest (omega arith)) start (children_of σ (level + 1) bytes))

pub nodes_shallow : (σ : Settings) (string : List ℕ) → Each (λ n. n.level ≤ σ.levels) (nodes_of σ string)
unfolding nodes_of
nodes_shallow σ string = tree_shallow σ σ.levels 0 0 string σ.levels (omega arith)
