-- The blocks of a tree: with a block that is not of the last level the tree has its children too.
use mathlib.Core.List.{List, [], ◌∷◌, ◌++◌, map}
use mathlib.Core.Logic.{◌⊎◌, inl, inr, ⊎_elim}
use mathlib.Core.Path.{◌≡◌, refl, sym, ap, subst}
use Prim.Native.Nat.{ℕ, zero, suc, ◌+◌, ◌≤◌, ◌<◌}
use native.Mathlib.Omega.{arith}
use lib.ListN.{length}
use Rattle.tree.specs.declared.Settings.{Settings}
use Rattle.tree.specs.Tree.{Node, children_of, in_turn, tree_of, nodes_of}
use Rattle.node_table.specs.Laws.{Each, none, both}
use Rattle.tree.specs.Laws.{Content, content}
use Rattle.tree.proofs.Tree.{nodes_shallow}
use Rattle.protocol.specs.Calls.{Every, Some}
use Rattle.protocol.specs.Genuine.{blocks_of}
use Rattle.protocol.specs.Demand.{In}
use Rattle.protocol.proofs.Members.{some_left, some_right, some_either, every_map, every_in}

-- A block: its level and its bytes.
abbrev pub block : ℕ → List ℕ → Content
block l bytes = record { level = l; bytes = bytes }

contents_append : (ns ms : List Node) → map content (ns ++ ms) ≡ map content ns ++ map content ms
contents_append [] ms = refl
contents_append (n ∷ ns) ms = ap (λ (l : List Content). content n ∷ l) (contents_append ns ms)

module _ (σ : Settings) where
  -- A block's children, one level down.
  abbrev pub children_blocks : Content → List Content
  children_blocks c = map (block (c.level + 1)) (children_of σ (c.level + 1) c.bytes)

  tree_head : (left l a : ℕ) (b : List ℕ) → In (block l b) (map content (tree_of σ left l a b))
  unfolding tree_of Some
  tree_head zero l a b = inl refl
  tree_head (suc left) l a b = inl refl

  heads_in_turn : (left l a : ℕ) (bs : List (List ℕ)) → Every (λ c. In c (map content (in_turn (tree_of σ left l) a bs))) (map (block l) bs)
  unfolding in_turn Every
  heads_in_turn left l a [] = tt
  heads_in_turn left l a (b ∷ bs) =
      let here = tree_of σ left l a b in
      let rest = in_turn (tree_of σ left l) (a + length b) bs in
      let split = sym (contents_append here rest) in (
        subst (λ (cs : List Content). In (block l b) cs) split (some_left _ (map content here) (map content rest) (tree_head left l a b)),
        every_map (map (block l) bs) (λ c i. subst (λ (cs : List Content). In c cs) split (some_right _ (map content here) (map content rest) i))
            (heads_in_turn left l (a + length b) bs),
      )

  -- A block below a row of subtrees lies in one of them.
  record Under (f : ℕ → List ℕ → List Node) (whole : List Content) (c : Content) : Type 0 where
    start : ℕ
    bytes : List ℕ
    there : In c (map content (f start bytes))
    within : (d : Content) → In d (map content (f start bytes)) → In d whole

  under : (f : ℕ → List ℕ → List Node) (a : ℕ) (bs : List (List ℕ)) (c : Content) → In c (map content (in_turn f a bs)) → Under f (map content (in_turn f a bs)) c
  unfolding in_turn
  under f a [] c i = unfold Some in absurd i
  under f a (b ∷ bs) c i =
      let here = f a b in
      let rest = in_turn f (a + length b) bs in
      let split = contents_append here rest in
      ⊎_elim
      (λ h. record {
        start = a;
        bytes = b;
        there = h;
        within = λ d j. subst (λ (cs : List Content). In d cs) (sym split) (some_left _ (map content here) (map content rest) j);
      })
      (λ h.
      let u = under f (a + length b) bs c h in
      record {
        start = u.start;
        bytes = u.bytes;
        there = u.there;
        within = λ d j. subst (λ (cs : List Content). In d cs) (sym split) (some_right _ (map content here) (map content rest) (u.within d j));
      })
      (some_either _ (map content here) (map content rest) (subst (λ (cs : List Content). In c cs) split i))

  tree_closed : (left level start : ℕ) (bytes : List ℕ) (c : Content) → In c (map content (tree_of σ left level start bytes)) → c.level < level + left
      → Every (λ d. In d (map content (tree_of σ left level start bytes))) (children_blocks c)
  unfolding tree_of Some
  tree_closed zero level start bytes c i h =
      ⊎_elim (λ e. let l : level ≡ c.level = ap (λ (x : Content). x.level) e in absurd (omega (arith, l, h))) (λ t. absurd t) i
  tree_closed (suc left) level start bytes c i h =
      let kids = children_of σ (level + 1) bytes in
      let turns = in_turn (tree_of σ left (level + 1)) start kids in
      ⊎_elim
      (λ e.
      subst (λ (x : Content). Every (λ d. In d (block level bytes ∷ map content turns)) (children_blocks x)) e
      (every_map (children_blocks (block level bytes)) (λ d j. inr j) (heads_in_turn left (level + 1) start kids)))
      (λ t.
      let u = under (tree_of σ left (level + 1)) start kids c t in
      every_map (children_blocks c) (λ d j. inr (u.within d j)) (tree_closed left (level + 1) u.start u.bytes c u.there (omega (arith, h))))
      i

  pub blocks_closed : (string : List ℕ) (c : Content) → In c (blocks_of σ string) → c.level < σ.levels → Every (λ d. In d (blocks_of σ string)) (children_blocks c)
  unfolding blocks_of nodes_of
  blocks_closed string c i h = tree_closed σ.levels 0 0 string c i (omega (arith, h))

  pub root_block : (string : List ℕ) → In (block 0 string) (blocks_of σ string)
  unfolding blocks_of nodes_of
  root_block string = tree_head σ.levels 0 0 string

  each_level : {n : ℕ} {ns : List Node} → Each (λ x. x.level ≤ n) ns → Every (λ c. c.level ≤ n) (map content ns)
  unfolding Every
  each_level none = tt
  each_level (both p ps) = (p, each_level ps)

  pub blocks_shallow : (string : List ℕ) (c : Content) → In c (blocks_of σ string) → c.level ≤ σ.levels
  unfolding blocks_of
  blocks_shallow string c i = every_in _ (map content (nodes_of σ string)) c (each_level (nodes_shallow σ string)) i
