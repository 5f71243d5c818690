-- What is still pending when both ends are genuine: a pile of blocks of the sender's tree that, after the bytes built, join to the sender's
-- string. Copying and compositions keep it so. Which of several equal nodes a block is never matters: level and bytes say all.
use mathlib.Core.Bool.{true}
use mathlib.Core.List.{List, [], ◌∷◌, ◌++◌, map, append-nil, append_assoc, flatten}
use mathlib.Core.Option.{Option, none, some}
use mathlib.Core.Path.{◌≡◌, refl, sym, ap, ◌∙◌}
use Prim.Native.Nat.{ℕ, zero, suc, ◌+◌, ◌*◌, ◌-◌, ◌≤◌, ◌<◌}
use native.Mathlib.Omega.{arith}
use lib.Dec.{leb}
use lib.ListN.{length, length-append}
use borrow.Author.Tests.{le-leb}
use Rattle.fnv.specs.Fnv.{id_of_block}
use Rattle.tree.specs.declared.Settings.{Settings}
use Rattle.tree.specs.Tree.{children_of, tree_of, nodes_of}
use Rattle.tree.specs.Laws.{Content, total}
use Rattle.tree.proofs.Tree.{children_join, children_few, subtree_count}
use Rattle.protocol.specs.State.{Pending, pending}
use Rattle.protocol.specs.Receiver.{Settled, left, copying, settle}
use Rattle.protocol.specs.Calls.{Every}
use Rattle.protocol.specs.Genuine.{blocks_of, children_ids}
use Rattle.protocol.specs.Demand.{In}
use Rattle.protocol.proofs.Members.{every_append}
use Rattle.protocol.proofs.Blocks.{block, children_blocks, blocks_closed, blocks_shallow, root_block}

-- A block as the pile names it.
abbrev pub name_of : Content → Pending
name_of c = pending c.level (id_of_block c.bytes)

-- The bytes of blocks, one after the other.
unfoldable pub joined : List Content → List ℕ
joined [] = []
joined (c ∷ cs) = c.bytes ++ joined cs

-- Behind a block of level l at most 31 l others are pending: 31 siblings for each level down to it.
unfoldable pub Fit : List Content → Type 0
Fit [] = Unit {0}
Fit (c ∷ cs) = (length cs ≤ 31 * c.level) × Fit cs

joined-append : (cs ds : List Content) → joined (cs ++ ds) ≡ joined cs ++ joined ds
unfolding joined
joined-append [] ds = refl
joined-append (c ∷ cs) ds = ap (λ (x : List ℕ). c.bytes ++ x) (joined-append cs ds) ∙ sym (append_assoc c.bytes (joined cs) (joined ds))

joined_blocks : (l : ℕ) (bs : List (List ℕ)) → joined (map (block l) bs) ≡ flatten bs
unfolding joined flatten
joined_blocks l [] = refl
joined_blocks l (b ∷ bs) = ap (λ (x : List ℕ). b ++ x) (joined_blocks l bs)

length_blocks : (l : ℕ) (bs : List (List ℕ)) (cs : List Content) → length (map (block l) bs ++ cs) ≡ length bs + length cs
length_blocks l [] cs = omega arith
length_blocks l (b ∷ bs) cs = let e = length_blocks l bs cs in omega (arith, e)

fit_children : (l : ℕ) (bs : List (List ℕ)) (cs : List Content) → length bs + length cs ≤ 32 + 31 * l → Fit cs → Fit (map (block (l + 1)) bs ++ cs)
unfolding Fit
fit_children l [] cs h f = f
fit_children l (b ∷ bs) cs h f =
    (let n = length_blocks (l + 1) bs cs in omega (arith, n, h), fit_children l bs cs (omega (arith, h)) f)

pub names_append : (cs ds : List Content) → map name_of (cs ++ ds) ≡ map name_of cs ++ map name_of ds
names_append [] ds = refl
names_append (c ∷ cs) ds = ap (λ (p : List Pending). name_of c ∷ p) (names_append cs ds)

names_blocks : (l : ℕ) (bs : List (List ℕ)) → map name_of (map (block l) bs) ≡ map (pending l) (map id_of_block bs)
names_blocks l [] = refl
names_blocks l (b ∷ bs) = ap (λ (p : List Pending). pending l (id_of_block b) ∷ p) (names_blocks l bs)

module _ (σ : Settings) (string : List ℕ) where
  -- How many nodes a block gives with all below it, and how many a row of blocks gives.
  abbrev pub subtree : Content → ℕ
  subtree c = length (tree_of σ (σ.levels - c.level) c.level 0 c.bytes)

  unfoldable pub weight : List Content → ℕ
  weight [] = 0
  weight (c ∷ cs) = subtree c + weight cs

  -- The blocks are pending, these bytes are built and so many node replies were taken.
  pub record Holding (blocks : List Content) (built : List ℕ) (taken : ℕ) : Type 0 where
    pub real : Every (λ c. In c (blocks_of σ string)) blocks
    pub whole : built ++ joined blocks ≡ string
    pub few : weight blocks + taken ≤ length (nodes_of σ string)
    pub fit : Fit blocks

  weight-append : (cs ds : List Content) → weight (cs ++ ds) ≡ weight cs + weight ds
  unfolding weight
  weight-append [] ds = omega arith
  weight-append (c ∷ cs) ds = let e = weight-append cs ds in omega (arith, e)

  weight_blocks : (l n : ℕ) (bs : List (List ℕ)) → n ≡ σ.levels - l → weight (map (block l) bs) ≡ total (λ (b : List ℕ). length (tree_of σ n l 0 b)) bs
  unfolding weight total
  weight_blocks l n [] e = refl
  weight_blocks l n (b ∷ bs) e =
      ap (λ (k : ℕ). length (tree_of σ k l 0 b) + weight (map (block l) bs)) (sym e)
      ∙ ap (λ (k : ℕ). length (tree_of σ n l 0 b) + k) (weight_blocks l n bs e)

  subtree_some : (n l : ℕ) (b : List ℕ) → 1 ≤ length (tree_of σ n l 0 b)
  unfolding tree_of
  subtree_some zero l b = omega arith
  subtree_some (suc n) l b = omega arith

  weight_children : (c : Content) → c.level < σ.levels → subtree c ≡ suc (weight (children_blocks σ c))
  weight_children c h =
      let n = σ.levels - c.level - 1 in
      let deep : σ.levels - c.level ≡ suc n = omega (arith, h) in
      let less : n ≡ σ.levels - (c.level + 1) = omega (arith, h) in
      ap (λ (k : ℕ). length (tree_of σ k c.level 0 c.bytes)) deep
      ∙ (subtree_count σ n c.level 0 c.bytes
      ∙ ap suc (sym (weight_blocks (c.level + 1) n (children_of σ (c.level + 1) c.bytes) less)))

  -- The root is pending at the start.
  pub holding_root : Holding (block 0 string ∷ []) [] 0
  unfolding Every joined weight Fit nodes_of
  holding_root =
      record {
        real = (root_block σ string, tt);
        whole = append-nil string;
        few =
            let deep : σ.levels - 0 ≡ σ.levels = omega arith in
            let e = ap (λ (k : ℕ). length (tree_of σ k 0 0 string)) deep in
            omega (arith, e);
        fit = (omega arith, tt);
      }

  -- A block's bytes are built, by a copy or by a literal.
  pub holding_built : {c : Content} {cs : List Content} {built : List ℕ} {taken : ℕ} → Holding (c ∷ cs) built taken → Holding cs (built ++ c.bytes) (taken + 1)
  unfolding Every joined weight Fit
  holding_built {c} {cs} {built} h =
      record {
        real = h.real.1;
        whole = append_assoc built c.bytes (joined cs) ∙ h.whole;
        few = let some = subtree_some (σ.levels - c.level) c.level c.bytes in omega (arith, some, h.few);
        fit = h.fit.1;
      }

  pub holding_fewer : {cs : List Content} {built : List ℕ} {taken : ℕ} → Holding cs built (taken + 1) → Holding cs built taken
  holding_fewer h = record { real = h.real; whole = h.whole; few = omega (arith, h.few); fit = h.fit }

  -- A block is replaced by its children.
  pub holding_children : {c : Content} {cs : List Content} {built : List ℕ} {taken : ℕ} → c.level < σ.levels → Holding (c ∷ cs) built taken
      → Holding (children_blocks σ c ++ cs) built (taken + 1)
  unfolding Every joined weight Fit
  holding_children {c} {cs} {built} {taken} l h =
      let kids = children_of σ (c.level + 1) c.bytes in
      let join : joined (children_blocks σ c ++ cs) ≡ c.bytes ++ joined cs =
      joined-append (children_blocks σ c) cs
      ∙ ap (λ (x : List ℕ). x ++ joined cs) (joined_blocks (c.level + 1) kids ∙ children_join σ (c.level + 1) c.bytes) in
      let w = weight-append (children_blocks σ c) cs in
      let w' = weight_children c l in
      record {
        real = every_append _ (children_blocks σ c) cs (blocks_closed σ string c h.real.0 l) h.real.1;
        whole = ap (λ (x : List ℕ). built ++ x) join ∙ h.whole;
        few = omega (arith, w, w', h.few);
        fit = fit_children c.level kids cs (omega (arith, children_few σ (c.level + 1) c.bytes, h.fit.0)) h.fit.1;
      }

  pub names_children : (c : Content) (cs : List Content)
      → map name_of (children_blocks σ c ++ cs) ≡ map (pending (c.level + 1)) (children_ids σ c.level c.bytes) ++ map name_of cs
  unfolding children_ids
  names_children c cs =
      names_append (children_blocks σ c) cs
      ∙ ap (λ (p : List Pending). p ++ map name_of cs) (names_blocks (c.level + 1) (children_of σ (c.level + 1) c.bytes))

  -- The pile is within its places, there is room for one more node reply, and bytes stay within the string.
  pub pile_fits : (blocks : List Content) {built : List ℕ} {taken : ℕ} → σ.levels ≤ 4 → Holding blocks built taken → length blocks ≤ 125
  unfolding Every Fit
  pile_fits [] l h = omega arith
  pile_fits (c ∷ cs) l h =
      let deep = blocks_shallow σ string c h.real.0 in
      omega (arith, l, deep, h.fit.0)

  pub room_left : {c : Content} {cs : List Content} {built : List ℕ} {taken : ℕ} → Holding (c ∷ cs) built taken → taken < length (nodes_of σ string)
  unfolding weight
  room_left {c} h = let some = subtree_some (σ.levels - c.level) c.level c.bytes in omega (arith, some, h.few)

  pub bytes_fit : {c : Content} {cs : List Content} {built : List ℕ} {taken : ℕ} → Holding (c ∷ cs) built taken → length built + length c.bytes ≤ length string
  unfolding joined
  bytes_fit {c} {cs} {built} h =
      let n = sym (ap length h.whole) ∙ length-append built (c.bytes ++ joined cs) in
      let k = length-append c.bytes (joined cs) in
      omega (arith, n, k)

  pub all_built : {built : List ℕ} {taken : ℕ} → Holding [] built taken → built ≡ string
  unfolding joined
  all_built {built} h = sym (append-nil built) ∙ h.whole

  -- What is found under an id of a pending block has the block's bytes.
  pub record Sound (find : ℕ → Option (List ℕ)) : Type 0 where
    pub same : (c : Content) → In c (blocks_of σ string) → (x : List ℕ) → find (id_of_block c.bytes) ≡ some x → x ≡ c.bytes

  -- Copying leaves blocks pending, and is never too long.
  pub record Settles (taken : ℕ) (t : Settled) : Type 0 where
    pub blocks : List Content
    pub built : List ℕ
    pub is : t ≡ left built (map name_of blocks)
    pub holding : Holding blocks built taken

  pub settles : (find : ℕ → Option (List ℕ)) → Sound find → (blocks : List Content) (built : List ℕ) (taken : ℕ) → Holding blocks built taken
      → Settles taken (settle find (length string) built (map name_of blocks))
  unfolding settle
  settles find sound [] built taken h = record { blocks = []; built = built; is = refl; holding = h }
  settles find sound (c ∷ cs) built taken h =
      go (find (id_of_block c.bytes)) refl (settles find sound cs (built ++ c.bytes) taken (holding_fewer (holding_built h)))
    where
      go : (o : Option (List ℕ)) → find (id_of_block c.bytes) ≡ o → Settles taken (settle find (length string) (built ++ c.bytes) (map name_of cs))
          → Settles taken (copying (λ (more : List ℕ). settle find (length string) more (map name_of cs)) (length string) built (name_of c) (map name_of cs) o)
      go none e next = unfold copying in record { blocks = c ∷ cs; built = built; is = refl; holding = h }
      go (some x) e next =
          unfold copying in
          let same : x ≡ c.bytes = sound.same c (unfold Every in h.real.0) x e in
          let fits : leb (length built + length x) (length string) ≡ true =
          ap (λ (y : List ℕ). leb (length built + length y) (length string)) same ∙ le-leb _ _ (bytes_fit h) in
          rw fits (rw same next)
