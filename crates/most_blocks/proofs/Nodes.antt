-- No tree has more nodes than `most_nodes` says of its settings and the length of its string.
use mathlib.Core.Bool.{Bool, true, false}
use mathlib.Core.List.{List, [], ◌∷◌}
use mathlib.Core.Path.{◌≡◌, refl}
use Prim.Native.Nat.{ℕ, zero, suc, ◌+◌, ◌*◌, ◌/◌, ◌≤◌, max}
use native.Mathlib.Nat.{le_trans, le_of_mul-le-mul_right, le-div_iff_mul-le}
use native.Mathlib.Decide.{dec_le}
use native.Mathlib.Omega.{arith}
use borrow.Author.Tests.{le-leb}
use lib.Dec.{leb}
use lib.ListN.{length}
use Rattle.tree.specs.declared.Settings.{Settings}
use Rattle.tree.specs.Questions.{spacing, ask, refusal}
use Rattle.tree.specs.Tree.{children_of, tree_of, nodes_of}
use Rattle.tree.specs.Table.{tree_refusal}
use Rattle.tree.specs.Bounds.{Granted}
use Rattle.tree.specs.Laws.{total}
use Rattle.tree.proofs.Questions.{granted}
use Rattle.tree.proofs.Tree.{children_join, children_few, subtree_count}
use Rattle.most_blocks.specs.Nodes.{most_at, most_to, most_nodes}
use Rattle.most_blocks.proofs.Long.{spacing_some, children_long, joined_total}

-- How many nodes lie so many levels below a node of the given level and bytes.
unfoldable below : Settings → (depth level : ℕ) → List ℕ → ℕ
below σ zero level bytes = 1
below σ (suc depth) level bytes = total (below σ depth (level + 1)) (children_of σ (level + 1) bytes)

-- A total of sums, of multiples and of ones.
total_sum : (f g h : List ℕ → ℕ) → ((b : List ℕ) → f b ≡ g b + h b) → (bs : List (List ℕ)) → total f bs ≡ total g bs + total h bs
unfolding total
total_sum f g h e [] = refl
total_sum f g h e (b ∷ bs) = omega (arith, e b, total_sum f g h e bs)

total_times : (f g : List ℕ → ℕ) → ((b : List ℕ) → f b ≤ 32 * g b) → (bs : List (List ℕ)) → total f bs ≤ 32 * total g bs
unfolding total
total_times f g e [] = omega arith
total_times f g e (b ∷ bs) = omega (arith, e b, total_times f g e bs)

total_ones : (bs : List (List ℕ)) → total (λ b. 1) bs ≡ length bs
unfolding total
total_ones [] = refl
total_ones (b ∷ bs) = omega (arith, total_ones bs)

module _ (σ : Settings) where
  -- A tree of one level more has the nodes of that level besides.
  tree_more : (left level : ℕ) (bytes : List ℕ)
      → length (tree_of σ (suc left) level 0 bytes) ≡ length (tree_of σ left level 0 bytes) + below σ (suc left) level bytes
  unfolding tree_of below
  tree_more zero level bytes = omega (arith, subtree_count σ zero level 0 bytes)
  tree_more (suc left) level bytes =
      omega (
        arith,
        subtree_count σ (suc left) level 0 bytes,
        subtree_count σ left level 0 bytes,
        total_sum _ _ _ (tree_more left (level + 1)) (children_of σ (level + 1) bytes),
      )

  -- A level has at most 32 nodes for each node of the level above.
  below_times : (depth level : ℕ) (bytes : List ℕ) → below σ (suc depth) level bytes ≤ 32 * below σ depth level bytes
  unfolding below
  below_times zero level bytes = omega (arith, total_ones (children_of σ (level + 1) bytes), children_few σ (level + 1) bytes)
  below_times (suc depth) level bytes = total_times _ _ (below_times depth (level + 1)) (children_of σ (level + 1) bytes)

  -- Below a node there are no more nodes of a level than the level's distance goes into the node's bytes, or there is one.
  below_fits : Granted σ → (deep depth level : ℕ) → level + depth ≤ deep → (bytes : List ℕ)
      → below σ depth level bytes * spacing σ deep ≤ max (spacing σ deep) (length bytes)
  unfolding below
  below_fits g deep zero level h bytes = omega arith
  below_fits g deep (suc depth) level h bytes =
      rw (children_join σ (level + 1) bytes) at
      (joined_total (below σ depth (level + 1)) (spacing σ deep) (below_fits g deep depth (level + 1) (omega arith)) (children_of σ (level + 1) bytes)
      (children_long σ g bytes (omega arith)))

-- A count that fits so is at most the quotient, or 1.
quotient : (x h n : ℕ) → 1 ≤ h → x * h ≤ max h n → x ≤ max 1 (n / h)
quotient x h n some fits = at (dec_le h n)
  where
    at : Dec (h ≤ n) → x ≤ max 1 (n / h)
    at (yes l) = omega (arith, (le-div_iff_mul-le {x = x} {y = n} some).1 (omega arith))
    at (no l) = omega (arith, le_of_mul-le-mul_right {m = x} {n = 1} {k = h} (omega arith) some)

-- So no level has more nodes than `most_at` says, nor the levels down to it more than `most_to`.
module _ (σ : Settings) (string : List ℕ) (g : Granted σ) where
  level_bounded : (l : ℕ) → l ≤ σ.levels → below σ l 0 string ≤ most_at σ (length string) l
  unfolding below most_at
  level_bounded zero h = omega arith
  level_bounded (suc l) h =
      let many : below σ (suc l) 0 string ≤ 32 * below σ l 0 string = below_times σ l 0 string in
      let long : below σ (suc l) 0 string ≤ max 1 (length string / spacing σ (suc l)) =
      quotient _ _ _ (spacing_some σ g h) (below_fits σ g (suc l) (suc l) 0 (omega arith) string) in
      omega (arith, level_bounded l (omega arith))

  levels_bounded : (l : ℕ) → l ≤ σ.levels → length (tree_of σ l 0 0 string) ≤ most_to σ (length string) l
  unfolding tree_of most_at most_to
  levels_bounded zero h = omega arith
  levels_bounded (suc l) h = omega (arith, tree_more σ l 0 string, levels_bounded l (omega arith), level_bounded (suc l) h)

-- A whole tree has no more nodes than `most_nodes` says.
pub nodes_bounded : (σ : Settings) (string : List ℕ) → Granted σ → length (nodes_of σ string) ≤ most_nodes σ (length string)
unfolding nodes_of
nodes_bounded σ string g = levels_bounded σ string g σ.levels (omega arith)

-- Where the most nodes are at most 4,096, question 8 refuses no string of the length.
pub never_too_many : (σ : Settings) (string : List ℕ) (room : ℕ) → refusal σ (length string) ≡ 0 → most_nodes σ (length string) ≤ 4096
    → (tree_refusal σ string room ≡ 8 → ⊥)
unfolding tree_refusal ask
never_too_many σ string room passes few e =
    at (leb 65536 room) (rw (passes, le-leb _ _ (le_trans (nodes_bounded σ string (granted σ (length string) passes).0) few)) at e)
  where
    at : (enough : Bool) → ask enough 7 0 ≡ 8 → ⊥
    at true e = omega arith
    at false e = omega arith

-- Nor any string at all where there are one or two levels: 1 + 32 + 1,024 nodes.
pub two_levels_fit : (σ : Settings) (n : ℕ) → σ.levels ≤ 2 → most_nodes σ n ≤ 1057
unfolding most_at most_to
two_levels_fit σ n = at σ.levels
  where
    at : (l : ℕ) → l ≤ 2 → most_to σ n l ≤ 1057
    at zero h = omega arith
    at (suc zero) h = omega arith
    at (suc (suc zero)) h = omega arith
    at (suc (suc (suc l))) h = absurd (omega arith)
