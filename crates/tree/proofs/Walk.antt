-- Laws of the tree as it is walked: a node and then its children, the next child and then the others.
use mathlib.Core.List.{List, [], ◌∷◌, ◌++◌, append-nil}
use mathlib.Core.Path.{◌≡◌, refl, ap}
use Prim.Native.Nat.{ℕ, zero, suc, ◌+◌, ◌-◌, ◌≤◌, ◌<◌}
use native.Mathlib.Nat.{add-zero, add-sub_cancel}
use native.Mathlib.Numerals.{add-one}
use native.Mathlib.Omega.{arith}
use lib.ListN.{length, get_or, take, drop, length-drop, drop_of_length-le}
use lib.Seq.{drop-cons, get_or-take, length-take-le, take_all}
use Rattle.partition.specs.Blocks.{blocks_from, blocks_of}
use Rattle.partition.specs.Found.{Found}
use Rattle.partition.specs.Apart.{Apart, cut}
use Rattle.partition.proofs.Placed.{cuts_rise}
use Rattle.tree.specs.declared.Settings.{Settings}
use Rattle.tree.specs.Questions.{spacing, modulus}
use Rattle.tree.specs.Tree.{node, children_of}
use Rattle.tree.specs.Places.{Placed, placed, placed_in_turn, placed_tree}

pub tree_more : (σ : Settings) (left level start at parent place : ℕ) (bytes : List ℕ) → (left ≡ 0 → ⊥)
    → placed_tree σ left level start at parent place bytes
    ≡ placed (node level start bytes) parent place
    ∷ placed_in_turn (placed_tree σ (left - 1) (level + 1)) at start (at + 1) 0 (children_of σ (level + 1) bytes)
unfolding placed_tree
tree_more σ zero level start at parent place bytes h = absurd (h refl)
tree_more σ (suc left) level start at parent place bytes h = rw (← add-one left, add-sub_cancel)

module _ (σ : Settings) (left level start at parent place : ℕ) (bytes : List ℕ) where
  pub tree_leaf : left ≡ 0 → placed_tree σ left level start at parent place bytes ≡ placed (node level start bytes) parent place ∷ []
  unfolding placed_tree
  tree_leaf e = rw e

-- The children of a node are the blocks between its cuts, walked from the first; the first stands at the entry after the node.
pub walk_all : (σ : Settings) (left level start next at : ℕ) (bytes : List ℕ) (n : ℕ) (cuts : List ℕ)
    → Found σ.window (spacing σ level) (modulus σ level) bytes n cuts → next ≡ at + 1
    → placed_in_turn (placed_tree σ left level) at (start + 0) next 0 (blocks_from 0 (take n cuts) bytes)
    ≡ placed_in_turn (placed_tree σ left level) at start (at + 1) 0 (children_of σ level bytes)
unfolding children_of blocks_of
walk_all σ left level start next at bytes n cuts found e = rw (found.cuts, add-zero, e)

pub found_apart : (w h s : ℕ) (bytes : List ℕ) (n : ℕ) (at : List ℕ) → Found w h s bytes n at → Apart 0 0 (take n at) (length bytes)
found_apart w h s bytes n at found = rw found.cuts (cuts_rise w h s bytes)

-- The cuts from the next child on: the one where it ends, and those after it.
next_cut : (at : List ℕ) (n child : ℕ) → child < n → n ≤ length at → drop child (take n at) ≡ get_or at child 0 ∷ drop (child + 1) (take n at)
next_cut at n child h long =
    rw (add-one, ← get_or-take n at child 0 h) (drop-cons (take n at) child 0 (simp (length-take-le n at long) h))

-- The next child ends at `to`: at its cut, and the cuts after that lie as the cuts did; or with the node, where no cut is left.
pub record ChildEnd (from to : ℕ) (at : List ℕ) (n child size : ℕ) : Type 0 where
  pub low : from ≤ to
  pub high : to ≤ size
  pub next : child < n → (to ≡ get_or at child 0) × Apart 0 to (drop (child + 1) (take n at)) size
  pub last : n ≤ child → to ≡ size

apart_next : {from c size : ℕ} {cuts : List ℕ} → Apart 0 from (c ∷ cuts) size → (from ≤ c) × ((c ≤ size) × Apart 0 c cuts size)
apart_next (cut low high rest) = (low, (rw add-zero at high, rw add-zero at rest))

module _ (from to : ℕ) (at : List ℕ) (n child size : ℕ) where
  pub ends_at_cut : child < n → n ≤ length at → Apart 0 from (drop child (take n at)) size → to ≡ get_or at child 0 → ChildEnd from to at n child size
  ends_at_cut h long spread e =
      let s = apart_next (rw (next_cut at n child h long) at spread) in
      record { low = rw e s.0; high = rw e s.1.0; next = λ k. (e, rw e s.1.1); last = λ k. absurd (omega arith) }

  pub ends_with_node : n ≤ child → from ≤ size → to ≡ size → ChildEnd from to at n child size
  ends_with_node h begun e = record { low = omega arith; high = omega arith; next = λ k. absurd (omega arith); last = λ k. e }

module _ (subtree : (start at parent place : ℕ) → List ℕ → List Placed) (parent start from to entry : ℕ) (bytes at : List ℕ) (n child : ℕ)
    (long : n ≤ length at) (ends : ChildEnd from to at n child (length bytes)) where
  -- The next child with all below it, then the others.
  pub walk_next : child < n → (next : ℕ)
      → next ≡ entry + length (subtree (start + from) entry parent child (take (to - from) (drop from bytes)))
      → placed_in_turn subtree parent (start + from) entry child (blocks_from from (drop child (take n at)) bytes)
      ≡ subtree (start + from) entry parent child (take (to - from) (drop from bytes))
      ++ placed_in_turn subtree parent (start + to) next (child + 1) (blocks_from to (drop (child + 1) (take n at)) bytes)
  unfolding placed_in_turn blocks_from
  walk_next h next e =
      let first = take (to - from) (drop from bytes) in
      let rest = blocks_from to (drop (child + 1) (take n at)) bytes in
      let low = ends.low in
      let high = ends.high in
      let size : length first ≡ to - from = length-take-le (to - from) (drop from bytes) (simp length-drop (omega arith)) in
      let onward : start + from + length first ≡ start + to = omega arith in
      let below = subtree (start + from) entry parent child first in
      rw (next_cut at n child h long, ← (ends.next h).0, e)
      (ap (λ (k : ℕ). below ++ placed_in_turn subtree parent k (entry + length below) (child + 1) rest) onward)

  -- The last child with all below it.
  pub walk_last : n ≤ child
      → placed_in_turn subtree parent (start + from) entry child (blocks_from from (drop child (take n at)) bytes)
      ≡ subtree (start + from) entry parent child (take (to - from) (drop from bytes))
  unfolding placed_in_turn blocks_from
  walk_last h =
      rw (drop_of_length-le (take n at) {i = child} (simp (length-take-le n at long) h), ends.last h, take_all (length bytes - from) (drop from bytes) (simp length-drop (omega arith))) (append-nil _)
