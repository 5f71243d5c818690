-- How long blocks are: of one cutting, unless it gives only one, at least the distance h, and so of any level of a tree.
use mathlib.Core.List.{List, [], ◌∷◌, append-nil, flatten}
use Prim.Native.Nat.{ℕ, ◌+◌, ◌*◌, ◌-◌, ◌≤◌, ◌<◌, max}
use native.Mathlib.Nat.{add-zero, le_trans, add-mul, mul-le-mul_left, pow-le-pow_right, le-div_iff_mul-le}
use native.Mathlib.Omega.{arith}
use lib.Ieee.Nearest.{div_mono}
use lib.ListN.{length, take, drop, length-append, length-take, length-drop}
use Rattle.partition.specs.Cuts.{cuts_of}
use Rattle.partition.specs.Blocks.{blocks_from, blocks_of}
use Rattle.partition.specs.Apart.{Apart, none, cut}
use Rattle.partition.proofs.Placed.{cuts_apart}
use Rattle.node_table.specs.Laws.{Each, none, both}
use Rattle.tree.specs.declared.Settings.{Settings}
use Rattle.tree.specs.Questions.{spacing}
use Rattle.tree.specs.Tree.{children_of}
use Rattle.tree.specs.Bounds.{Granted}
use Rattle.tree.specs.Laws.{total}
use Rattle.tree.proofs.Powers.{power_positive}

-- Each of the blocks is at least h long.
abbrev pub Long : ℕ → List (List ℕ) → Type 0
Long h bs = Each (λ b. h ≤ length b) bs

-- Blocks between cuts that are h apart, and h from either end.
between_long : {h free to : ℕ} {cs : List ℕ} (bytes : List ℕ) (from : ℕ) → Apart h free cs to → from + h ≤ free → from + h ≤ length bytes
    → to ≤ length bytes → Long h (blocks_from from cs bytes)
unfolding blocks_from
between_long {h} bytes from none a b c =
    let last : h ≤ length (drop from bytes) = simp length-drop (omega arith) in
    both last none
between_long {h} bytes from (cut {c = x} low high rest) a b c =
    let first : h ≤ length (take (x - from) (drop from bytes)) = simp (length-take, length-drop) (omega arith) in
    both first (between_long bytes x rest (omega arith) (omega arith) c)

-- Blocks of one cutting, unless it gives only one, are at least h long.
pub blocks_long : (w h s : ℕ) (bytes : List ℕ) → 1 < length (blocks_of w h s bytes) → Long h (blocks_of w h s bytes)
unfolding blocks_of blocks_from
blocks_long w h s bytes = at (cuts_of w h s bytes) (cuts_apart w h s bytes)
  where
    at : (cs : List ℕ) → Apart h h cs (length bytes - w) → 1 < length (blocks_from 0 cs bytes) → Long h (blocks_from 0 cs bytes)
    at [] p l = absurd (omega arith)
    at (c ∷ cs) (cut low high rest) l = between_long bytes 0 (cut low high rest) (omega arith) (omega arith) (omega arith)

-- What is at least h long is at least k long for every k up to h.
longer : {h k : ℕ} {bs : List (List ℕ)} → k ≤ h → Long h bs → Long k bs
longer less none = none
longer less (both long rest) = both (le_trans less long) (longer less rest)

module _ (σ : Settings) (g : Granted σ) where
  -- The distance of a level is at least 1, and not more than that of a level above.
  pub spacing_some : {l : ℕ} → l ≤ σ.levels → 1 ≤ spacing σ l
  spacing_some {l} h =
      let some : 1 ≤ σ.fan_out = omega arith in
      (le-div_iff_mul-le (power_positive l some)).1 (omega (arith, pow-le-pow_right some h))

  spacing_falls : {i j : ℕ} → i ≤ j → spacing σ j ≤ spacing σ i
  spacing_falls {i} {j} h =
      let some : 1 ≤ σ.fan_out = omega arith in
      div_mono _ _ _ _ (power_positive j some) (power_positive i some) (mul-le-mul_left σ.nominal (pow-le-pow_right some h))

  -- The children of a node, unless it has only one, are at least as long as the distance of their level or of one below it.
  pub children_long : {l deep : ℕ} (bytes : List ℕ) → l ≤ deep → 1 < length (children_of σ l bytes) → Long (spacing σ deep) (children_of σ l bytes)
  unfolding children_of
  children_long bytes h some = longer (spacing_falls h) (blocks_long _ _ _ bytes some)

-- A count f that gives each block no more than h goes into it, or 1, gives blocks together no more than h goes into them joined, or 1: unless
-- there is only one, each is at least h long.
module _ (f : List ℕ → ℕ) (h : ℕ) (fits : (b : List ℕ) → f b * h ≤ max h (length b)) where
  long_total : (bs : List (List ℕ)) → Long h bs → total f bs * h ≤ length (flatten bs)
  unfolding total flatten
  long_total [] none = omega arith
  long_total (b ∷ bs) (both long rest) =
      omega (arith, add-mul (f b) (total f bs) h, fits b, long_total bs rest, length-append b (flatten bs))

  pub joined_total : (bs : List (List ℕ)) → (1 < length bs → Long h bs) → total f bs * h ≤ max h (length (flatten bs))
  unfolding total flatten
  joined_total [] long = omega arith
  joined_total (b ∷ []) long = rw (append-nil, add-zero) (fits b)
  joined_total (b ∷ c ∷ bs) long = omega (arith, long_total (b ∷ c ∷ bs) (long (omega arith)))
