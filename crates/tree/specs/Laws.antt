-- Words for the laws that callers cite.
use Rattle.std.specs.Prelude.{List, [], ◌∷◌, ◌≡◌, ℕ, ◌+◌, ◌≤◌, length, take, drop}
use Rattle.tree.specs.Tree.{Node}

-- A node without its place: level and bytes.
pub record Content : Type 0 where
  pub level : ℕ
  pub bytes : List ℕ

abbrev pub content : Node → Content
content n = record { level = n.level; bytes = n.bytes }

-- The bytes stand in the string from `start` on.
pub record Within (string : List ℕ) (start : ℕ) (bytes : List ℕ) : Type 0 where
  pub inside : start + length bytes ≤ length string
  pub same : take (length bytes) (drop start string) ≡ bytes

-- The sum of a number for each of the blocks.
unfoldable pub total : (List ℕ → ℕ) → List (List ℕ) → ℕ
total f [] = 0
total f (b ∷ bs) = f b + total f bs
