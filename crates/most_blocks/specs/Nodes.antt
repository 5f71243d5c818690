-- How many nodes a tree has at most, level by level. No public contract cites these.
use Rattle.std.specs.Prelude.{ℕ, zero, suc, ◌+◌, ◌*◌, ◌/◌, max, min}
use Rattle.tree.specs.declared.Settings.{Settings}
use Rattle.tree.specs.Questions.{spacing}

-- The most nodes of level l in the tree of n bytes: at most 32 for each node of the level above, and not more than the level's distance goes into
-- the string, since blocks of one level are at least that long unless one of them is the whole string.
unfoldable pub most_at : Settings → (n l : ℕ) → ℕ
most_at σ n zero = 1
most_at σ n (suc l) = min (32 * most_at σ n l) (max 1 (n / spacing σ (suc l)))

-- The most nodes of levels 0 to l together.
unfoldable pub most_to : Settings → (n l : ℕ) → ℕ
most_to σ n zero = most_at σ n zero
most_to σ n (suc l) = most_to σ n l + most_at σ n (suc l)

-- The most nodes of a whole tree.
abbrev pub most_nodes : Settings → ℕ → ℕ
most_nodes σ n = most_to σ n σ.levels
