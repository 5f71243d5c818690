-- Children pushed on the pile: document 01, "a composition's trail replaces the node by its children, one level down".
use Rattle.std.specs.Prelude.{cond, ◌&&◌, List, [], ◌∷◌, ◌++◌, map, ◌≡◌, ℕ, ◌+◌, ◌≤◌, leb, length, take, set}
use Rattle.copying.specs.declared.Waiting.{Waiting}
use Rattle.copying.specs.Copying.{pile_of}
use Rattle.protocol.specs.State.{pending}

-- Ids in the places from `at` on, the last id first, so that the first is the top.
unfoldable pub placed : List Waiting → (at level : ℕ) → List ℕ → List Waiting
placed places at level [] = places
placed places at level (id ∷ ids) = set (placed places at level ids) (at + length ids) (record { level = level; id = id })

-- The places after children are pushed; as they were where there are more than 32 children or no room for them.
unfoldable pub pushed : List Waiting → (waiting level : ℕ) → (ids : List ℕ) → (count : ℕ) → List Waiting
pushed places waiting level ids count =
    cond (leb count 32 && leb (waiting + count) 128) (placed places waiting level (take count ids)) places

-- What pushing promises: every place, and the pile that they make, the first id on top.
pub record Pushes (places : List Waiting) (waiting level : ℕ) (ids : List ℕ) (count : ℕ) (r : List Waiting) : Type 0 where
  pub whole : r ≡ pushed places waiting level ids count
  pub pile : count ≤ 32 → waiting + count ≤ 128
      → pile_of (waiting + count) r ≡ map (pending level) (take count ids) ++ pile_of waiting places
