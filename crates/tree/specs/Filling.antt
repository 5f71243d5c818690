-- How entries fill their parent: document 02, request 1, "In an accepted tree the nodes naming a parent, one level down, fill it end to end in
-- order of place."
use Rattle.std.specs.Prelude.{cond, ◌&&◌, List, [], ◌∷◌, ◌≡◌, ℕ, ◌+◌, eqb}
use Rattle.node_table.specs.declared.Entry.{Entry}

-- "the nodes naming a parent, one level down": the entries of level l + 1 that name entry k, in table order.
unfoldable pub naming : (k l : ℕ) → List Entry → List Entry
naming k l [] = []
naming k l (e ∷ es) = cond (eqb e.parent k && eqb e.level (l + 1)) (e ∷ naming k l es) (naming k l es)

-- "end to end in order of place": the entries lie one after the other from `start` to `end`, at places from `place` on.
pub data EndToEnd (end : ℕ) : (start place : ℕ) → List Entry → Type 0 where
  done : {place : ℕ} → EndToEnd end end place []
  next : {start place : ℕ} {e : Entry} {es : List Entry} → e.start ≡ start → e.place ≡ place → EndToEnd end (start + e.size) (place + 1) es
      → EndToEnd end start place (e ∷ es)

-- The entries that name entry k, which says e, fill it.
pub record ChildrenFill (es : List Entry) (k : ℕ) (e : Entry) : Type 0 where
  pub fills : EndToEnd (e.start + e.size) e.start 0 (naming k e.level es)
