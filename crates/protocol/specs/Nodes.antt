-- The bytes that a node table points to in its string.
use Rattle.std.specs.Prelude.{◌&&◌, List, [], ◌∷◌, ℕ, eqb, length, take, drop}
use Rattle.std.proofs.Math.Option.{Option, none, some}
use Rattle.node_table.specs.declared.Entry.{Entry}
use Rattle.node_table.specs.Nodes.{entries_in, inside, from_first}

-- The bytes of an entry.
unfoldable pub block_in : List ℕ → Entry → List ℕ
block_in string e = take e.size (drop e.start string)

unfoldable pub first_block : List ℕ → List Entry → Option (List ℕ)
first_block string [] = none
first_block string (e ∷ es) = some (block_in string e)

-- "an own node at any level, the first such node's bytes": the bytes of the first node in the string with that id, if there is one.
unfoldable pub look : List ℕ → List ℕ → ℕ → Option (List ℕ)
look string nodes id = first_block string (from_first (λ e. inside (length string) e && eqb e.id id) (entries_in nodes))
