-- Words for the laws of a node table that callers cite.
use Rattle.std.specs.Prelude.{List, [], ◌∷◌, ◌≡◌, ◌^◌, ◌<◌}
use Rattle.node_table.specs.declared.Entry.{Entry}

-- A claim on each element of a list.
pub data Each {A : Type 0} (P : A → Type 0) : List A → Type 0 where
  none : Each P []
  both : {n : A} {ns : List A} → P n → Each P ns → Each P (n ∷ ns)

-- Every number of an entry is within its field, and its id is not 0: as such it is written and read again.
pub record Fits (e : Entry) : Type 0 where
  pub some : e.id ≡ 0 → ⊥
  pub id : e.id < 2 ^ 64
  pub level : e.level < 8
  pub size : e.size < 131072
  pub start : e.start < 131072
  pub parent : e.parent < 4096
  pub place : e.place < 32
