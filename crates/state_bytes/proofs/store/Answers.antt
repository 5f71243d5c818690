-- The head, then the places behind it: the laws of `Storing`. An array of structs in a struct has its length by `unmapped`.
use mathlib.Core.Path.{refl}
use borrow.Author.Rules.{rules}
use Rattle.state_bytes.specs.Bytes.{head_rows}
use Rattle.state_bytes.proofs.Storing.{unmapped, stores_none, stores_all}
use Rattle.state_bytes.proofs.store.Goals as goal

pub returns-then-bytes-lt-SIZE : goal.returns-then-bytes-lt-SIZE
returns-then-bytes-lt-SIZE c = stores_none _ _ c.if-bytes-lt-SIZE.true

pub returns : goal.returns
unfolding head_rows
returns c = stores_all _ _ _ _ _ _ (search (rules, unmapped)) c.if-bytes-lt-SIZE.false c.store_head.ensures c.store_places.ensures refl refl
