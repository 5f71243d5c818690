-- When a composition carries its trail number: document 02, request 5, of the sender and of the receiver.
use Rattle.std.specs.Prelude.{Bool, cond, not, List, ℕ}
use Rattle.std.proofs.Math.Option.{Option, none, some}
use Rattle.trail.specs.Trails.{trail_number, only_trail}

-- "A composition whose trail is the only one omits the number word, and one with others carries it."
unfoldable pub stated : List ℕ → Option ℕ
stated ids = cond (only_trail ids) none (some (trail_number ids))

-- The number that is meant: that of the only trail is 0, since no trail comes before it.
unfoldable pub meant_by : Option ℕ → ℕ
meant_by none = 0
meant_by (some x) = x

-- "A composition that omits the number where two trails exist, or carries one where only one does, fails question 17."
unfoldable pub rightly : Option ℕ → (only : Bool) → Bool
rightly none only = only
rightly (some x) only = not only
