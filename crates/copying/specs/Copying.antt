-- Copying own nodes' bytes: document 01, "While the top has an id of an own node at any level, the first such node's bytes are copied to
-- the end of the output", and question 18.
use Rattle.std.specs.Prelude.{cond, ◌&&◌, List, [], ◌∷◌, ◌++◌, ◌≡◌, ℕ, zero, suc, ◌+◌, ◌≤◌, leb, length, get_or, take, drop, replicate, Option, Some, None}
use Rattle.std.proofs.Math.Option.{none, some}
use Rattle.protocol.specs.Nodes.{look}
use Rattle.protocol.specs.State.{Pending, pending}
use Rattle.protocol.specs.Receiver.{Settled, too_long, left, settle}
use Rattle.copying.specs.declared.Place.{Place}
use Rattle.copying.specs.declared.Waiting.{Waiting}
use Rattle.copying.specs.declared.Copied.{Copied}

-- A node with an id, by where it lies in the string.
pub record Found (string nodes : List ℕ) (id : ℕ) (place : Place) : Type 0 where
  pub is : look string nodes id ≡ some (take place.size (drop place.start string))
  pub inside : place.start + place.size ≤ length string

-- Where the first node with an id lies, or that there is none.
abbrev pub Finds : (string nodes : List ℕ) (id : ℕ) → Option Place → Type 0
Finds string nodes id None = look string nodes id ≡ none
Finds string nodes id (Some place) = Found string nodes id place

-- The pile, its top first: so many of the places from the front.
unfoldable pub pile_of : ℕ → List Waiting → List Pending
pile_of zero places = []
pile_of (suc k) places =
    pending (get_or places k (record { level = 0; id = 0 })).level (get_or places k (record { level = 0; id = 0 })).id ∷ pile_of k places

-- What copying comes to: too long also where the output is shorter than announced, more is built than announced, or more is pending
-- than there are places.
unfoldable pub settled_from : (string nodes : List ℕ) (size : ℕ) (output : List ℕ) (built waiting : ℕ) → List Waiting → Settled
settled_from string nodes size output built waiting places =
    cond (leb size (length output) && (leb built size && leb waiting 128))
    (settle (look string nodes) size (take built output) (pile_of waiting places))
    too_long

-- Bytes stand at the front of a part, and what is behind them is as before.
pub record Appended (before bytes after : List ℕ) : Type 0 where
  pub is : after ≡ bytes ++ drop (length bytes) before

-- The output is zeroed, and the answer says so.
pub record Zeroed (before after : List ℕ) (r : Option Copied) : Type 0 where
  pub answer : r ≡ None
  pub zeros : after ≡ replicate (length before) 0

-- What is built and pending where the output stays within its length. Bytes after those built are as before.
pub record Leaves (string nodes : List ℕ) (size : ℕ) (before after : List ℕ) (built waiting : ℕ) (places : List Waiting) (r : Copied) : Type 0 where
  pub fits : settled_from string nodes size before built waiting places ≡ left (take r.built after) (pile_of r.waiting places)
  pub rest : drop r.built after ≡ drop r.built before
  pub within : (r.built ≤ size) × (r.waiting ≤ waiting)

-- What copying promises: what it leaves; and where the output is too long, that all of it is zero.
abbrev pub Copies : (string nodes : List ℕ) (size : ℕ) (before after : List ℕ) (built waiting : ℕ) → List Waiting → Option Copied → Type 0
Copies string nodes size before after built waiting places (Some copied) = Leaves string nodes size before after built waiting places copied
Copies string nodes size before after built waiting places None =
    (settled_from string nodes size before built waiting places ≡ too_long) × (after ≡ replicate (length before) 0)
