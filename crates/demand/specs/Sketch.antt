-- When demand 3's condition on the sketch holds, "the sketch opens to the true difference": document 02, request 13, of the trees of two strings.
use Rattle.std.specs.Prelude.{List, [], ◌∷◌, ◌≡◌, ℕ}
use Rattle.tree.specs.declared.Settings.{Settings}
use Rattle.sketch.specs.Opening.{Signed, true_difference}
use Rattle.setup.specs.Tables.{shingles_of_string}
use Rattle.orders.specs.Left.{LinedUp}
use Rattle.orders.specs.Orders.{Truthful}
use Rattle.protocol.specs.Lent.{Lent}
use Rattle.protocol.specs.Genuine.{Accepted}
use Rattle.protocol.specs.Demand.{SetupAccepts, OpensToDifference}

-- The shingles in which two trees differ.
abbrev pub tree_difference : Settings → (own string : List ℕ) → List Signed
tree_difference σ own string = true_difference (shingles_of_string σ string) (shingles_of_string σ own)

-- It holds where each single cell that any order comes to truly holds one shingle, and the difference can be lined up.
abbrev pub LinedUpTrees : Type 0
LinedUpTrees =
    (σ : Settings) (m : Lent) (string : List ℕ) → SetupAccepts σ m → Accepted σ string
    → Truthful σ.width σ.levels (shingles_of_string σ string) (shingles_of_string σ m.string) → LinedUp σ.width (tree_difference σ m.string string)
    → OpensToDifference σ m.string string

-- It holds of trees that differ in one shingle.
abbrev pub OneShingleTrees : Type 0
OneShingleTrees =
    (σ : Settings) (m : Lent) (string : List ℕ) → SetupAccepts σ m → Accepted σ string
    → (z : Signed) → tree_difference σ m.string string ≡ z ∷ []
    → OpensToDifference σ m.string string
