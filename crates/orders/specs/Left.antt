-- What is left of a difference, and where it lies.
use Rattle.std.specs.Prelude.{Bool, false, cond, not, ◌&&◌, ◌||◌, List, [], ◌∷◌, ◌≡◌, ℕ, ◌*◌, ◌<◌}
use Rattle.shingle.specs.Table.{agree}
use Rattle.sketch.specs.Opening.{Signed, lies_in}

-- The same shingle with the same sign, and whether it is among some.
unfoldable pub alike : Signed → Signed → Bool
alike a b = cond a.negative b.negative (not b.negative) && agree a.shingle b.shingle

unfoldable pub among : Signed → List Signed → Bool
among z [] = false
among z (x ∷ xs) = alike z x || among z xs

-- Those that pass a test.
unfoldable pub keep : (Signed → Bool) → List Signed → List Signed
keep test [] = []
keep test (z ∷ zs) = cond (test z) (z ∷ keep test zs) (keep test zs)

-- Those that were not taken.
abbrev pub not_taken : List Signed → List Signed → List Signed
not_taken taken zs = keep (λ (z : Signed). not (among z taken)) zs

-- Those that lie in cell i.
abbrev pub lying_in : (q i : ℕ) → List Signed → List Signed
lying_in q i zs = keep (λ (z : Signed). lies_in q i z.shingle) zs

-- The cell "truly holds one shingle": of what is left, one lies in it.
pub record HoldsOne (q i : ℕ) (zs : List Signed) : Type 0 where
  pub one : Signed
  pub alone : lying_in q i zs ≡ one ∷ []

-- "alone in some cell": no other of those left lies there.
pub record AloneSomewhere (q : ℕ) (z : Signed) (others : List Signed) : Type 0 where
  pub cell : ℕ
  pub within : cell < q * 3
  pub alone : lying_in q cell (z ∷ others) ≡ z ∷ []

-- "each shingle is alone in some cell once those before it are gone"
unfoldable pub EachAlone : ℕ → List Signed → Type 0
EachAlone q [] = Unit {0}
EachAlone q (z ∷ zs) = AloneSomewhere q z zs × EachAlone q zs

-- They "can be lined up so": these, in another order.
pub record LinedUp (q : ℕ) (zs : List Signed) : Type 0 where
  pub line : List Signed
  pub members : (z : Signed) → among z zs ≡ among z line
  pub each : EachAlone q line
