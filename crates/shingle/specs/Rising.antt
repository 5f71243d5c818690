-- The words in which the shingle list's laws are stated: a list that rises strictly, and how many nodes give a pair.
use Rattle.std.specs.Prelude.{Bool, true, cond, ◌&&◌, List, [], ◌∷◌, ◌≡◌, ℕ, suc, eqb}
use Rattle.shingle.specs.declared.Shingle.{Shingle}
use Rattle.shingle.specs.Shingles.{Pair, pair_of, lower}

-- The pair k is lower than every pair of the list.
pub data Over (k : Pair) : List Shingle → Type 0 where
  none : Over k []
  more : {s : Shingle} {ss : List Shingle} → lower k (pair_of s) ≡ true → Over k ss → Over k (s ∷ ss)

-- Each pair is lower than all after it.
pub data Rising : List Shingle → Type 0 where
  none : Rising []
  more : {s : Shingle} {ss : List Shingle} → Over (pair_of s) ss → Rising ss → Rising (s ∷ ss)

unfoldable pub same_pair : Pair → Pair → Bool
same_pair a b = eqb a.level b.level && (eqb a.previous b.previous && eqb a.own b.own)

-- How many of the list are the pair k.
unfoldable pub how_many : Pair → List Pair → ℕ
how_many k [] = 0
how_many k (p ∷ ps) = cond (same_pair k p) (suc (how_many k ps)) (how_many k ps)
