-- The counts of shingles lie between 1 and the number of nodes, so that they fit an entry.
use mathlib.Core.Bool.{Bool, true, false, cond, ◌||◌}
use mathlib.Core.List.{List, [], ◌∷◌}
use mathlib.Core.Path.{◌≡◌, refl, ap}
use Prim.Native.Nat.{ℕ, suc, ◌+◌, ◌≤◌}
use native.Mathlib.Omega.{arith}
use lib.ListN.{length}
use Rattle.entries.proofs.Linear.{both}
use Rattle.shingle.specs.declared.Shingle.{Shingle}
use Rattle.shingle.specs.Shingles.{Pair, shingle, pair_of, lower, counting, counted}
use Rattle.shingle.specs.Table.{agree, holds}
use Rattle.shingle.proofs.Agreement.{agree_true}

-- Each count is at least 1 and at most n.
pub data Counts (n : ℕ) : List Shingle → Type 0 where
  none : Counts n []
  more : {s : Shingle} {ss : List Shingle} → 1 ≤ s.count → s.count ≤ n → Counts n ss → Counts n (s ∷ ss)

counts_more : {n : ℕ} {ss : List Shingle} → Counts n ss → Counts (suc n) ss
counts_more none = none
counts_more (more a b c) = more a (omega arith) (counts_more c)

counts_either : {n : ℕ} {a b : List Shingle} (t : Bool) → Counts n a → Counts n b → Counts n (cond t a b)
counts_either true p q = p
counts_either false p q = q

counts_counting : {n : ℕ} {ss : List Shingle} (k : Pair) → Counts n ss → Counts (suc n) (counting k ss)
unfolding counting
counts_counting k none = more {s = shingle k 1} (omega arith) (omega arith) none
counts_counting k (more {s = s} a b c) =
    counts_either (lower (pair_of s) k) (more a (omega arith) (counts_counting k c))
    (counts_either (lower k (pair_of s)) (more {s = shingle k 1} (omega arith) (omega arith) (more a (omega arith) (counts_more c)))
    (more {s = shingle k (s.count + 1)} (omega arith) (omega arith) (counts_more c)))

pub counts_counted : (ps : List Pair) → Counts (length ps) (counted ps)
unfolding counted
counts_counted [] = none
counts_counted (k ∷ ps) = counts_counting k (counts_counted ps)

pub counts_within : {n : ℕ} {ss : List Shingle} (s : Shingle) → Counts n ss → holds s ss ≡ true → (1 ≤ s.count) × (s.count ≤ n)
unfolding holds
counts_within s none h = absurd (both h refl)
counts_within {n} s (more {s = x} {ss = ss} a b c) h = go (agree s x) refl h (counts_within s c)
  where
    go : (t : Bool) → agree s x ≡ t → (t || holds s ss) ≡ true → (holds s ss ≡ true → (1 ≤ s.count) × (s.count ≤ n)) → (1 ≤ s.count) × (s.count ≤ n)
    go true e f rest = let same : s.count ≡ x.count = ap (λ (y : Shingle). y.count) (agree_true s x e) in (omega arith, omega arith)
    go false e f rest = rest f
