-- Pairs that come twice: in a rising list, and in a list in another order.
use mathlib.Core.Bool.{Bool, true, false, cond, not, ◌&&◌, ◌||◌}
use mathlib.Core.List.{List, [], ◌∷◌}
use mathlib.Core.Path.{◌≡◌, refl, sym, ap, ap₂, ◌∙◌}
use Rattle.entries.proofs.Linear.{both}
use Rattle.sort.specs.Sort.{insert_of, sort_of}
use Rattle.shingle.specs.declared.Shingle.{Shingle}
use Rattle.shingle.specs.Shingles.{Pair, pair_of}
use Rattle.shingle.specs.Table.{holds}
use Rattle.shingle.specs.Rising.{Over, Rising, none, more, same_pair}
use Rattle.shingle.proofs.PairOrder.{same_true, same_equal, same_lower}
use Rattle.sketch.specs.Opening.{kept, before, pair_in, no_pair_twice}
use Rattle.sketch.proofs.NewList.{or_swap}

-- A rising list has no pair twice.
over_none : (s : Shingle) {ss : List Shingle} → Over (pair_of s) ss → pair_in s ss ≡ false
unfolding pair_in
over_none s none = refl
over_none s (more {s = x} e o) = rw (same_lower (pair_of s) (pair_of x) e) (over_none s o)

pub rising_none : {ss : List Shingle} → Rising ss → no_pair_twice ss ≡ true
unfolding no_pair_twice
rising_none none = refl
rising_none (more {s = s} o r) = rw (over_none s o) (rising_none r)

pub kept_all : (ss : List Shingle) → kept [] ss ≡ ss
unfolding kept holds
kept_all [] = refl
kept_all (s ∷ ss) = ap (λ (l : List Shingle). s ∷ l) (kept_all ss)

-- The pairs of two are the same in either order.
same_swap : (a b : Pair) → same_pair a b ≡ same_pair b a
same_swap a b = go (same_pair a b) (same_pair b a) refl refl
  where
    go : (t u : Bool) → same_pair a b ≡ t → same_pair b a ≡ u → t ≡ u
    go true true e f = refl
    go true false e f = absurd (both (same_equal b a (sym (same_true a b e))) f)
    go false true e f = absurd (both (same_equal a b (sym (same_true b a f))) e)
    go false false e f = refl

-- Another order.
either_none : (p q r u : Bool) → (not (p || q) && (not r && u)) ≡ (not (p || r) && (not q && u))
either_none true q r u = refl
either_none false true true u = refl
either_none false true false u = refl
either_none false false true u = refl
either_none false false false u = refl

pair_insert : (x s : Shingle) (ss : List Shingle) → pair_in x (insert_of before s ss) ≡ (same_pair (pair_of x) (pair_of s) || pair_in x ss)
unfolding insert_of pair_in
pair_insert x s [] = refl
pair_insert x s (y ∷ ss) = go (before y s) (pair_insert x s ss)
  where
    go : (t : Bool) → pair_in x (insert_of before s ss) ≡ (same_pair (pair_of x) (pair_of s) || pair_in x ss)
        → pair_in x (cond t (y ∷ insert_of before s ss) (s ∷ y ∷ ss))
        ≡ (same_pair (pair_of x) (pair_of s) || (same_pair (pair_of x) (pair_of y) || pair_in x ss))
    go true ih =
        ap (λ (t : Bool). same_pair (pair_of x) (pair_of y) || t) ih
        ∙ or_swap (same_pair (pair_of x) (pair_of y)) (same_pair (pair_of x) (pair_of s)) (pair_in x ss)
    go false ih = refl

pair_sort : (x : Shingle) (ss : List Shingle) → pair_in x (sort_of before ss) ≡ pair_in x ss
unfolding sort_of pair_in
pair_sort x [] = refl
pair_sort x (s ∷ ss) =
    pair_insert x s (sort_of before ss) ∙ ap (λ (t : Bool). same_pair (pair_of x) (pair_of s) || t) (pair_sort x ss)

twice_insert : (s : Shingle) (ss : List Shingle) → no_pair_twice (insert_of before s ss) ≡ (not (pair_in s ss) && no_pair_twice ss)
unfolding insert_of no_pair_twice pair_in
twice_insert s [] = refl
twice_insert s (y ∷ ss) = go (before y s) (twice_insert s ss)
  where
    go : (t : Bool) → no_pair_twice (insert_of before s ss) ≡ (not (pair_in s ss) && no_pair_twice ss)
        → no_pair_twice (cond t (y ∷ insert_of before s ss) (s ∷ y ∷ ss))
        ≡ (not (same_pair (pair_of s) (pair_of y) || pair_in s ss) && (not (pair_in y ss) && no_pair_twice ss))
    go true ih =
        ap₂ (λ (t u : Bool). not t && u) (pair_insert y s ss ∙ ap (λ (t : Bool). t || pair_in y ss) (same_swap (pair_of y) (pair_of s))) ih
        ∙ either_none (same_pair (pair_of s) (pair_of y)) (pair_in y ss) (pair_in s ss) (no_pair_twice ss)
    go false ih = refl

pub twice_sort : (ss : List Shingle) → no_pair_twice (sort_of before ss) ≡ no_pair_twice ss
unfolding sort_of no_pair_twice
twice_sort [] = refl
twice_sort (s ∷ ss) =
    twice_insert s (sort_of before ss) ∙ ap₂ (λ (t u : Bool). not t && u) (pair_sort s ss) (twice_sort ss)
