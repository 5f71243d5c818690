-- The listed trails: every one has exactly the multiset, every sequence that has it is listed, and the list rises.
use mathlib.Core.Bool.{Bool, true, false, ◌||◌}
use mathlib.Core.List.Memᴰ
use mathlib.Core.List.{List, [], ◌∷◌, ◌++◌, map, Memᴰ}
use mathlib.Core.Path.{◌≡◌, refl, sym, ap, fun_ext, subst, ◌∙◌}
use Prim.Native.Nat.{ℕ, zero, suc, ◌-◌, ◌<◌}
use native.Mathlib.Omega.{arith}
use lib.Dec.{ltb}
use lib.ListN.{length}
use borrow.Author.Tests.{eq-eqb, ltb-true, lt-ltb}
use Rattle.trail.specs.Trails.{Multiset, single, pairs_from, without, over, branches, trails_from, before}
use Rattle.trail.proofs.Every.{Every, none, also, every_append, weaken, every_map, Rising, empty, first, rising_append, rising_map}
use Rattle.trail.proofs.Ids.{Up}
use Rattle.trail.proofs.Tally.{Sized, sized_without, sized_none, single_le, single_here}

-- A step and what is left after it.
pub step_back : (v x : ℕ) (xs : List ℕ) (pairs : Multiset) → 0 < pairs v x → pairs_from x xs ≡ without v x pairs → pairs_from v (x ∷ xs) ≡ pairs
unfolding pairs_from without
step_back v x xs pairs h e = fun_ext (λ u. fun_ext (λ w. let s = single_le v x pairs h u w in let f : pairs_from x xs u w ≡ pairs u w - single v x u w = ap (λ (p : Multiset). p u w) e in omega arith))

pub step_on : (v x : ℕ) (xs : List ℕ) → without v x (pairs_from v (x ∷ xs)) ≡ pairs_from x xs
unfolding pairs_from without
step_on v x xs = fun_ext (λ u. fun_ext (λ w. omega arith))

pub step_there : (v x : ℕ) (xs : List ℕ) → 0 < pairs_from v (x ∷ xs) v x
unfolding pairs_from
step_there v x xs = let s = single_here v x in omega arith

-- Every branch that is taken has a property, so every listed sequence has it.
pub every_branch : {P : List ℕ → Type 0} (rest : ℕ → Multiset → List (List ℕ)) (ids : List ℕ) (v : ℕ) (pairs : Multiset) →
    ((x : ℕ) → 0 < pairs v x → Every (λ xs. P (x ∷ xs)) (rest x (without v x pairs))) → Every P (branches rest ids v pairs)
unfolding branches over
every_branch rest [] v pairs f = none
every_branch {P} rest (x ∷ ids) v pairs f = every_append (choose (ltb 0 (pairs v x)) refl) (every_branch rest ids v pairs f)
  where
    choose : (b : Bool) → ltb 0 (pairs v x) ≡ b → Every P (over rest v x pairs b)
    choose true e = every_map (λ (xs : List ℕ). x ∷ xs) (f x (ltb-true _ _ e))
    choose false e = none

pub sound : (k : ℕ) (ids : List ℕ) (v : ℕ) (pairs : Multiset) → Sized k pairs → Every (λ xs. pairs_from v xs ≡ pairs) (trails_from k ids v pairs)
unfolding trails_from pairs_from
sound zero ids v pairs s = also (fun_ext (λ u. fun_ext (λ w. sym (sized_none s u w)))) none
sound (suc k) ids v pairs s = every_branch (λ x fewer. trails_from k ids x fewer) ids v pairs
    (λ x h. weaken (λ xs e. step_back v x xs pairs h e) (sound k ids x (without v x pairs) (sized_without v x s h)))

-- The list of ids has every id that is entered.
abbrev pub Covers : List ℕ → Multiset → Type 0
Covers ids pairs = (u w : ℕ) → 0 < pairs u w → Memᴰ w ids

covers_less : (ids : List ℕ) (pairs : Multiset) (v x : ℕ) → Covers ids pairs → Covers ids (without v x pairs)
unfolding without
covers_less ids pairs v x c u w h = c u w (omega arith)

branch_has : {ys : List ℕ} (rest : ℕ → Multiset → List (List ℕ)) (v x : ℕ) {ids : List ℕ} (pairs : Multiset) → Memᴰ x ids → 0 < pairs v x →
    Memᴰ ys (rest x (without v x pairs)) → Memᴰ (x ∷ ys) (branches rest ids v pairs)
unfolding branches over
branch_has {ys} rest v x pairs (Memᴰ.head {x = y} {xs = ids} e) h m =
    subst (λ (z : ℕ). Memᴰ (x ∷ ys) (over rest v z pairs (ltb 0 (pairs v z)) ++ branches rest ids v pairs)) e
    (rw (lt-ltb 0 (pairs v x) h) (Memᴰ.append_left _ (mapped m)))
  where
    mapped : {list : List (List ℕ)} → Memᴰ ys list → Memᴰ (x ∷ ys) (map (λ (xs : List ℕ). x ∷ xs) list)
    mapped (Memᴰ.head e) = Memᴰ.head (ap (λ (xs : List ℕ). x ∷ xs) e)
    mapped (Memᴰ.tail m) = Memᴰ.tail (mapped m)
branch_has rest v x pairs (Memᴰ.tail {x = y} {xs = ids} n) h m = Memᴰ.append_right (over rest v y pairs (ltb 0 (pairs v y))) (branch_has rest v x pairs n h m)

pub complete : (ids : List ℕ) (v : ℕ) (xs : List ℕ) (pairs : Multiset) → Covers ids pairs → pairs_from v xs ≡ pairs → Memᴰ xs (trails_from (length xs) ids v pairs)
unfolding trails_from
complete ids v [] pairs c e = Memᴰ.head refl
complete ids v (x ∷ xs) pairs c e =
    let there : 0 < pairs v x = subst (λ (p : Multiset). 0 < p v x) e (step_there v x xs) in
    let rest : pairs_from x xs ≡ without v x pairs = sym (step_on v x xs) ∙ ap (without v x) e in
    branch_has (λ y fewer. trails_from (length xs) ids y fewer) v x pairs (c v x there) there
    (complete ids x xs (without v x pairs) (covers_less ids pairs v x c) rest)

abbrev pub Before : List ℕ → List ℕ → Type 0
Before xs ys = before xs ys ≡ true

before_later : (x y : ℕ) (xs ys : List ℕ) → x < y → Before (x ∷ xs) (y ∷ ys)
unfolding before
before_later x y xs ys h = rw lt-ltb

before_same : (x : ℕ) (xs ys : List ℕ) → Before xs ys → Before (x ∷ xs) (x ∷ ys)
unfolding before
before_same x xs ys h = rw (eq-eqb x x refl, h) (or-true (ltb x x))
  where
    or-true : (b : Bool) → (b || true) ≡ true
    or-true true = refl
    or-true false = refl

-- What follows the branches of x starts with greater ids.
after_branch : (rest : ℕ → Multiset → List (List ℕ)) (v x : ℕ) {ids : List ℕ} (pairs : Multiset) → Every (λ y. x < y) ids →
    Every (λ ys. (xs : List ℕ) → Before (x ∷ xs) ys) (branches rest ids v pairs)
unfolding branches over
after_branch rest v x pairs none = none
after_branch rest v x pairs (also {x = y} {xs = ids} h r) = every_append (choose (ltb 0 (pairs v y))) (after_branch rest v x pairs r)
  where
    all : (list : List (List ℕ)) → Every (λ ys. (xs : List ℕ) → Before (x ∷ xs) (y ∷ ys)) list
    all [] = none
    all (ys ∷ list) = also (λ xs. before_later x y xs ys h) (all list)

    choose : (b : Bool) → Every (λ ys. (xs : List ℕ) → Before (x ∷ xs) ys) (over rest v y pairs b)
    choose true = every_map (λ (ys : List ℕ). y ∷ ys) (all (rest y (without v y pairs)))
    choose false = none

branches_rise : (rest : ℕ → Multiset → List (List ℕ)) {ids : List ℕ} (v : ℕ) (pairs : Multiset) → Up ids →
    ((x : ℕ) → Rising Before (rest x (without v x pairs))) → Rising Before (branches rest ids v pairs)
unfolding branches over
branches_rise rest v pairs empty f = empty
branches_rise rest v pairs (first {x = x} {xs = ids} h r) f = choose (ltb 0 (pairs v x)) (branches_rise rest v pairs r f)
  where
    later : Every (λ ys. (xs : List ℕ) → Before (x ∷ xs) ys) (branches rest ids v pairs)
    later = after_branch rest v x pairs h

    all : (list : List (List ℕ)) → Every (λ xs. Every (λ ys. Before (x ∷ xs) ys) (branches rest ids v pairs)) list
    all [] = none
    all (xs ∷ list) = also (weaken (λ ys g. g xs) later) (all list)

    choose : (b : Bool) → Rising Before (branches rest ids v pairs) → Rising Before (over rest v x pairs b ++ branches rest ids v pairs)
    choose true s = rising_append (rising_map (λ (xs : List ℕ). x ∷ xs) (λ xs ys. before_same x xs ys) (f x)) s (every_map (λ (xs : List ℕ). x ∷ xs) (all (rest x (without v x pairs))))
    choose false s = s

pub trails_rise : (k : ℕ) {ids : List ℕ} (v : ℕ) (pairs : Multiset) → Up ids → Rising Before (trails_from k ids v pairs)
unfolding trails_from
trails_rise zero v pairs up = first none empty
trails_rise (suc k) {ids} v pairs up = branches_rise (λ x fewer. trails_from k ids x fewer) v pairs up (λ x. trails_rise k x (without v x pairs) up)
