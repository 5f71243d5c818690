-- The number of an order, step by step: the trails that start with a smaller id, then those that start with the same.
use mathlib.Core.Bool.{Bool, true, false, cond}
use mathlib.Core.List.{List, [], ◌∷◌, ◌++◌, map, Memᴰ}
use mathlib.Core.Path.{◌≡◌, refl, sym, ap, subst, ◌∙◌}
use Prim.Native.Nat.{ℕ, ◌+◌, ◌-◌, ◌<◌}
use native.Mathlib.Omega.{arith}
use lib.Dec.{ltb}
use lib.ListN.{length, length-append, length-map}
use borrow.Author.Tests.{lt-ltb, le-ltb, le-leb, lt-leb, eq-eqb, ne_eqb}
use Rattle.trail.specs.Trails.{Multiset, without, over, branches, before, count_before}
use Rattle.trail.specs.Search.{keep, within}
use Rattle.trail.proofs.Every.{Every, none, also, every_member, empty, first}
use Rattle.trail.proofs.Ids.{Up}

count_append : (xs : List ℕ) (list rest : List (List ℕ)) → count_before xs (list ++ rest) ≡ count_before xs list + count_before xs rest
unfolding count_before
count_append xs [] rest = omega arith
count_append xs (ys ∷ list) rest = let h = count_append xs list rest in omega arith

-- All that start with a smaller id come before, none that start with a greater one does.
count_smaller : (x y : ℕ) (xs : List ℕ) (list : List (List ℕ)) → y < x → count_before (x ∷ xs) (map (λ (ys : List ℕ). y ∷ ys) list) ≡ length list
unfolding count_before before
count_smaller x y xs [] h = refl
count_smaller x y xs (ys ∷ list) h = let r = count_smaller x y xs list h in rw (lt-ltb y x h) (omega arith)

count_same : (x : ℕ) (xs : List ℕ) (list : List (List ℕ)) → count_before (x ∷ xs) (map (λ (ys : List ℕ). x ∷ ys) list) ≡ count_before xs list
unfolding count_before before
count_same x xs [] = refl
count_same x xs (ys ∷ list) = rw (le-ltb x x (omega arith), eq-eqb x x refl) (ap (λ (n : ℕ). cond (before ys xs) 1 0 + n) (count_same x xs list))

count_greater : (x y : ℕ) (xs : List ℕ) (list : List (List ℕ)) → x < y → count_before (x ∷ xs) (map (λ (ys : List ℕ). y ∷ ys) list) ≡ 0
unfolding count_before before
count_greater x y xs [] h = refl
count_greater x y xs (ys ∷ list) h = let r = count_greater x y xs list h in rw (le-ltb y x (omega arith), ne_eqb y x (λ e. omega arith)) (omega arith)

module _ (rest : ℕ → Multiset → List (List ℕ)) (x : ℕ) (xs : List ℕ) (v : ℕ) (pairs : Multiset) where
  over_smaller : (y : ℕ) (b : Bool) → y < x → count_before (x ∷ xs) (over rest v y pairs b) ≡ length (over rest v y pairs b)
  unfolding over count_before
  over_smaller y true h = count_smaller x y xs (rest y (without v y pairs)) h ∙ sym (length-map (rest y (without v y pairs)) (λ (ys : List ℕ). y ∷ ys))
  over_smaller y false h = refl

  over_greater : (y : ℕ) (b : Bool) → x < y → count_before (x ∷ xs) (over rest v y pairs b) ≡ 0
  unfolding over count_before
  over_greater y true h = count_greater x y xs (rest y (without v y pairs)) h
  over_greater y false h = refl

  -- Ids greater than x: none counts, and none is at most x - 1.
  count_after : {ids : List ℕ} → Every (λ y. x < y) ids → count_before (x ∷ xs) (branches rest ids v pairs) ≡ 0
  unfolding branches count_before
  count_after none = refl
  count_after (also {x = y} {xs = ids} h r) =
      let a = over_greater y (ltb 0 (pairs v y)) h in
      let b = count_after r in
      count_append (x ∷ xs) (over rest v y pairs (ltb 0 (pairs v y))) (branches rest ids v pairs) ∙ (let z : count_before (x ∷ xs) (over rest v y pairs (ltb 0 (pairs v y))) + count_before (x ∷ xs) (branches rest ids v pairs) ≡ 0 = omega arith in z)

  keep_none : {ids : List ℕ} → 0 < x → Every (λ y. x < y) ids → keep (within 0 (x - 1)) ids ≡ []
  unfolding keep within
  keep_none p none = refl
  keep_none p (also {x = y} h r) = rw (le-leb 0 y (omega arith), lt-leb y (x - 1) (omega arith)) (keep_none p r)

  here_count : {ids : List ℕ} → 0 < x → 0 < pairs v x → Every (λ y. x < y) ids →
      count_before (x ∷ xs) (branches rest (x ∷ ids) v pairs) ≡ length (branches rest (keep (within 0 (x - 1)) (x ∷ ids)) v pairs) + count_before xs (rest x (without v x pairs))
  unfolding branches over keep within
  here_count {ids} p here h =
      let a = count_after h in
      let b = count_same x xs (rest x (without v x pairs)) in
      rw (lt-ltb 0 (pairs v x) here, le-leb 0 x (omega arith), lt-leb x (x - 1) (omega arith), keep_none p h)
      (count_append (x ∷ xs) (map (λ (ys : List ℕ). x ∷ ys) (rest x (without v x pairs))) (branches rest ids v pairs) ∙ (let z : count_before (x ∷ xs) (map (λ (ys : List ℕ). x ∷ ys) (rest x (without v x pairs))) + count_before (x ∷ xs) (branches rest ids v pairs) ≡ 0 + count_before xs (rest x (without v x pairs)) = omega arith in z))

  less_count : (y : ℕ) (ids : List ℕ) → y < x → count_before (x ∷ xs) (branches rest ids v pairs) ≡ length (branches rest (keep (within 0 (x - 1)) ids) v pairs) + count_before xs (rest x (without v x pairs)) →
      count_before (x ∷ xs) (branches rest (y ∷ ids) v pairs) ≡ length (branches rest (keep (within 0 (x - 1)) (y ∷ ids)) v pairs) + count_before xs (rest x (without v x pairs))
  unfolding branches keep within
  less_count y ids h r =
      let a = over_smaller y (ltb 0 (pairs v y)) h in
      let b = count_append (x ∷ xs) (over rest v y pairs (ltb 0 (pairs v y))) (branches rest ids v pairs) in
      let c = length-append (over rest v y pairs (ltb 0 (pairs v y))) (branches rest (keep (within 0 (x - 1)) ids) v pairs) in
      rw (le-leb 0 y (omega arith), le-leb y (x - 1) (omega arith)) (omega arith)

  pub branches_count : {ids : List ℕ} → Up ids → Memᴰ x ids → 0 < x → 0 < pairs v x →
      count_before (x ∷ xs) (branches rest ids v pairs) ≡ length (branches rest (keep (within 0 (x - 1)) ids) v pairs) + count_before xs (rest x (without v x pairs))
  branches_count empty m p here = elim m [ ]
  branches_count (first {x = y} {xs = ids} h r) (Memᴰ.head e) p here =
      subst (λ (z : ℕ). Every (λ w. z < w) ids → count_before (x ∷ xs) (branches rest (z ∷ ids) v pairs) ≡ length (branches rest (keep (within 0 (x - 1)) (z ∷ ids)) v pairs) + count_before xs (rest x (without v x pairs)))
      e (here_count p here) h
  branches_count (first {x = y} {xs = ids} h r) (Memᴰ.tail m) p here = less_count y ids (every_member h m) (branches_count r m p here)
