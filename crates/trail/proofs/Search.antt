-- One turn of the search: the least id that an unused pair leads to, what its trails add, and what is left.
use mathlib.Core.Bool.{Bool, true, false, cond, ◌&&◌}
use mathlib.Core.List.{List, [], ◌∷◌, ◌++◌, map, Memᴰ}
use mathlib.Core.Path.{◌≡◌, refl, sym, ap, subst, ◌∙◌}
use Prim.Native.Nat.{ℕ, zero, suc, ◌+◌, ◌-◌, ◌<◌, ◌≤◌}
use native.Mathlib.Omega.{arith}
use lib.Dec.{leb, ltb}
use lib.ListN.{length, get_or, set, drop, length-append, length-map, length-set, drop_of_length-le}
use lib.Seq.{drop-cons, get_or-set_same, drop-set-lt, get_or-append-add}
use borrow.Author.Tests.{lt-ltb, ltb-true, le-leb, lt-leb, leb-true}
use Rattle.trail.specs.Trails.{Multiset, without, over, branches}
use Rattle.trail.specs.Search.{keep, within, Found}
use Rattle.trail.proofs.Every.{Every, none, also, every_member, empty, first}
use Rattle.trail.proofs.Ids.{Up}

-- A branch that no pair leads to adds nothing.
over_none : (rest : ℕ → Multiset → List (List ℕ)) (v x : ℕ) (pairs : Multiset) → (0 < pairs v x → ⊥) → over rest v x pairs (ltb 0 (pairs v x)) ≡ []
unfolding over
over_none rest v x pairs h = choose (ltb 0 (pairs v x)) refl
  where
    choose : (b : Bool) → ltb 0 (pairs v x) ≡ b → over rest v x pairs b ≡ []
    choose true e = absurd (h (ltb-true _ _ e))
    choose false e = refl

within_true : (low top x : ℕ) → within low top x ≡ true → (low ≤ x) × (x ≤ top)
unfolding within
within_true low top x e = choose (leb low x) (leb x top) refl refl e
  where
    choose : (b c : Bool) → leb low x ≡ b → leb x top ≡ c → (b && c) ≡ true → (low ≤ x) × (x ≤ top)
    choose true true e f g = (leb-true low x e, leb-true x top f)
    choose true false e f g = absurd (let n : ◌≡◌ {A = ℕ} 0 1 = cc in omega arith)
    choose false c e f g = absurd (let n : ◌≡◌ {A = ℕ} 0 1 = cc in omega arith)

-- No pair leads to an id from low to top: no trail starts so.
pub no_branch : (rest : ℕ → Multiset → List (List ℕ)) (low top : ℕ) (ids : List ℕ) (v : ℕ) (pairs : Multiset) →
    ((y : ℕ) → low ≤ y → y ≤ top → 0 < pairs v y → ⊥) → branches rest (keep (within low top) ids) v pairs ≡ []
unfolding branches keep
no_branch rest low top [] v pairs h = refl
no_branch rest low top (y ∷ ids) v pairs h = choose (within low top y) refl (no_branch rest low top ids v pairs h)
  where
    choose : (b : Bool) → within low top y ≡ b → branches rest (keep (within low top) ids) v pairs ≡ [] → branches rest (cond b (y ∷ keep (within low top) ids) (keep (within low top) ids)) v pairs ≡ []
    choose true e f = let w = within_true low top y e in rw (over_none rest v y pairs (h y w.0 w.1)) f
    choose false e f = f

keep_after : (low top x : ℕ) {ids : List ℕ} → low ≤ x → Every (λ y. x < y) ids → keep (within low top) ids ≡ keep (within (suc x) top) ids
unfolding keep within
keep_after low top x h none = refl
keep_after low top x h (also {x = y} l r) = rw (le-leb low y (omega arith), le-leb (suc x) y l) (ap (λ ys. cond (leb y top) (y ∷ ys) ys) (keep_after low top x h r))

-- An id below the least one adds nothing.
less_branch : (rest : ℕ → Multiset → List (List ℕ)) (low top x y : ℕ) (ids : List ℕ) (v : ℕ) (pairs : Multiset) → y < x →
    ((z : ℕ) → low ≤ z → z ≤ top → 0 < pairs v z → x ≤ z) →
    branches rest (keep (within low top) (y ∷ ids)) v pairs ≡ branches rest (keep (within low top) ids) v pairs
unfolding branches keep
less_branch rest low top x y ids v pairs l least = choose (within low top y) refl
  where
    choose : (b : Bool) → within low top y ≡ b → branches rest (cond b (y ∷ keep (within low top) ids) (keep (within low top) ids)) v pairs ≡ branches rest (keep (within low top) ids) v pairs
    choose true e = let w = within_true low top y e in rw (over_none rest v y pairs (λ h. let g : x ≤ y = least y w.0 w.1 h in omega arith))
    choose false e = refl

less_kept : (x top y : ℕ) (ids : List ℕ) → y < x → keep (within (suc x) top) (y ∷ ids) ≡ keep (within (suc x) top) ids
unfolding keep within
less_kept x top y ids l = rw (lt-leb (suc x) y (omega arith))

-- The branches of x come first, then those of greater ids.
here_branch : (rest : ℕ → Multiset → List (List ℕ)) (low top x : ℕ) {ids : List ℕ} (v : ℕ) (pairs : Multiset) →
    Every (λ y. x < y) ids → low ≤ x → x ≤ top → 0 < pairs v x →
    branches rest (keep (within low top) (x ∷ ids)) v pairs ≡ map (λ (xs : List ℕ). x ∷ xs) (rest x (without v x pairs)) ++ branches rest (keep (within (suc x) top) (x ∷ ids)) v pairs
unfolding branches keep within over
here_branch rest low top x {ids} v pairs up hl ht here =
    rw (le-leb low x hl, le-leb x top ht, lt-leb (suc x) x (omega arith), lt-ltb 0 (pairs v x) here)
    (ap (λ (ys : List ℕ). map (λ (xs : List ℕ). x ∷ xs) (rest x (without v x pairs)) ++ branches rest ys v pairs) (keep_after low top x hl up))

-- x is the least id from low to top that a pair leads to: first its trails, then those of greater ids.
pub next_branch : (rest : ℕ → Multiset → List (List ℕ)) (low top x : ℕ) {ids : List ℕ} (v : ℕ) (pairs : Multiset) →
    Up ids → Memᴰ x ids → low ≤ x → x ≤ top → 0 < pairs v x → ((y : ℕ) → low ≤ y → y ≤ top → 0 < pairs v y → x ≤ y) →
    branches rest (keep (within low top) ids) v pairs ≡ map (λ (xs : List ℕ). x ∷ xs) (rest x (without v x pairs)) ++ branches rest (keep (within (suc x) top) ids) v pairs
next_branch rest low top x v pairs empty m hl ht here least = elim m [ ]
next_branch rest low top x v pairs (first {x = y} {xs = ids} up r) (Memᴰ.head e) hl ht here least =
    subst (λ (z : ℕ). Every (λ w. z < w) ids → branches rest (keep (within low top) (z ∷ ids)) v pairs ≡ map (λ (xs : List ℕ). x ∷ xs) (rest x (without v x pairs)) ++ branches rest (keep (within (suc x) top) (z ∷ ids)) v pairs)
    e (λ h. here_branch rest low top x v pairs h hl ht here) up
next_branch rest low top x v pairs (first {x = y} {xs = ids} up r) (Memᴰ.tail m) hl ht here least =
    less_branch rest low top x y ids v pairs (every_member up m) least ∙ next_branch rest low top x v pairs r m hl ht here least
    ∙ ap (λ (ys : List ℕ). map (λ (xs : List ℕ). x ∷ xs) (rest x (without v x pairs)) ++ branches rest ys v pairs) (sym (less_kept x top y ids (every_member up m)))

-- A multiset's trails, found by skipping: what is found in the first part of a list, or in the rest after it.
-- The one trail with no id.
pub leaf_found : (skip : ℕ) (ids : List ℕ) → skip ≡ 0 → length ids ≡ 32 → Found ([] ∷ []) 0 skip ids
leaf_found skip ids z e = rw z (record { there = omega arith; same = drop_of_length-le ids {i = 32} (omega arith) })

drop_put : (k x : ℕ) (ids : List ℕ) → length ids ≡ 32 → k < 32 → drop (32 - suc k) (set ids (32 - suc k) x) ≡ x ∷ drop (32 - k) ids
drop_put k x ids e h =
    let at : 32 - suc k < length (set ids (32 - suc k) x) = rw (length-set ids (32 - suc k) x) (omega arith) in
    let next : suc (32 - suc k) ≡ 32 - k = omega arith in
    drop-cons (set ids (32 - suc k) x) (32 - suc k) 0 at
    ∙ (λ i. get_or-set_same ids (32 - suc k) x 0 (let g : 32 - suc k < length ids = omega arith in g) i ∷ drop-set-lt (suc (32 - suc k)) ids (32 - suc k) x (omega arith) i)
    ∙ ap (λ (n : ℕ). x ∷ drop n ids) next

get_d_front : (x : ℕ) (list rest : List (List ℕ)) (n : ℕ) → n < length list → get_or (map (λ (xs : List ℕ). x ∷ xs) list ++ rest) n [] ≡ x ∷ get_or list n []
get_d_front x [] rest n h = absurd (omega arith)
get_d_front x (ys ∷ list) rest zero h = refl
get_d_front x (ys ∷ list) rest (suc n) h = get_d_front x list rest n (omega arith)

-- Found among the trails that go on over x.
pub branch_found : (x k skip : ℕ) (list rest : List (List ℕ)) (ids : List ℕ) → length ids ≡ 32 → k < 32 → Found list k skip ids →
    Found (map (λ (xs : List ℕ). x ∷ xs) list ++ rest) (suc k) skip (set ids (32 - suc k) x)
branch_found x k skip list rest ids e h f =
    let l = f.there in
    record {
      there = simp (length-append, length-map) (omega arith);
      same = drop_put k x ids e h ∙ ap (λ (ys : List ℕ). x ∷ ys) f.same ∙ sym (get_d_front x list rest skip l);
    }

-- Not among them: what is found in the rest after what is left to skip.
pub rest_found : (x k skip left : ℕ) (list rest : List (List ℕ)) (ids : List ℕ) → length list + left ≡ skip → Found rest k left ids →
    Found (map (λ (xs : List ℕ). x ∷ xs) list ++ rest) k skip ids
rest_found x k skip left list rest ids p f =
    let l = f.there in
    record {
      there = simp (length-append, length-map) (omega arith);
      same = f.same ∙ sym (ap (λ (n : ℕ). get_or (map (λ (xs : List ℕ). x ∷ xs) list ++ rest) n []) (sym p ∙ ap (λ (n : ℕ). n + left) (sym (length-map list (λ (xs : List ℕ). x ∷ xs)))) ∙ get_or-append-add (map (λ (xs : List ℕ). x ∷ xs) list) rest left []);
    }

-- Nor there.
pub rest_past : (x skip left less : ℕ) (list rest : List (List ℕ)) → length list + left ≡ skip → length rest + less ≡ left →
    length (map (λ (xs : List ℕ). x ∷ xs) list ++ rest) + less ≡ skip
rest_past x skip left less list rest p q = simp (length-append, length-map) (omega arith)
