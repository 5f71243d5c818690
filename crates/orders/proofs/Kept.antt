-- Those of a list that pass a test.
use mathlib.Core.Bool.{Bool, true, false, cond, not, ◌&&◌, ◌||◌, and_comm, and-false}
use mathlib.Core.List.{List, [], ◌∷◌}
use mathlib.Core.Path.{◌≡◌, refl, sym, ap, ◌∙◌}
use Prim.Native.Nat.{suc, ◌≤◌}
use native.Mathlib.Omega.{arith}
use lib.ListN.{length}
use Rattle.shingle.proofs.Agreement.{agree_true, agree_self}
use Rattle.shingle.proofs.PairOrder.{and_true}
use Rattle.sketch.specs.Opening.{Signed}
use Rattle.sketch.proofs.NewList.{or_right}
use Rattle.orders.specs.Left.{alike, among, keep, not_taken}

-- The test for equal signed shingles decides.
same_sign : (t u : Bool) → cond t u (not u) ≡ true → t ≡ u
same_sign true u e = sym e
same_sign false true e = e
same_sign false false e = refl

pub alike_true : (a b : Signed) → alike a b ≡ true → a ≡ b
unfolding alike
alike_true a b e =
    let p = and_true (cond a.negative b.negative (not b.negative)) _ e in
    let sign = same_sign a.negative b.negative p.0 in
    let shingle = agree_true a.shingle b.shingle p.1 in
    λ i. record { negative = sign i; shingle = shingle i }

own_sign : (t : Bool) → cond t t (not t) ≡ true
own_sign true = refl
own_sign false = refl

pub alike_self : (a : Signed) → alike a a ≡ true
unfolding alike
alike_self a = rw (own_sign a.negative, agree_self a.shingle) refl

pub among_first : (z : Signed) (zs : List Signed) → among z (z ∷ zs) ≡ true
unfolding among
among_first z zs = rw (alike_self z) refl

-- Two tests one after the other.
pub keep-keep : (p r : Signed → Bool) (zs : List Signed) → keep p (keep r zs) ≡ keep (λ (z : Signed). r z && p z) zs
unfolding keep
keep-keep p r [] = refl
keep-keep p r (z ∷ zs) = go (r z) (keep-keep p r zs)
  where
    go : (t : Bool) → keep p (keep r zs) ≡ keep (λ (z : Signed). r z && p z) zs
        → keep p (cond t (z ∷ keep r zs) (keep r zs)) ≡ cond (t && p z) (z ∷ keep (λ (z : Signed). r z && p z) zs) (keep (λ (z : Signed). r z && p z) zs)
    go true ih = ap (λ (l : List Signed). cond (p z) (z ∷ l) l) ih
    go false ih = ih

pub keep_same : (p r : Signed → Bool) (zs : List Signed) → ((z : Signed) → p z ≡ r z) → keep p zs ≡ keep r zs
unfolding keep
keep_same p r [] e = refl
keep_same p r (z ∷ zs) e = λ i. cond (e z i) (z ∷ keep_same p r zs e i) (keep_same p r zs e i)

pub keep_swap : (p r : Signed → Bool) (zs : List Signed) → keep p (keep r zs) ≡ keep r (keep p zs)
keep_swap p r zs =
    keep-keep p r zs ∙ (keep_same (λ (z : Signed). r z && p z) (λ (z : Signed). p z && r z) zs (λ z. and_comm (r z) (p z)) ∙ sym (keep-keep r p zs))

-- Members.
pub among-keep : (z : Signed) (p : Signed → Bool) (zs : List Signed) → among z (keep p zs) ≡ (among z zs && p z)
unfolding keep among
among-keep z p [] = refl
among-keep z p (x ∷ zs) = go (p x) (alike z x) refl refl (among-keep z p zs)
  where
    same : {t : Bool} → p x ≡ t → alike z x ≡ true → p z ≡ t
    same e f = ap p (alike_true z x f) ∙ e

    go : (t u : Bool) → p x ≡ t → alike z x ≡ u → among z (keep p zs) ≡ (among z zs && p z)
        → among z (cond t (x ∷ keep p zs) (keep p zs)) ≡ ((u || among z zs) && p z)
    go true true e f ih = rw f (sym (same e f))
    go true false e f ih = rw f ih
    go false true e f ih = ih ∙ (ap (λ (t : Bool). among z zs && t) (same e f) ∙ (and-false (among z zs) ∙ sym (same e f)))
    go false false e f ih = ih

-- A test that all pass.
pub keep_all : (p : Signed → Bool) (zs : List Signed) → ((z : Signed) → among z zs ≡ true → p z ≡ true) → keep p zs ≡ zs
unfolding keep among
keep_all p [] h = refl
keep_all p (z ∷ zs) h =
    rw (h z (among_first z zs)) (ap (λ (l : List Signed). z ∷ l) (keep_all p zs (λ x e. h x (or_right (alike x z) e))))

pub keep_short : (p : Signed → Bool) (zs : List Signed) → length (keep p zs) ≤ length zs
unfolding keep
keep_short p [] = omega arith
keep_short p (z ∷ zs) = go (p z) (keep_short p zs)
  where
    go : (t : Bool) → length (keep p zs) ≤ length zs → length (cond t (z ∷ keep p zs) (keep p zs)) ≤ suc (length zs)
    go true h = omega arith
    go false h = omega arith

pub keep_full : (p : Signed → Bool) (zs : List Signed) → length zs ≤ length (keep p zs) → keep p zs ≡ zs
unfolding keep
keep_full p [] h = refl
keep_full p (z ∷ zs) h = go (p z) h (keep_full p zs)
  where
    go : (t : Bool) → suc (length zs) ≤ length (cond t (z ∷ keep p zs) (keep p zs)) → (length zs ≤ length (keep p zs) → keep p zs ≡ zs)
        → cond t (z ∷ keep p zs) (keep p zs) ≡ z ∷ zs
    go true h ih = ap (λ (l : List Signed). z ∷ l) (ih (omega arith))
    go false h ih = absurd (omega (arith, keep_short p zs))

-- Each is what passes of the other: they are the same.
pub keep_both : (p r : Signed → Bool) (a b : List Signed) → a ≡ keep p b → b ≡ keep r a → a ≡ b
keep_both p r a b e f =
    let m = ap length e in
    let n = ap length f in
    e ∙ keep_full p b (omega (arith, m, n, keep_short p b, keep_short r a))

-- What was not taken.
not_or : (t u : Bool) → not (t || u) ≡ (not (t || false) && not u)
not_or true u = refl
not_or false u = refl

pub not_taken_cons : (z : Signed) (ts zs : List Signed) → not_taken (z ∷ ts) zs ≡ not_taken ts (not_taken (z ∷ []) zs)
unfolding among
not_taken_cons z ts zs =
    keep_same (λ (x : Signed). not (among x (z ∷ ts))) (λ (x : Signed). not (among x (z ∷ [])) && not (among x ts)) zs (λ x. not_or (alike x z) (among x ts))
    ∙ sym (keep-keep (λ (x : Signed). not (among x ts)) (λ (x : Signed). not (among x (z ∷ []))) zs)

pub not_taken_none : (zs : List Signed) → not_taken [] zs ≡ zs
unfolding among
not_taken_none zs = keep_all (λ (x : Signed). not (among x [])) zs (λ x e. refl)

-- Whether z is among others than itself.
pub alike_one : (x z : Signed) → alike x z ≡ false → not (among x (z ∷ [])) ≡ true
unfolding among
alike_one x z e = rw e refl

pub one_alike : (z : Signed) → not (among z (z ∷ [])) ≡ false
one_alike z = ap not (among_first z [])

-- Lists with a first.
abbrev first_of : Signed → List Signed → Signed
first_of d [] = d
first_of d (x ∷ xs) = x

abbrev rest_of : List Signed → List Signed
rest_of [] = []
rest_of (x ∷ xs) = xs

pub same_first : {x y : Signed} {xs ys : List Signed} → x ∷ xs ≡ y ∷ ys → x ≡ y
same_first {x} e = ap (first_of x) e

pub same_rest : {x y : Signed} {xs ys : List Signed} → x ∷ xs ≡ y ∷ ys → xs ≡ ys
same_rest e = ap rest_of e
