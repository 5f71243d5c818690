-- In a list that rises, a member's place is how many members come before it.
use mathlib.Core.Bool.{Bool, true, false, ◌&&◌, ◌||◌}
use mathlib.Core.List.{List, [], ◌∷◌, Memᴰ}
use mathlib.Core.Path.{◌≡◌, refl, sym, ap, ◌∙◌}
use Prim.Native.Nat.{ℕ, zero, suc, ◌<◌}
use native.Mathlib.Omega.{arith}
use lib.Dec.{eqb, ltb}
use lib.ListN.{length, get_or}
use borrow.Author.Tests.{eqb-true, ltb-true, le-ltb, ne_eqb}
use Rattle.trail.specs.Trails.{before, count_before}
use Rattle.trail.proofs.Every.{Every, none, also, every_at, place, Rising, empty, first}
use Rattle.trail.proofs.Trails.{Before}

-- Of two sequences one at most comes before the other, and none before itself.
pub asymmetric : (xs ys : List ℕ) → before xs ys ≡ true → before ys xs ≡ false
unfolding before
asymmetric [] [] e = refl
asymmetric [] (y ∷ ys) e = refl
asymmetric (x ∷ xs) [] e = refl
asymmetric (x ∷ xs) (y ∷ ys) e = choose (ltb x y) (eqb x y) refl refl e (asymmetric xs ys)
  where
    choose : (b c : Bool) → ltb x y ≡ b → eqb x y ≡ c → (b || (c && before xs ys)) ≡ true → (before xs ys ≡ true → before ys xs ≡ false) → (ltb y x || (eqb y x && before ys xs)) ≡ false
    choose true c e f g h = let l : x < y = ltb-true _ _ e in rw (le-ltb y x (omega arith), ne_eqb y x (λ q. omega arith))
    choose false true e f g h = let q : x ≡ y = eqb-true _ _ f in rw (le-ltb y x (omega arith), h g) (and-false (eqb y x))
      where
        and-false : (b : Bool) → (b && false) ≡ false
        and-false true = refl
        and-false false = refl
    choose false false e f g h = absurd (let z : ◌≡◌ {A = ℕ} 0 1 = cc in omega arith)

irreflexive : (xs : List ℕ) → before xs xs ≡ false
irreflexive xs = choose (before xs xs) refl
  where
    choose : (b : Bool) → before xs xs ≡ b → before xs xs ≡ false
    choose true e = asymmetric xs xs e
    choose false e = e

count_none : (xs : List ℕ) {list : List (List ℕ)} → Every (λ ys. Before xs ys) list → count_before xs list ≡ 0
unfolding count_before
count_none xs none = refl
count_none xs (also {x = ys} h r) = let z = count_none xs r in rw (asymmetric xs ys h) (omega arith)

pub count_at : {list : List (List ℕ)} → Rising Before list → (i : ℕ) → i < length list → count_before (get_or list i []) list ≡ i
unfolding count_before
count_at empty i h = absurd (omega arith)
count_at (first {x = xs} {xs = list} f r) zero h = rw (irreflexive xs, count_none xs f)
count_at (first {x = xs} {xs = list} f r) (suc i) h =
    let g : before xs (get_or list i []) ≡ true = every_at [] f i (omega arith) in
    let c : count_before (get_or list i []) list ≡ i = count_at r i (omega arith) in
    rw g (omega arith)

-- A member stands at the place that says how many come before it.
pub at_count : {list : List (List ℕ)} {xs : List ℕ} → Rising Before list → Memᴰ xs list →
    (count_before xs list < length list) × (get_or list (count_before xs list) [] ≡ xs)
at_count {list} {xs} r m =
    let p = place [] m in
    let c : count_before xs list ≡ p.0 = ap (λ (ys : List ℕ). count_before ys list) (sym p.2) ∙ count_at r p.0 p.1 in
    let l : p.0 < length list = p.1 in
    (omega arith, ap (λ (i : ℕ). get_or list i []) c ∙ p.2)
