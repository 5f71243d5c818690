-- The ids of a list in rising order: strictly rising, with every id of the list.
use mathlib.Core.Bool.{Bool, true, false, cond}
use mathlib.Core.List.Memᴰ
use mathlib.Core.List.{List, [], ◌∷◌, Memᴰ}
use mathlib.Core.Path.{◌≡◌, refl}
use Prim.Native.Nat.{ℕ, ◌<◌}
use native.Mathlib.Omega.{arith}
use lib.Dec.{ltb}
use borrow.Author.Tests.{ltb-true, ltb-false}
use Rattle.trail.specs.Trails.{insert, rising}
use Rattle.trail.proofs.Every.{Every, none, also, weaken, Rising, empty, first}

abbrev pub Up : List ℕ → Type 0
Up = Rising (λ x y. x < y)

every_insert : {P : ℕ → Type 0} (x : ℕ) {ys : List ℕ} → P x → Every P ys → Every P (insert x ys)
unfolding insert
every_insert x p none = also p none
every_insert {P} x p (also {x = y} {xs = ys} q h) = choose (ltb x y) (ltb y x) (every_insert x p h)
  where
    choose : (b c : Bool) → Every P (insert x ys) → Every P (cond b (x ∷ y ∷ ys) (y ∷ cond c (insert x ys) ys))
    choose true c r = also p (also q h)
    choose false true r = also q r
    choose false false r = also q h

insert_up : (x : ℕ) {ys : List ℕ} → Up ys → Up (insert x ys)
unfolding insert
insert_up x empty = first none empty
insert_up x (first {x = y} {xs = ys} h r) = choose (ltb x y) (ltb y x) refl refl (insert_up x r)
  where
    choose : (b c : Bool) → ltb x y ≡ b → ltb y x ≡ c → Up (insert x ys) → Up (cond b (x ∷ y ∷ ys) (y ∷ cond c (insert x ys) ys))
    choose true c e f s = let l : x < y = ltb-true _ _ e in first (also l (weaken (λ z m. omega arith) h)) (first h r)
    choose false true e f s = first (every_insert x (ltb-true _ _ f) h) s
    choose false false e f s = first h r

pub rising_up : (xs : List ℕ) → Up (rising xs)
unfolding rising
rising_up [] = empty
rising_up (x ∷ xs) = insert_up x (rising_up xs)

pub every_rising : {P : ℕ → Type 0} {xs : List ℕ} → Every P xs → Every P (rising xs)
unfolding rising
every_rising none = none
every_rising (also {x = x} p h) = every_insert x p (every_rising h)

insert_has : (x : ℕ) (ys : List ℕ) → Memᴰ x (insert x ys)
unfolding insert
insert_has x [] = Memᴰ.head refl
insert_has x (y ∷ ys) = choose (ltb x y) (ltb y x) refl refl (insert_has x ys)
  where
    choose : (b c : Bool) → ltb x y ≡ b → ltb y x ≡ c → Memᴰ x (insert x ys) → Memᴰ x (cond b (x ∷ y ∷ ys) (y ∷ cond c (insert x ys) ys))
    choose true c e f s = Memᴰ.head refl
    choose false true e f s = Memᴰ.tail s
    choose false false e f s = let same : x ≡ y = omega (arith, ltb-false x y e, ltb-false y x f) in Memᴰ.head same

insert_keeps : {z : ℕ} (x : ℕ) {ys : List ℕ} → Memᴰ z ys → Memᴰ z (insert x ys)
unfolding insert
insert_keeps {z} x (Memᴰ.head {x = y} {xs = ys} e) = choose (ltb x y) (ltb y x)
  where
    choose : (b c : Bool) → Memᴰ z (cond b (x ∷ y ∷ ys) (y ∷ cond c (insert x ys) ys))
    choose true c = Memᴰ.tail (Memᴰ.head e)
    choose false c = Memᴰ.head e
insert_keeps {z} x (Memᴰ.tail {x = y} {xs = ys} m) = choose (ltb x y) (ltb y x) (insert_keeps x m)
  where
    choose : (b c : Bool) → Memᴰ z (insert x ys) → Memᴰ z (cond b (x ∷ y ∷ ys) (y ∷ cond c (insert x ys) ys))
    choose true c s = Memᴰ.tail (Memᴰ.tail m)
    choose false true s = Memᴰ.tail s
    choose false false s = Memᴰ.tail m

pub rising_has : {z : ℕ} {xs : List ℕ} → Memᴰ z xs → Memᴰ z (rising xs)
unfolding rising
rising_has (Memᴰ.head {xs = xs} e) = Memᴰ.cast e (insert_has _ (rising xs))
rising_has (Memᴰ.tail {x = x} m) = insert_keeps x (rising_has m)
