-- What holds of every member of a list, and of every two members in their order.
use mathlib.Core.List.{List, [], ◌∷◌, ◌++◌, map, Memᴰ}
use mathlib.Core.Path.{◌≡◌, refl, sym, subst}
use Prim.Native.Nat.{ℕ, zero, suc, ◌<◌}
use native.Mathlib.Omega.{arith}
use lib.ListN.{length, get_or}

module _ {A : Type 0} where
  pub data Every (P : A → Type 0) : List A → Type 0 where
    none : Every P []
    also : {x : A} {xs : List A} → P x → Every P xs → Every P (x ∷ xs)

  pub every_append : {P : A → Type 0} {xs ys : List A} → Every P xs → Every P ys → Every P (xs ++ ys)
  every_append none h = h
  every_append (also p r) h = also p (every_append r h)

  pub weaken : {P Q : A → Type 0} {xs : List A} → ((x : A) → P x → Q x) → Every P xs → Every Q xs
  weaken f none = none
  weaken f (also {x = x} p r) = also (f x p) (weaken f r)

  pub every_at : {P : A → Type 0} {xs : List A} (d : A) → Every P xs → (i : ℕ) → i < length xs → P (get_or xs i d)
  every_at d none i h = absurd (omega arith)
  every_at d (also p r) zero h = p
  every_at d (also p r) (suc i) h = every_at d r i (omega arith)

  pub every_member : {P : A → Type 0} {xs : List A} {x : A} → Every P xs → Memᴰ x xs → P x
  every_member none m = elim m [ ]
  every_member {P = P} (also p r) (Memᴰ.head e) = subst P (sym e) p
  every_member (also p r) (Memᴰ.tail m) = every_member r m

  pub no_member : {P : A → Type 0} {xs : List A} → ((x : A) → P x → ⊥) → Every P xs → xs ≡ []
  no_member f none = refl
  no_member f (also {x = x} p r) = absurd (f x p)

  -- Each member stands in the relation R to every later one.
  pub data Rising (R : A → A → Type 0) : List A → Type 0 where
    empty : Rising R []
    first : {x : A} {xs : List A} → Every (λ y. R x y) xs → Rising R xs → Rising R (x ∷ xs)

  pub rising_append : {R : A → A → Type 0} {xs ys : List A} → Rising R xs → Rising R ys → Every (λ x. Every (λ y. R x y) ys) xs → Rising R (xs ++ ys)
  rising_append empty s h = s
  rising_append (first f r) s (also p h) = first (every_append f p) (rising_append r s h)

  -- The place of a member.
  pub place : {x : A} {xs : List A} (d : A) → Memᴰ x xs → (i : ℕ) × (i < length xs) × (get_or xs i d ≡ x)
  place d (Memᴰ.head e) = (zero, omega arith, sym e)
  place d (Memᴰ.tail {xs = xs} m) = let p = place d m in let h : p.0 < length xs = p.1 in (suc p.0, omega arith, p.2)

module _ {A B : Type 0} where
  pub every_map : {P : B → Type 0} (f : A → B) {xs : List A} → Every (λ x. P (f x)) xs → Every P (map f xs)
  every_map f none = none
  every_map f (also p r) = also p (every_map f r)

  pub rising_map : {R : A → A → Type 0} {S : B → B → Type 0} (f : A → B) → ((x y : A) → R x y → S (f x) (f y)) → {xs : List A} → Rising R xs → Rising S (map f xs)
  rising_map f g empty = empty
  rising_map f g (first {x = x} h r) = first (every_map f (weaken (λ y. g x y) h)) (rising_map f g r)

module _ {A : Type 0} where
  pub rising_at : {R : A → A → Type 0} {xs : List A} (d : A) → Rising R xs → (i j : ℕ) → i < j → j < length xs → R (get_or xs i d) (get_or xs j d)
  rising_at d empty i j h l = absurd (omega arith)
  rising_at d (first f r) i zero h l = absurd (omega arith)
  rising_at d (first f r) zero (suc j) h l = every_at d f j (omega arith)
  rising_at d (first f r) (suc i) (suc j) h l = rising_at d r i j (omega arith) (omega arith)
