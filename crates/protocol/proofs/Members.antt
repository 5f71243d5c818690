-- Claims on some and on all members of a list.
use mathlib.Core.List.{List, [], ◌∷◌, ◌++◌}
use mathlib.Core.Logic.{◌⊎◌, inl, inr, ⊎_elim}
use mathlib.Core.Path.{◌≡◌, subst}
use Rattle.protocol.specs.Calls.{Every, Some}

module _ {A : Type 0} where
  pub some_left : (P : A → Type 0) (xs ys : List A) → Some P xs → Some P (xs ++ ys)
  unfolding Some
  some_left P [] ys h = absurd h
  some_left P (x ∷ xs) ys h = ⊎_elim (λ p. inl p) (λ t. inr (some_left P xs ys t)) h

  pub some_right : (P : A → Type 0) (xs ys : List A) → Some P ys → Some P (xs ++ ys)
  unfolding Some
  some_right P [] ys h = h
  some_right P (x ∷ xs) ys h = inr (some_right P xs ys h)

  pub some_either : (P : A → Type 0) (xs ys : List A) → Some P (xs ++ ys) → Some P xs ⊎ Some P ys
  unfolding Some
  some_either P [] ys h = inr h
  some_either P (x ∷ xs) ys h = ⊎_elim (λ p. inl (inl p)) (λ t. ⊎_elim (λ g. inl (inr g)) (λ g. inr g) (some_either P xs ys t)) h

  pub every_map : {P Q : A → Type 0} (xs : List A) → ((x : A) → P x → Q x) → Every P xs → Every Q xs
  unfolding Every
  every_map [] f h = tt
  every_map (x ∷ xs) f h = (f x h.0, every_map xs f h.1)

  pub every_append : (P : A → Type 0) (xs ys : List A) → Every P xs → Every P ys → Every P (xs ++ ys)
  unfolding Every
  every_append P [] ys h g = g
  every_append P (x ∷ xs) ys h g = (h.0, every_append P xs ys h.1 g)

  -- What holds of every member holds of the one that is in the list.
  pub every_in : (P : A → Type 0) (xs : List A) (a : A) → Every P xs → Some (λ (x : A). x ≡ a) xs → P a
  unfolding Every Some
  every_in P [] a h i = absurd i
  every_in P (x ∷ xs) a h i = ⊎_elim (λ e. subst P e h.0) (λ t. every_in P xs a h.1 t) i
