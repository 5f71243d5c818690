-- What the tests of a list say, from their answers at each place of its table.
use mathlib.Core.Bool.{Bool, not}
use mathlib.Core.List.{List}
use mathlib.Core.Path.{◌≡◌, refl}
use Prim.Native.Nat.{ℕ, ◌+◌}
use Rattle.shingle.specs.declared.Shingle.{Shingle}
use Rattle.shingle.specs.Table.{shingle_in_table, shingles_in, holds}
use Rattle.sketch.specs.Opening.{no_shingle_twice, all_held, none_held}
use Rattle.opening.proofs.Scanning.{Asked, at_places}
use lib.ListN.{length, drop}

module _ (t : List ℕ) (n : ℕ) (size : n ≡ length (shingles_in t)) (r : Bool) where
  pub twice_asked : Asked n r (λ k. not (holds (shingle_in_table t k) (drop (k + 1) (shingles_in t)))) → r ≡ no_shingle_twice (shingles_in t)
  unfolding no_shingle_twice
  twice_asked = at_places no_shingle_twice (λ s ss. not (holds s ss)) refl (λ s ss. refl) t n size r

  pub all_asked : (own : List Shingle) → Asked n r (λ k. holds (shingle_in_table t k) own) → r ≡ all_held own (shingles_in t)
  unfolding all_held
  all_asked own = at_places (all_held own) (λ s ss. holds s own) refl (λ s ss. refl) t n size r

  pub none_asked : (own : List Shingle) → Asked n r (λ k. not (holds (shingle_in_table t k) own)) → r ≡ none_held own (shingles_in t)
  unfolding none_held
  none_asked own = at_places (none_held own) (λ s ss. not (holds s own)) refl (λ s ss. refl) t n size r
