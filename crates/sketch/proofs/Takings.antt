-- If no shingle was taken twice, whatever its sign, none was taken twice as positive.
use Rattle.std.proofs.Common.{◌≡◌, Bool, true, false, cond, not, ◌||◌, List, [], ◌∷◌, refl}
use Rattle.entries.proofs.Linear.{both}
use Rattle.shingle.specs.declared.Shingle.{Shingle}
use Rattle.shingle.specs.Table.{agree, holds}
use Rattle.shingle.proofs.PairOrder.{and_true}
use Rattle.sketch.specs.Opening.{Signed, positives, shingles_of, no_shingle_twice}

-- A shingle that was not taken was not taken as positive.
not_positive : (s : Shingle) (zs : List Signed) → not (holds s (shingles_of zs)) ≡ true → not (holds s (positives zs)) ≡ true
unfolding holds shingles_of positives
not_positive s [] e = refl
not_positive s (z ∷ zs) e = go z.negative (agree s z.shingle) refl e (λ f. not_positive s zs f)
  where
    go : (t u : Bool) → agree s z.shingle ≡ u → not (u || holds s (shingles_of zs)) ≡ true
        → (not (holds s (shingles_of zs)) ≡ true → not (holds s (positives zs)) ≡ true)
        → not (holds s (cond t (positives zs) (z.shingle ∷ positives zs))) ≡ true
    go t true f e ih = absurd (both e refl)
    go true false f e ih = ih e
    go false false f e ih = rw f (ih e)

pub positives_once : (zs : List Signed) → no_shingle_twice (shingles_of zs) ≡ true → no_shingle_twice (positives zs) ≡ true
unfolding no_shingle_twice shingles_of positives
positives_once [] e = refl
positives_once (z ∷ zs) e =
    go z.negative (and_true (not (holds z.shingle (shingles_of zs))) (no_shingle_twice (shingles_of zs)) e) (λ f. positives_once zs f)
  where
    go : (t : Bool) → (not (holds z.shingle (shingles_of zs)) ≡ true) × (no_shingle_twice (shingles_of zs) ≡ true)
        → (no_shingle_twice (shingles_of zs) ≡ true → no_shingle_twice (positives zs) ≡ true) → no_shingle_twice (cond t (positives zs) (z.shingle ∷ positives zs)) ≡ true
    go true p ih = ih p.1
    go false p ih = rw (not_positive z.shingle zs p.0) (ih p.1)
