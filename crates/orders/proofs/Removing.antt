-- Taking the one shingle that lies in a cell leaves the cells of the others.
use mathlib.Core.Bool.{Bool, true, false, cond, not, ◌&&◌}
use mathlib.Core.List.{List, [], ◌∷◌, ◌++◌}
use mathlib.Core.Path.{◌≡◌, refl, sym, ap, ◌∙◌}
use Prim.Native.Nat.{ℕ, ◌+◌, ◌*◌, ◌%◌, ◌^◌}
use native.Mathlib.Omega.{arith}
use lib.ListN.{length}
use Rattle.entries.proofs.Linear.{both}
use Rattle.shingle.proofs.PairOrder.{and_true}
use Rattle.sketch.specs.Sums.{sum_at}
use Rattle.sketch.specs.Opening.{Signed, signed_parts, all_signed, signed_cells, lies_in, without}
use Rattle.sketch.proofs.Sums.{sum_append, same_sums}
use Rattle.sketch.proofs.Difference.{remove_one}
use Rattle.orders.specs.Left.{alike, among, keep, not_taken, lying_in}
use Rattle.orders.proofs.Kept.{alike_true, among_first, among-keep, keep_all, alike_one, one_alike, same_first, same_rest}

-- What is left without z.
abbrev pub less : Signed → List Signed → List Signed
less z zs = not_taken (z ∷ []) zs

-- The order of two shingles does not matter.
swapped : (q k : ℕ) (x z : Signed) (zs ws : List Signed) → sum_at k (all_signed q zs) ≡ sum_at k (all_signed q (z ∷ ws))
    → sum_at k (all_signed q (x ∷ zs)) ≡ sum_at k (all_signed q (z ∷ x ∷ ws))
unfolding all_signed
swapped q k x z zs ws e =
    let a = sum_append k (signed_parts q x) (all_signed q zs) in
    let b = sum_append k (signed_parts q z) (all_signed q ws) in
    let c = sum_append k (signed_parts q z) (signed_parts q x ++ all_signed q ws) in
    let d = sum_append k (signed_parts q x) (all_signed q ws) in
    omega (arith, a, b, c, d, e)

-- The shingle that lies alone in a cell is one of those left, and lies there.
module _ (q i : ℕ) (z : Signed) where
  pub alone_there : (zs : List Signed) → lying_in q i zs ≡ z ∷ [] → (among z zs ≡ true) × (lies_in q i z.shingle ≡ true)
  alone_there zs e =
      and_true (among z zs) (lies_in q i z.shingle)
      (sym (among-keep z (λ (x : Signed). lies_in q i x.shingle) zs) ∙ (ap (among z) e ∙ among_first z []))

  module _ (lies : lies_in q i z.shingle ≡ true) where
    -- Where none lies in the cell, z is not there.
    untouched : (zs : List Signed) → lying_in q i zs ≡ [] → less z zs ≡ zs
    untouched zs e = keep_all (λ (x : Signed). not (among x (z ∷ []))) zs (λ x there. go x there (alike x z) refl)
      where
        go : (x : Signed) → among x zs ≡ true → (t : Bool) → alike x z ≡ t → not (among x (z ∷ [])) ≡ true
        go x there false f = alike_one x z f
        go x there true f =
            let same = alike_true x z f in
            let lies-there : (among x zs && lies_in q i x.shingle) ≡ true = rw (there, same, lies) refl in
            absurd (both (sym (ap (among x) e) ∙ (among-keep x (λ (y : Signed). lies_in q i y.shingle) zs ∙ lies-there)) (unfold among in refl))

    -- The sums without z.
    split_off : (k : ℕ) (zs : List Signed) → lying_in q i zs ≡ z ∷ [] → sum_at k (all_signed q zs) ≡ sum_at k (all_signed q (z ∷ less z zs))
    unfolding keep
    split_off k [] e = let n = ap length e in absurd (omega (arith, n))
    split_off k (x ∷ zs) e = go (lies_in q i x.shingle) refl e (split_off k zs)
      where
        go : (t : Bool) → lies_in q i x.shingle ≡ t → cond t (x ∷ lying_in q i zs) (lying_in q i zs) ≡ z ∷ []
            → (lying_in q i zs ≡ z ∷ [] → sum_at k (all_signed q zs) ≡ sum_at k (all_signed q (z ∷ less z zs)))
            → sum_at k (all_signed q (x ∷ zs)) ≡ sum_at k (all_signed q (z ∷ cond (not (among x (z ∷ []))) (x ∷ less z zs) (less z zs)))
        go true f g ih =
            let same = same_first g in
            rw (same, one_alike z, untouched zs (same_rest g)) refl
        go false f g ih =
            let other : alike x z ≡ false = apart (alike x z) refl in
            rw (alike_one x z other) (swapped q k x z zs (less z zs) (ih g))
          where
            apart : (t : Bool) → alike x z ≡ t → t ≡ false
            apart true h = absurd (both (ap (λ (y : Signed). lies_in q i y.shingle) (alike_true x z h) ∙ lies) f)
            apart false h = refl

    -- Taking z leaves the cells of the others.
    pub removed : (zs : List Signed) → lying_in q i zs ≡ z ∷ [] → without q z (signed_cells q zs) ≡ signed_cells q (less z zs)
    unfolding signed_cells
    removed zs e =
        ap (without q z) (same_sums (q * 15) (all_signed q zs) (all_signed q (z ∷ less z zs)) (λ k. ap (λ (n : ℕ). n % 2 ^ 64) (split_off k zs e)))
        ∙ remove_one q z (less z zs)
