-- Whether the sketch opens, asked of the shingles taken with each sign apart and of the new list before it is sorted.
use mathlib.Core.Bool.{Bool, true, false, cond, not, ◌&&◌, ◌||◌}
use mathlib.Core.List.{List, [], ◌∷◌, ◌++◌}
use mathlib.Core.Path.{◌≡◌, refl, sym, ap, ap₂, ◌∙◌}
use Prim.Native.Nat.{ℕ, ◌+◌}
use lib.Dec.{leb}
use lib.ListN.{length}
use Rattle.entries.proofs.Linear.{both}
use Rattle.shingle.specs.declared.Shingle.{Shingle}
use Rattle.shingle.specs.Table.{agree, holds}
use Rattle.shingle.proofs.Agreement.{agree_true}
use Rattle.shingle.proofs.PairOrder.{and_true}
use Rattle.sketch.specs.Opening.{Signed, Peeled, positives, negatives, shingles_of, no_shingle_twice, all_held, none_held}
use Rattle.sketch.specs.Opening.{kept, renewed, new_list, no_pair_twice, all_zero, opens_to}
use Rattle.sketch.proofs.NewList.{or_swap, or_assoc, and_not, not_true}
use Rattle.pairs.specs.Once.{few_once}
use Rattle.pairs.proofs.Twice.{twice_sort}
use Rattle.opening.specs.Steps.{opens_with}
use Rattle.opening.proofs.Outcome.{renewed-length}
use Rattle.opening.proofs.Apart.{all_own, once_pairs, later_once, none_gone}

-- What is in a list of which none is in the own list.
none_own : (own ss : List Shingle) (x : Shingle) → none_held own ss ≡ true → holds x ss ≡ true → holds x own ≡ false
unfolding none_held holds
none_own own [] x a h = absurd (both h refl)
none_own own (s ∷ ss) x a h =
    let tests = and_true (not (holds s own)) (none_held own ss) a in
    go (agree x s) refl h (not_true (holds s own) tests.0) (none_own own ss x tests.1)
  where
    go : (t : Bool) → agree x s ≡ t → (t || holds x ss) ≡ true → holds s own ≡ false → (holds x ss ≡ true → holds x own ≡ false) → holds x own ≡ false
    go true e f here rest = ap (λ (y : Shingle). holds y own) (agree_true x s e) ∙ here
    go false e f here rest = rest f

-- In the own list, so not among the positive ones; not in it, so not among the negative ones.
not_positive : (own new : List Shingle) (x : Shingle) → none_held own new ≡ true → holds x own ≡ true → holds x new ≡ false
not_positive own new x a h = go (holds x new) refl
  where
    go : (t : Bool) → holds x new ≡ t → holds x new ≡ false
    go true e = absurd (both h (none_own own new x a e))
    go false e = e

not_negative : (own gone : List Shingle) (x : Shingle) → all_held own gone ≡ true → holds x own ≡ false → holds x gone ≡ false
not_negative own gone x a h = go (holds x gone) refl
  where
    go : (t : Bool) → holds x gone ≡ t → holds x gone ≡ false
    go true e = absurd (both (all_own own gone x a e) h)
    go false e = e

-- What was taken, whatever its sign.
pub holds_taken : (x : Shingle) (zs : List Signed) → holds x (shingles_of zs) ≡ (holds x (positives zs) || holds x (negatives zs))
unfolding shingles_of positives negatives holds
holds_taken x [] = refl
holds_taken x (z ∷ zs) = go z.negative (holds_taken x zs)
  where
    go : (t : Bool) → holds x (shingles_of zs) ≡ (holds x (positives zs) || holds x (negatives zs))
        → (agree x z.shingle || holds x (shingles_of zs))
        ≡ (holds x (cond t (positives zs) (z.shingle ∷ positives zs)) || holds x (cond t (z.shingle ∷ negatives zs) (negatives zs)))
    go true ih =
        ap (λ (t : Bool). agree x z.shingle || t) ih ∙ or_swap (agree x z.shingle) (holds x (positives zs)) (holds x (negatives zs))
    go false ih =
        ap (λ (t : Bool). agree x z.shingle || t) ih ∙ or_assoc (agree x z.shingle) (holds x (positives zs)) (holds x (negatives zs))

and_swap : (t u v : Bool) → (t && (u && v)) ≡ (u && (t && v))
and_swap true true v = refl
and_swap true false v = refl
and_swap false true v = refl
and_swap false false v = refl

and_assoc : (t u v : Bool) → (t && (u && v)) ≡ ((t && u) && v)
and_assoc true u v = refl
and_assoc false u v = refl

or_none : (t : Bool) {u : Bool} → u ≡ false → (t || u) ≡ t
or_none true e = refl
or_none false e = e

-- "no shingle was taken twice", of each sign apart, where "negative ones are in the own list, positive ones are not".
pub signs_apart : (own : List Shingle) (zs : List Signed) → all_held own (negatives zs) ≡ true → none_held own (positives zs) ≡ true
    → no_shingle_twice (shingles_of zs) ≡ (no_shingle_twice (positives zs) && no_shingle_twice (negatives zs))
unfolding shingles_of positives negatives all_held none_held no_shingle_twice
signs_apart own [] a b = refl
signs_apart own (z ∷ zs) a b = go z.negative a b (λ i o. signs_apart own zs i o)
  where
    go : (t : Bool) → all_held own (cond t (z.shingle ∷ negatives zs) (negatives zs)) ≡ true
        → none_held own (cond t (positives zs) (z.shingle ∷ positives zs)) ≡ true
        → (all_held own (negatives zs) ≡ true → none_held own (positives zs) ≡ true
        → no_shingle_twice (shingles_of zs) ≡ (no_shingle_twice (positives zs) && no_shingle_twice (negatives zs)))
        → (not (holds z.shingle (shingles_of zs)) && no_shingle_twice (shingles_of zs))
        ≡ (no_shingle_twice (cond t (positives zs) (z.shingle ∷ positives zs)) && no_shingle_twice (cond t (z.shingle ∷ negatives zs) (negatives zs)))
    go true a b rest =
        let tests = and_true (holds z.shingle own) (all_held own (negatives zs)) a in
        let here : holds z.shingle (shingles_of zs) ≡ holds z.shingle (negatives zs) =
        holds_taken z.shingle zs
        ∙ ap (λ (t : Bool). t || holds z.shingle (negatives zs)) (not_positive own (positives zs) z.shingle b tests.0) in
        ap₂ (λ (t u : Bool). not t && u) here (rest tests.1 b)
        ∙ and_swap (not (holds z.shingle (negatives zs))) (no_shingle_twice (positives zs)) (no_shingle_twice (negatives zs))
    go false a b rest =
        let tests = and_true (not (holds z.shingle own)) (none_held own (positives zs)) b in
        let away = not_negative own (negatives zs) z.shingle a (not_true (holds z.shingle own) tests.0) in
        let here : holds z.shingle (shingles_of zs) ≡ holds z.shingle (positives zs) =
        holds_taken z.shingle zs ∙ or_none (holds z.shingle (positives zs)) away in
        ap₂ (λ (t u : Bool). not t && u) here (rest a tests.1)
        ∙ and_assoc (not (holds z.shingle (positives zs))) (no_shingle_twice (positives zs)) (no_shingle_twice (negatives zs))

-- The second test counts only where the others hold.
one_test : (a t t' i o l q : Bool) → (i ≡ true → o ≡ true → q ≡ true → t ≡ t')
    → (a && (t && (i && (o && (l && q))))) ≡ (a && (t' && (i && (o && (l && q)))))
one_test a t t' true true l true e = ap (λ (u : Bool). a && (u && (l && true))) (e refl refl refl)
one_test a t t' true true l false e =
    ap (λ (u : Bool). a && (t && u)) (and_not l)
    ∙ (ap (λ (u : Bool). a && u) (and_not t ∙ sym (and_not t')) ∙ ap (λ (u : Bool). a && (t' && u)) (sym (and_not l)))
one_test a t t' true false l q e = ap (λ (u : Bool). a && u) (and_not t ∙ sym (and_not t'))
one_test a t t' false o l q e = ap (λ (u : Bool). a && u) (and_not t ∙ sym (and_not t'))

-- So does the fourth.
other_test : (a t i o o' l q : Bool) → (i ≡ true → q ≡ true → o ≡ o')
    → (a && (t && (i && (o && (l && q))))) ≡ (a && (t && (i && (o' && (l && q)))))
other_test a t true o o' l true e = ap (λ (u : Bool). a && (t && (u && (l && true)))) (e refl refl)
other_test a t true o o' l false e =
    ap (λ (u : Bool). a && (t && (o && u))) (and_not l)
    ∙ (ap (λ (u : Bool). a && (t && u)) (and_not o ∙ sym (and_not o')) ∙ ap (λ (u : Bool). a && (t && (o' && u))) (sym (and_not l)))
other_test a t false o o' l q e = refl

-- The sketch opens exactly when the tests with each sign apart say so.
pub opens_apart : (own : List Shingle) (p : Peeled) → opens_to own p ≡ opens_with (all_zero p.left) (positives p.taken) (negatives p.taken) own
unfolding opens_to opens_with few_once new_list renewed
opens_apart own p =
    let zs = p.taken in
    let new = positives zs in
    let gone = negatives zs in
    let all = kept gone own ++ new in
    let few = leb (length (kept gone own) + length new) 4096 in
    let size : leb (length (renewed own gone new)) 4096 ≡ few = ap (λ (n : ℕ). leb n 4096) (renewed-length own gone new) in
    ap₂ (λ (l q : Bool). all_zero p.left && (no_shingle_twice (shingles_of zs) && (all_held own gone && (none_held own new && (l && q))))) size (twice_sort all)
    ∙ (one_test (all_zero p.left) (no_shingle_twice (shingles_of zs)) (no_shingle_twice gone) (all_held own gone) (none_held own new) few (no_pair_twice all)
    (λ i o q. signs_apart own zs i o ∙ ap (λ (t : Bool). t && no_shingle_twice gone) (once_pairs new (later_once (kept gone own) new q)))
    ∙ other_test (all_zero p.left) (no_shingle_twice gone) (all_held own gone) (none_held own new) (none_held gone new) few (no_pair_twice all)
    (λ i q. none_gone own gone new i q))
