-- Signed shingles: their members as positive and as negative, and lists of them that have no shingle twice, whatever its sign.
use mathlib.Core.Bool.{Bool, true, false, cond, not, ◌&&◌, ◌||◌}
use mathlib.Core.List.{List, [], ◌∷◌}
use mathlib.Core.Path.{◌≡◌, refl, sym, ap, ap₂, ◌∙◌}
use Prim.Native.Nat.{ℕ}
use Rattle.entries.proofs.Linear.{both}
use Rattle.shingle.specs.declared.Shingle.{Shingle}
use Rattle.shingle.specs.Table.{agree, holds}
use Rattle.shingle.proofs.Agreement.{agree_true}
use Rattle.shingle.proofs.PairOrder.{and_true}
use Rattle.sketch.specs.Opening.{Signed, signed, positives, negatives, shingles_of, no_shingle_twice}
use Rattle.sketch.proofs.NewList.{or_right, not_true}
use Rattle.opening.proofs.Verdict.{holds_taken}
use Rattle.orders.specs.Left.{alike, among, keep}
use Rattle.orders.proofs.Kept.{alike_true, alike_self, among-keep, one_alike, alike_one}
use Rattle.orders.proofs.Removing.{less, alone_there}
use Rattle.orders.proofs.Along.{Truly}
use Rattle.orders.proofs.Ends.{taken_there}

-- Signed shingles and their shingles.
alike-agree : (a b : Signed) → alike a b ≡ true → agree a.shingle b.shingle ≡ true
unfolding alike
alike-agree a b e = (and_true (cond a.negative b.negative (not b.negative)) (agree a.shingle b.shingle) e).1

pub among-holds : (z : Signed) (zs : List Signed) → among z zs ≡ true → holds z.shingle (shingles_of zs) ≡ true
unfolding among holds shingles_of
among-holds z [] e = e
among-holds z (x ∷ zs) e = go (alike z x) refl e (among-holds z zs)
  where
    go : (t : Bool) → alike z x ≡ t → (t || among z zs) ≡ true → (among z zs ≡ true → holds z.shingle (shingles_of zs) ≡ true)
        → (agree z.shingle x.shingle || holds z.shingle (shingles_of zs)) ≡ true
    go true f g ih = rw (alike-agree z x f) refl
    go false f g ih = or_right (agree z.shingle x.shingle) (ih g)

pub holds-positives : (s : Shingle) (zs : List Signed) → holds s (positives zs) ≡ among (signed false s) zs
unfolding among holds positives alike
holds-positives s [] = refl
holds-positives s (x ∷ zs) = go x.negative (holds-positives s zs)
  where
    go : (t : Bool) → holds s (positives zs) ≡ among (signed false s) zs
        → holds s (cond t (positives zs) (x.shingle ∷ positives zs)) ≡ ((not t && agree s x.shingle) || among (signed false s) zs)
    go true ih = ih
    go false ih = ap (λ (b : Bool). agree s x.shingle || b) ih

pub holds-negatives : (s : Shingle) (zs : List Signed) → holds s (negatives zs) ≡ among (signed true s) zs
unfolding among holds negatives alike
holds-negatives s [] = refl
holds-negatives s (x ∷ zs) = go x.negative (holds-negatives s zs)
  where
    go : (t : Bool) → holds s (negatives zs) ≡ among (signed true s) zs
        → holds s (cond t (x.shingle ∷ negatives zs) (negatives zs)) ≡ ((t && agree s x.shingle) || among (signed true s) zs)
    go true ih = ap (λ (b : Bool). agree s x.shingle || b) ih
    go false ih = ih

-- A shingle is held with one sign or the other.
holds_signs : (s : Shingle) (zs : List Signed) → holds s (shingles_of zs) ≡ (among (signed false s) zs || among (signed true s) zs)
holds_signs s zs = holds_taken s zs ∙ ap₂ (λ (t u : Bool). t || u) (holds-positives s zs) (holds-negatives s zs)

-- Of signed shingles none of which comes twice, a part.
holds_sub : (s : Shingle) (a b : List Signed) → ((z : Signed) → among z a ≡ true → among z b ≡ true) → holds s (shingles_of a) ≡ true → holds s (shingles_of b) ≡ true
holds_sub s a b sub e = holds_signs s b ∙ go (among (signed false s) a) (among (signed true s) a) refl refl (sym (holds_signs s a) ∙ e)
  where
    go : (t u : Bool) → among (signed false s) a ≡ t → among (signed true s) a ≡ u → (t || u) ≡ true → (among (signed false s) b || among (signed true s) b) ≡ true
    go true u f g h = rw (sub (signed false s) f) refl
    go false true f g h = or_right (among (signed false s) b) (sub (signed true s) g)
    go false false f g h = absurd (both h refl)

not_held : (s : Shingle) (a b : List Signed) → ((z : Signed) → among z a ≡ true → among z b ≡ true) → holds s (shingles_of b) ≡ false → holds s (shingles_of a) ≡ false
not_held s a b sub e = go (holds s (shingles_of a)) refl
  where
    go : (t : Bool) → holds s (shingles_of a) ≡ t → t ≡ false
    go true f = absurd (both (holds_sub s a b sub f) e)
    go false f = refl

keep_sub : (p : Signed → Bool) (zs : List Signed) (z : Signed) → among z (keep p zs) ≡ true → among z zs ≡ true
keep_sub p zs z e = (and_true (among z zs) (p z) (sym (among-keep z p zs) ∙ e)).0

pub once_keep : (p : Signed → Bool) (zs : List Signed) → no_shingle_twice (shingles_of zs) ≡ true → no_shingle_twice (shingles_of (keep p zs)) ≡ true
unfolding no_shingle_twice shingles_of keep
once_keep p [] e = refl
once_keep p (z ∷ zs) e =
    let tests = and_true (not (holds z.shingle (shingles_of zs))) (no_shingle_twice (shingles_of zs)) e in
    go (p z) (once_keep p zs tests.1) (not_held z.shingle (keep p zs) zs (keep_sub p zs) (not_true (holds z.shingle (shingles_of zs)) tests.0))
  where
    go : (t : Bool) → no_shingle_twice (shingles_of (keep p zs)) ≡ true → holds z.shingle (shingles_of (keep p zs)) ≡ false
        → no_shingle_twice (shingles_of (cond t (z ∷ keep p zs) (keep p zs))) ≡ true
    go true ih out = rw out ih
    go false ih out = ih

-- Without a shingle, none with its ids and count is left.
gone_shingle : (z : Signed) (zs : List Signed) → no_shingle_twice (shingles_of zs) ≡ true → among z zs ≡ true → holds z.shingle (shingles_of (less z zs)) ≡ false
unfolding no_shingle_twice shingles_of keep holds
gone_shingle z [] once e = refl
gone_shingle z (x ∷ zs) once e =
    let tests = and_true (not (holds x.shingle (shingles_of zs))) (no_shingle_twice (shingles_of zs)) once in
    go (alike x z) refl (not_true (holds x.shingle (shingles_of zs)) tests.0) (gone_shingle z zs tests.1)
  where
    rest : alike x z ≡ false → among z zs ≡ true
    rest f = later (alike z x) refl (unfold among in e)
      where
        later : (t : Bool) → alike z x ≡ t → (t || among z zs) ≡ true → among z zs ≡ true
        later true g h = absurd (both (ap (λ (y : Signed). alike y z) (sym (alike_true z x g)) ∙ alike_self z) f)
        later false g h = h

    differs : (t : Bool) → agree z.shingle x.shingle ≡ t → among z zs ≡ true → holds x.shingle (shingles_of zs) ≡ false → agree z.shingle x.shingle ≡ false
    differs true f there out =
        absurd (both (ap (λ (y : Shingle). holds y (shingles_of zs)) (sym (agree_true z.shingle x.shingle f)) ∙ among-holds z zs there) out)
    differs false f there out = f

    go : (t : Bool) → alike x z ≡ t → holds x.shingle (shingles_of zs) ≡ false
        → (among z zs ≡ true → holds z.shingle (shingles_of (less z zs)) ≡ false)
        → holds z.shingle (shingles_of (cond (not (among x (z ∷ []))) (x ∷ less z zs) (less z zs))) ≡ false
    go true f out ih =
        let same = alike_true x z f in
        let here : not (among x (z ∷ [])) ≡ false = ap (λ (y : Signed). not (among y (z ∷ []))) same ∙ one_alike z in
        rw here (not_held z.shingle (less z zs) zs (keep_sub (λ (y : Signed). not (among y (z ∷ []))) zs) (ap (λ (y : Signed). holds y.shingle (shingles_of zs)) (sym same) ∙ out))
    go false f out ih =
        let there = rest f in
        rw (alike_one x z f, differs (agree z.shingle x.shingle) refl there out, ih there) refl

-- No order takes a shingle twice.
pub taken_once : (q : ℕ) (zs : List Signed) (order : List ℕ) (taken : List Signed) → Truly q zs order taken → no_shingle_twice (shingles_of zs) ≡ true
    → no_shingle_twice (shingles_of taken) ≡ true
unfolding Truly no_shingle_twice shingles_of
taken_once q zs [] taken t once = ap (λ (ts : List Signed). no_shingle_twice (shingles_of ts)) t
taken_once q zs (i ∷ order) taken t once =
    let z = t.0 in
    let rest = t.1 in
    let there = (alone_there q i z zs t.4).0 in
    let later = taken_once q (less z zs) order rest t.5 (once_keep (λ (x : Signed). not (among x (z ∷ []))) zs once) in
    let out = not_held z.shingle rest (less z zs) (taken_there q (less z zs) order rest t.5) (gone_shingle z zs once there) in
    ap (λ (ts : List Signed). no_shingle_twice (shingles_of ts)) t.2 ∙ rw (out, later) refl
