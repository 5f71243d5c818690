-- The true difference of two lists that have no shingle twice, taken in any order, turns the own list into the sender's, sorted: they have the
-- same members.
use Rattle.std.proofs.Common.{◌≡◌, Bool, true, false, cond, not, ◌&&◌, ◌||◌, List, [], ◌∷◌, ◌++◌, sym, refl, ap, ◌∙◌, append-nil}
use Rattle.entries.proofs.Linear.{both}
use Rattle.sort.specs.Sort.{sort_of}
use Rattle.shingle.specs.declared.Shingle.{Shingle}
use Rattle.shingle.specs.Shingles.{Pair, pair_of}
use Rattle.shingle.specs.Table.{agree, holds}
use Rattle.shingle.specs.Rising.{Over, Rising, none, more}
use Rattle.shingle.proofs.Agreement.{agree_true, agree_self}
use Rattle.shingle.proofs.PairOrder.{and_true}
use Rattle.sketch.specs.Opening.{Signed, signed, positives, negatives, no_shingle_twice, kept, before, renewed, new_list}
use Rattle.sketch.specs.Opening.{lacking, true_difference, IsDifference}
use Rattle.sketch.proofs.Once.{same_sorted, rising_once, rising_sorted}

-- Tests.
pub or_swap : (t u v : Bool) → (t || (u || v)) ≡ (u || (t || v))
or_swap true true v = refl
or_swap true false v = refl
or_swap false true v = refl
or_swap false false v = refl

pub or_assoc : (t u v : Bool) → (t || (u || v)) ≡ ((t || u) || v)
or_assoc true u v = refl
or_assoc false u v = refl

pub or_right : (t : Bool) {u : Bool} → u ≡ true → (t || u) ≡ true
or_right true e = refl
or_right false e = e

pub not_true : (t : Bool) → not t ≡ true → t ≡ false
not_true true e = absurd (both e refl)
not_true false e = refl

pub and_not : (t : Bool) → (t && false) ≡ false
and_not true = refl
and_not false = refl

pub holds_first : (s : Shingle) (ss : List Shingle) → holds s (s ∷ ss) ≡ true
unfolding holds
holds_first s ss = rw (agree_self s)

-- Members.
pub holds-append : (x : Shingle) (a b : List Shingle) → holds x (a ++ b) ≡ (holds x a || holds x b)
unfolding holds
holds-append x [] b = refl
holds-append x (s ∷ a) b = ap (λ (t : Bool). agree x s || t) (holds-append x a b) ∙ or_assoc (agree x s) (holds x a) (holds x b)

pub holds_kept : (x : Shingle) (gone ss : List Shingle) → holds x (kept gone ss) ≡ (holds x ss && not (holds x gone))
unfolding kept holds
holds_kept x gone [] = refl
holds_kept x gone (y ∷ ss) = go (holds y gone) (agree x y) refl refl (holds_kept x gone ss)
  where
    same : {t : Bool} → holds y gone ≡ t → agree x y ≡ true → not (holds x gone) ≡ not t
    same e f = ap (λ (a : Shingle). not (holds a gone)) (agree_true x y f) ∙ ap not e

    go : (t u : Bool) → holds y gone ≡ t → agree x y ≡ u → holds x (kept gone ss) ≡ (holds x ss && not (holds x gone))
        → holds x (cond t (kept gone ss) (y ∷ kept gone ss)) ≡ ((u || holds x ss) && not (holds x gone))
    go true true e f ih = ih ∙ (ap (λ (t : Bool). holds x ss && t) (same e f) ∙ (and_not (holds x ss) ∙ sym (same e f)))
    go true false e f ih = ih
    go false true e f ih = rw f (sym (same e f))
    go false false e f ih = rw f ih

-- Rising.
over_kept : {k : Pair} {ss : List Shingle} (gone : List Shingle) → Over k ss → Over k (kept gone ss)
unfolding kept
over_kept gone none = none
over_kept {k} gone (more {s = s} {ss = ss} e o) = go (holds s gone) (over_kept gone o)
  where
    go : (t : Bool) → Over k (kept gone ss) → Over k (cond t (kept gone ss) (s ∷ kept gone ss))
    go true ih = ih
    go false ih = more e ih

pub rising_kept : {ss : List Shingle} (gone : List Shingle) → Rising ss → Rising (kept gone ss)
unfolding kept
rising_kept gone none = none
rising_kept gone (more {s = s} {ss = ss} o r) = go (holds s gone) (over_kept gone o) (rising_kept gone r)
  where
    go : (t : Bool) → Over (pair_of s) (kept gone ss) → Rising (kept gone ss) → Rising (cond t (kept gone ss) (s ∷ kept gone ss))
    go true p q = q
    go false p q = more p q

-- Lists with no shingle twice and none in common.
pub once_append : (a b : List Shingle) → no_shingle_twice a ≡ true → no_shingle_twice b ≡ true → ((x : Shingle) → holds x a ≡ true → holds x b ≡ false)
    → no_shingle_twice (a ++ b) ≡ true
unfolding no_shingle_twice holds
once_append [] b p q apart = q
once_append (s ∷ a) b p q apart =
    let tests = and_true (not (holds s a)) (no_shingle_twice a) p in
    rw (holds-append s a b, not_true (holds s a) tests.0, apart s (holds_first s a))
    (once_append a b tests.1 q (λ x i. apart x (or_right (agree x s) i)))

-- In the new list is what the sender's has.
members : (p o : Bool) → ((o && not (o && not p)) || (p && not o)) ≡ p
members true true = refl
members true false = refl
members false true = refl
members false false = refl

apart_from : (p o : Bool) → (o && not (o && not p)) ≡ true → (p && not o) ≡ false
apart_from true true e = refl
apart_from true false e = absurd (both e refl)
apart_from false o e = refl

pub kept_once : (gone ss : List Shingle) → no_shingle_twice ss ≡ true → no_shingle_twice (kept gone ss) ≡ true
unfolding no_shingle_twice kept
kept_once gone [] e = refl
kept_once gone (s ∷ ss) e =
    let tests = and_true (not (holds s ss)) (no_shingle_twice ss) e in
    go (holds s gone) (kept_once gone ss tests.1) (not_true (holds s ss) tests.0)
  where
    go : (t : Bool) → no_shingle_twice (kept gone ss) ≡ true → holds s ss ≡ false → no_shingle_twice (cond t (kept gone ss) (s ∷ kept gone ss)) ≡ true
    go true ih out = ih
    go false ih out = rw (holds_kept s gone ss, out) ih

-- A true difference gives the sender's list, sorted.
pub new_sorted : (theirs own : List Shingle) (zs : List Signed) → no_shingle_twice theirs ≡ true → no_shingle_twice own ≡ true → IsDifference theirs own zs
    → new_list own zs ≡ sort_of before theirs
unfolding new_list renewed
new_sorted theirs own zs r p d =
    let base = kept (negatives zs) own in
    let new = positives zs in
    let in-base : (x : Shingle) → holds x base ≡ (holds x own && not (holds x own && not (holds x theirs))) =
    λ x. holds_kept x (negatives zs) own ∙ ap (λ (t : Bool). holds x own && not t) (d.negative x) in
    let in_all : (x : Shingle) → holds x (base ++ new) ≡ holds x theirs =
    λ x. holds-append x base new ∙ (ap (λ (t : Bool). t || holds x new) (in-base x)
    ∙ (ap (λ (t : Bool). (holds x own && not (holds x own && not (holds x theirs))) || t) (d.positive x) ∙ members (holds x theirs) (holds x own))) in
    let once = once_append base new (kept_once (negatives zs) own p) d.once
    (λ x i. d.positive x ∙ apart_from (holds x theirs) (holds x own) (sym (in-base x) ∙ i)) in
    same_sorted (base ++ new) theirs once r in_all

pub new_list_lem : {theirs own : List Shingle} (zs : List Signed) → Rising theirs → Rising own → IsDifference theirs own zs → new_list own zs ≡ theirs
new_list_lem {theirs} {own} zs r p d = new_sorted theirs own zs (rising_once r) (rising_once p) d ∙ rising_sorted r

-- The true difference is one, where the sender's list has no shingle twice.
positives-append : (a b : List Signed) → positives (a ++ b) ≡ positives a ++ positives b
unfolding positives
positives-append [] b = refl
positives-append (z ∷ a) b = go z.negative (positives-append a b)
  where
    go : (t : Bool) → positives (a ++ b) ≡ positives a ++ positives b
        → cond t (positives (a ++ b)) (z.shingle ∷ positives (a ++ b)) ≡ cond t (positives a) (z.shingle ∷ positives a) ++ positives b
    go true ih = ih
    go false ih = ap (λ (l : List Shingle). z.shingle ∷ l) ih

negatives-append : (a b : List Signed) → negatives (a ++ b) ≡ negatives a ++ negatives b
unfolding negatives
negatives-append [] b = refl
negatives-append (z ∷ a) b = go z.negative (negatives-append a b)
  where
    go : (t : Bool) → negatives (a ++ b) ≡ negatives a ++ negatives b
        → cond t (z.shingle ∷ negatives (a ++ b)) (negatives (a ++ b)) ≡ cond t (z.shingle ∷ negatives a) (negatives a) ++ negatives b
    go true ih = ap (λ (l : List Shingle). z.shingle ∷ l) ih
    go false ih = ih

module _ (other : List Shingle) where
  lacking-positives : (ss : List Shingle) → positives (lacking false other ss) ≡ kept other ss
  unfolding positives lacking kept
  lacking-positives [] = refl
  lacking-positives (s ∷ ss) = go (holds s other) (lacking-positives ss)
    where
      go : (t : Bool) → positives (lacking false other ss) ≡ kept other ss
          → positives (cond t (lacking false other ss) (signed false s ∷ lacking false other ss)) ≡ cond t (kept other ss) (s ∷ kept other ss)
      go true ih = ih
      go false ih = ap (λ (l : List Shingle). s ∷ l) ih

  lacking-negatives : (ss : List Shingle) → negatives (lacking true other ss) ≡ kept other ss
  unfolding negatives lacking kept
  lacking-negatives [] = refl
  lacking-negatives (s ∷ ss) = go (holds s other) (lacking-negatives ss)
    where
      go : (t : Bool) → negatives (lacking true other ss) ≡ kept other ss
          → negatives (cond t (lacking true other ss) (signed true s ∷ lacking true other ss)) ≡ cond t (kept other ss) (s ∷ kept other ss)
      go true ih = ih
      go false ih = ap (λ (l : List Shingle). s ∷ l) ih

  no_positives : (ss : List Shingle) → positives (lacking true other ss) ≡ []
  unfolding positives lacking
  no_positives [] = refl
  no_positives (s ∷ ss) = go (holds s other) (no_positives ss)
    where
      go : (t : Bool) → positives (lacking true other ss) ≡ [] → positives (cond t (lacking true other ss) (signed true s ∷ lacking true other ss)) ≡ []
      go true ih = ih
      go false ih = ih

  no_negatives : (ss : List Shingle) → negatives (lacking false other ss) ≡ []
  unfolding negatives lacking
  no_negatives [] = refl
  no_negatives (s ∷ ss) = go (holds s other) (no_negatives ss)
    where
      go : (t : Bool) → negatives (lacking false other ss) ≡ [] → negatives (cond t (lacking false other ss) (signed false s ∷ lacking false other ss)) ≡ []
      go true ih = ih
      go false ih = ih

pub positive_ones : (theirs own : List Shingle) → positives (true_difference theirs own) ≡ kept own theirs
unfolding true_difference
positive_ones theirs own =
    positives-append (lacking false own theirs) (lacking true theirs own)
    ∙ (ap (λ (l : List Shingle). positives (lacking false own theirs) ++ l) (no_positives theirs own)
    ∙ (append-nil (positives (lacking false own theirs)) ∙ lacking-positives own theirs))

pub negative_ones : (theirs own : List Shingle) → negatives (true_difference theirs own) ≡ kept theirs own
unfolding true_difference
negative_ones theirs own =
    negatives-append (lacking false own theirs) (lacking true theirs own)
    ∙ (ap (λ (l : List Shingle). l ++ negatives (lacking true theirs own)) (no_negatives own theirs) ∙ lacking-negatives theirs own)

pub true_difference_lem : (theirs own : List Shingle) → no_shingle_twice theirs ≡ true → IsDifference theirs own (true_difference theirs own)
true_difference_lem theirs own once =
    record {
      positive = λ s. ap (holds s) (positive_ones theirs own) ∙ holds_kept s own theirs;
      negative = λ s. ap (holds s) (negative_ones theirs own) ∙ holds_kept s theirs own;
      once = ap no_shingle_twice (positive_ones theirs own) ∙ kept_once own theirs once;
    }
