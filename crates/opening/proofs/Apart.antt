-- What is kept and what is new, together with no pair twice: no new shingle is kept, so one that is in the own list is gone from it.
use mathlib.Core.Bool.{Bool, true, false, not, ◌&&◌, ◌||◌}
use mathlib.Core.List.{List, [], ◌∷◌, ◌++◌}
use mathlib.Core.Path.{◌≡◌, refl, sym, ap, ap₂, ◌∙◌}
use Rattle.entries.proofs.Linear.{both}
use Rattle.shingle.specs.declared.Shingle.{Shingle}
use Rattle.shingle.specs.Shingles.{pair_of}
use Rattle.shingle.specs.Table.{agree, holds}
use Rattle.shingle.specs.Rising.{same_pair}
use Rattle.shingle.proofs.Agreement.{agree_true}
use Rattle.shingle.proofs.PairOrder.{and_true, same_equal}
use Rattle.sketch.specs.Opening.{no_shingle_twice, all_held, none_held, kept, pair_in, no_pair_twice}
use Rattle.sketch.proofs.NewList.{or_right, not_true, holds-append, holds_kept, holds_first}

-- What is in a list of which all is in the own list.
pub all_own : (own ss : List Shingle) (x : Shingle) → all_held own ss ≡ true → holds x ss ≡ true → holds x own ≡ true
unfolding all_held holds
all_own own [] x a h = absurd (both h refl)
all_own own (s ∷ ss) x a h =
    let tests = and_true (holds s own) (all_held own ss) a in
    go (agree x s) refl h tests.0 (all_own own ss x tests.1)
  where
    go : (t : Bool) → agree x s ≡ t → (t || holds x ss) ≡ true → holds s own ≡ true → (holds x ss ≡ true → holds x own ≡ true) → holds x own ≡ true
    go true e f here rest = ap (λ (y : Shingle). holds y own) (agree_true x s e) ∙ here
    go false e f here rest = rest f

-- A list with no pair twice has no shingle twice.
holds_pair : (s : Shingle) (ss : List Shingle) → holds s ss ≡ true → pair_in s ss ≡ true
unfolding holds pair_in
holds_pair s [] h = h
holds_pair s (x ∷ ss) h = go (agree s x) refl h (holds_pair s ss)
  where
    go : (t : Bool) → agree s x ≡ t → (t || holds s ss) ≡ true → (holds s ss ≡ true → pair_in s ss ≡ true)
        → (same_pair (pair_of s) (pair_of x) || pair_in s ss) ≡ true
    go true e f rest = rw (same_equal (pair_of s) (pair_of x) (ap pair_of (agree_true s x e)))
    go false e f rest = or_right (same_pair (pair_of s) (pair_of x)) (rest f)

pub once_pairs : (ss : List Shingle) → no_pair_twice ss ≡ true → no_shingle_twice ss ≡ true
unfolding no_pair_twice no_shingle_twice
once_pairs [] h = refl
once_pairs (s ∷ ss) h =
    let tests = and_true (not (pair_in s ss)) (no_pair_twice ss) h in
    go (holds s ss) refl (not_true (pair_in s ss) tests.0) (once_pairs ss tests.1)
  where
    go : (t : Bool) → holds s ss ≡ t → pair_in s ss ≡ false → no_shingle_twice ss ≡ true → (not t && no_shingle_twice ss) ≡ true
    go true e f rest = absurd (both (holds_pair s ss e) f)
    go false e f rest = rest

-- Of two lists.
pub later_once : (a b : List Shingle) → no_pair_twice (a ++ b) ≡ true → no_pair_twice b ≡ true
unfolding no_pair_twice
later_once [] b h = h
later_once (s ∷ a) b h = later_once a b (and_true (not (pair_in s (a ++ b))) (no_pair_twice (a ++ b)) h).1

not_before : (a b : List Shingle) (x : Shingle) → no_pair_twice (a ++ b) ≡ true → holds x b ≡ true → holds x a ≡ false
unfolding no_pair_twice holds
not_before [] b x h i = refl
not_before (s ∷ a) b x h i =
    let tests = and_true (not (pair_in s (a ++ b))) (no_pair_twice (a ++ b)) h in
    go (agree x s) refl (not_true (pair_in s (a ++ b)) tests.0) (not_before a b x tests.1 i)
  where
    go : (t : Bool) → agree x s ≡ t → pair_in s (a ++ b) ≡ false → holds x a ≡ false → (t || holds x a) ≡ false
    go true e f rest =
        let again : holds s b ≡ true = ap (λ (y : Shingle). holds y b) (sym (agree_true x s e)) ∙ i in
        let found : holds s (a ++ b) ≡ true = holds-append s a b ∙ (ap (λ (t : Bool). holds s a || t) again ∙ or_right (holds s a) refl) in
        absurd (both (holds_pair s (a ++ b) found) f)
    go false e f rest = rest

-- The two lists have the same of the third, so it has none of both or some of both.
none_alike : (a b ss : List Shingle) → ((x : Shingle) → holds x ss ≡ true → holds x a ≡ holds x b) → none_held a ss ≡ none_held b ss
unfolding none_held holds
none_alike a b [] same = refl
none_alike a b (s ∷ ss) same =
    ap₂ (λ (t u : Bool). not t && u) (same s (holds_first s ss)) (none_alike a b ss (λ x h. same x (or_right (agree x s) h)))

-- No new shingle is in the own list exactly when none is gone from it.
pub none_gone : (own gone new : List Shingle) → all_held own gone ≡ true → no_pair_twice (kept gone own ++ new) ≡ true → none_held own new ≡ none_held gone new
none_gone own gone new a q = none_alike own gone new (λ x h. go x (holds x own) (holds x gone) refl refl (not_before (kept gone own) new x q h))
  where
    go : (x : Shingle) (t u : Bool) → holds x own ≡ t → holds x gone ≡ u → holds x (kept gone own) ≡ false → t ≡ u
    go x true true e f h = refl
    go x true false e f h = absurd (both (holds_kept x gone own ∙ ap₂ (λ (t u : Bool). t && not u) e f) h)
    go x false true e f h = absurd (both (all_own own gone x a f) e)
    go x false false e f h = refl
