-- Lists that have no shingle twice, in any order. What two of them have in common weighs the same from either side; and where they have the
-- same members, one is the other in another order, so that sorted they are equal.
use Rattle.std.proofs.Common.{◌≡◌, ℕ, ◌+◌, ◌<◌, Bool, true, false, cond, not, ◌&&◌, ◌||◌, List, [], ◌∷◌, sym, refl, ap, ◌∙◌, arith, ltb-true, le-ltb, lt-ltb}
use mathlib.Core.Bool.{or-true}
use native.Mathlib.Decide.{ℕ_discrete, dec_lt}
use borrow.Author.Tests.{not-true}
use Rattle.entries.proofs.Linear.{Compared, less, equal, greater, Linear, both}
use Rattle.entries.proofs.Order.{Keys, ahead, alike, behind, keys, earlier_alike, earlier_transitive}
use Rattle.sort.specs.Sort.{sort_of}
use Rattle.sort.specs.Shell.{total, Same}
use Rattle.sort.proofs.Same.{same_refl}
use Rattle.sort.proofs.Ordered.{Above, Ordered, none as end, more as then, ordered_sort, same_sort}
use Rattle.shingle.specs.declared.Shingle.{Shingle}
use Rattle.shingle.specs.Shingles.{pair_of, lower}
use Rattle.shingle.specs.Table.{agree, holds}
use Rattle.shingle.specs.Rising.{Over, Rising, none, more}
use Rattle.shingle.proofs.Agreement.{agree_true, agree_self, agree_equal}
use Rattle.shingle.proofs.PairOrder.{and_true}
use Rattle.shingle.proofs.Rising.{not_over}
use Rattle.sketch.specs.Opening.{no_shingle_twice, before}

-- The weights of those that the other list has too, and of those that it lacks.
abbrev pub in_both : (Shingle → ℕ) → List Shingle → Shingle → ℕ
in_both f other s = cond (holds s other) (f s) 0

abbrev pub in_one : (Shingle → ℕ) → List Shingle → Shingle → ℕ
in_one f other s = cond (holds s other) 0 (f s)

pub total_split : (f : Shingle → ℕ) (other ss : List Shingle) → total f ss ≡ total (in_both f other) ss + total (in_one f other) ss
unfolding total
total_split f other [] = refl
total_split f other (s ∷ ss) = go (holds s other) (total_split f other ss)
  where
    go : (t : Bool) → total f ss ≡ total (in_both f other) ss + total (in_one f other) ss
        → f s + total f ss ≡ cond t (f s) 0 + total (in_both f other) ss + (cond t 0 (f s) + total (in_one f other) ss)
    go true ih = omega arith
    go false ih = omega arith

none_both : (f : Shingle → ℕ) (ss : List Shingle) → total (in_both f []) ss ≡ 0
unfolding total holds
none_both f [] = refl
none_both f (s ∷ ss) = let ih = none_both f ss in omega (arith, ih)

agree_not : (a b : Shingle) → agree a b ≡ false → agree b a ≡ false
agree_not a b e = go (agree b a) refl
  where
    go : (t : Bool) → agree b a ≡ t → t ≡ false
    go true f = absurd (both (agree_equal a b (sym (agree_true b a f))) e)
    go false f = refl

-- One more in the other list weighs once, where it stands here.
one_both : (f : Shingle → ℕ) (s : Shingle) (other ss : List Shingle) → holds s other ≡ false → no_shingle_twice ss ≡ true
    → total (in_both f (s ∷ other)) ss ≡ cond (holds s ss) (f s) 0 + total (in_both f other) ss
unfolding total holds no_shingle_twice
one_both f s other [] h once = refl
one_both f s other (x ∷ ss) h once =
    let tests = and_true (not (holds x ss)) (no_shingle_twice ss) once in
    go (agree s x) refl (not-true (holds x ss) tests.0) (one_both f s other ss h tests.1)
  where
    go : (t : Bool) → agree s x ≡ t → holds x ss ≡ false
        → total (in_both f (s ∷ other)) ss ≡ cond (holds s ss) (f s) 0 + total (in_both f other) ss
        → cond (agree x s || holds x other) (f x) 0 + total (in_both f (s ∷ other)) ss
        ≡ cond (t || holds s ss) (f s) 0 + (cond (holds x other) (f x) 0 + total (in_both f other) ss)
    go true e out ih =
        let same = agree_true s x e in
        let here : holds s ss ≡ false = ap (λ (y : Shingle). holds y ss) same ∙ out in
        let there : holds x other ≡ false = ap (λ (y : Shingle). holds y other) (sym same) ∙ h in
        let weigh : f s ≡ f x = ap f same in
        let rest : total (in_both f (s ∷ other)) ss ≡ 0 + total (in_both f other) ss = ih ∙ ap (λ (b : Bool). cond b (f s) 0 + total (in_both f other) ss) here in
        rw (agree_equal x s (sym same), there) (omega (arith, rest, weigh))
    go false e out ih = rw (agree_not s x e) (omega (arith, ih))

pub both_alike : (f : Shingle → ℕ) (a b : List Shingle) → no_shingle_twice a ≡ true → no_shingle_twice b ≡ true → total (in_both f b) a ≡ total (in_both f a) b
unfolding total no_shingle_twice
both_alike f [] b p q = sym (none_both f b)
both_alike f (s ∷ a) b p q =
    let tests = and_true (not (holds s a)) (no_shingle_twice a) p in
    ap (λ (n : ℕ). cond (holds s b) (f s) 0 + n) (both_alike f a b tests.1 q) ∙ sym (one_both f s a b (not-true (holds s a) tests.0) q)

-- Where the other list has all, it is the whole weight.
all_both : (f : Shingle → ℕ) (other ss : List Shingle) → ((x : Shingle) → holds x ss ≡ true → holds x other ≡ true) → total (in_both f other) ss ≡ total f ss
unfolding total holds
all_both f other [] h = refl
all_both f other (s ∷ ss) h =
    rw (h s (rw (agree_self s) refl)) (ap (λ (n : ℕ). f s + n) (all_both f other ss (λ x e. h x (ap (λ (t : Bool). agree x s || t) e ∙ or-true (agree x s)))))

pub same_members : (a b : List Shingle) → no_shingle_twice a ≡ true → no_shingle_twice b ≡ true → ((x : Shingle) → holds x a ≡ holds x b) → Same a b
same_members a b p q same =
    record {
      same = λ f.
          sym (all_both f b a (λ x e. sym (same x) ∙ e)) ∙ (both_alike f a b p q ∙ all_both f a b (λ x e. same x ∙ e));
    }

-- The order of shingles is linear: that of the pairs, and of one pair the lower count is first.
count_first : (a b : Shingle) → a.level ≡ b.level → a.previous ≡ b.previous → a.own ≡ b.own → a.count < b.count
    → (before a b ≡ true) × (before b a ≡ false)
unfolding before
count_first a b e f g h = (
  earlier_alike _ _ _ _ _ _ _ e f g ∙ lt-ltb a.count b.count h,
  earlier_alike _ _ _ _ _ _ _ (sym e) (sym f) (sym g) ∙ le-ltb b.count a.count (omega arith),
)

compare_counts : (a b : Shingle) → a.level ≡ b.level → a.previous ≡ b.previous → a.own ≡ b.own → Compared before a b
compare_counts a b e f g =
    elim (ℕ_discrete a.count b.count) [
      | yes h ↦ equal (λ i. record { previous = f i; own = g i; level = e i; count = h i })
      | no h ↦ elim (dec_lt a.count b.count) [
        | yes k ↦ let t = count_first a b e f g k in less t.0 t.1
        | no k ↦ let t = count_first b a (sym e) (sym f) (sym g) (omega arith) in greater t.0 t.1
      ]
    ]

compare_keys : (a b : Shingle) → Keys a.level a.previous a.own b.level b.previous b.own → Compared before a b
unfolding before
compare_keys a b (ahead e f) = less (e _) (f _)
compare_keys a b (alike e f g) = compare_counts a b e f g
compare_keys a b (behind e f) = greater (e _) (f _)

before_irreflexive : (a : Shingle) → before a a ≡ false
unfolding before
before_irreflexive a = earlier_alike _ _ _ _ _ _ _ refl refl refl ∙ le-ltb a.count a.count (omega arith)

before_transitive : (a b c : Shingle) → before a b ≡ true → before b c ≡ true → before a c ≡ true
unfolding before
before_transitive a b c =
    earlier_transitive _ _ _ _ _ _ _ _ _ _ _ _ (λ e f.
    lt-ltb a.count c.count (omega (arith, ltb-true a.count b.count e, ltb-true b.count c.count f)))

before_linear : Linear before
before_linear = record { compare = λ a b. compare_keys a b (keys _ _ _ _ _ _); irreflexive = before_irreflexive; transitive = before_transitive }

pub same_sorted : (a b : List Shingle) → no_shingle_twice a ≡ true → no_shingle_twice b ≡ true → ((x : Shingle) → holds x a ≡ holds x b)
    → sort_of before a ≡ sort_of before b
same_sorted a b p q same = same_sort before before_linear a b (same_members a b p q same)

-- A rising list has no shingle twice, and is sorted.
pub rising_once : {ss : List Shingle} → Rising ss → no_shingle_twice ss ≡ true
unfolding no_shingle_twice
rising_once none = refl
rising_once (more {s = s} {ss = ss} o r) = go (holds s ss) refl (rising_once r)
  where
    go : (t : Bool) → holds s ss ≡ t → no_shingle_twice ss ≡ true → (not t && no_shingle_twice ss) ≡ true
    go true e ih = absurd (both e (not_over s refl o))
    go false e ih = ih

after_keys : (s x : Shingle) → Keys s.level s.previous s.own x.level x.previous x.own → lower (pair_of s) (pair_of x) ≡ true → before x s ≡ false
unfolding before lower
after_keys s x (ahead e f) h = f _
after_keys s x (alike e f g) h = absurd (both h (earlier_alike _ _ _ _ _ _ _ e f g))
after_keys s x (behind e f) h = absurd (both h (f _))

above_over : (s : Shingle) {ss : List Shingle} → Over (pair_of s) ss → Above before s ss
above_over s none = end
above_over s (more {s = x} e o) = then (after_keys s x (keys _ _ _ _ _ _) e) (above_over s o)

rising_ordered : {ss : List Shingle} → Rising ss → Ordered before ss
rising_ordered none = end
rising_ordered (more {s = s} o r) = then (above_over s o) (rising_ordered r)

pub rising_sorted : {ss : List Shingle} → Rising ss → sort_of before ss ≡ ss
rising_sorted {ss} r = sym (ordered_sort before before_linear ss ss (rising_ordered r) (same_refl ss))
