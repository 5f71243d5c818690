-- The shingle list's laws: it rises, each count is the number of nodes that give the pair, and its members determine it.
-- Counts are weighed by sums over the list, so that counting one more pair is one more in the sum.
use mathlib.Core.Bool.{Bool, true, false, cond, ◌||◌}
use mathlib.Core.List.{List, [], ◌∷◌}
use mathlib.Core.Logic.{◌↔◌}
use mathlib.Core.Path.{◌≡◌, refl, sym, ap, ◌∙◌}
use Prim.Native.Nat.{ℕ, zero, suc, ◌+◌, ◌≤◌, ◌<◌}
use native.Mathlib.Omega.{arith}
use lib.ListN.{length, get_or}
use Rattle.entries.proofs.Linear.{less, equal, greater, both}
use Rattle.shingle.specs.declared.Shingle.{Shingle}
use Rattle.shingle.specs.Shingles.{Listed, Pair, shingle, pair_of, pairs_after, pairs_of, lower, counting, counted, shingles_of}
use Rattle.shingle.specs.Table.{agree, holds}
use Rattle.shingle.specs.Rising.{Over, Rising, same_pair, how_many, none, more}
use Rattle.shingle.proofs.Agreement.{agree_true, agree_self, agree_equal}
use Rattle.shingle.proofs.Counts.{counts_counted, counts_within}
use Rattle.shingle.proofs.PairOrder.{pairs_linear, same_true, same_equal, same_lower}

-- Rising.
over_lower : {k j : Pair} {ss : List Shingle} → lower k j ≡ true → Over j ss → Over k ss
over_lower e none = none
over_lower {k} {j} e (more {s = s} f o) = more (pairs_linear.transitive k j (pair_of s) e f) (over_lower e o)

over_either : {k : Pair} {a b : List Shingle} (t : Bool) → Over k a → Over k b → Over k (cond t a b)
over_either true p q = p
over_either false p q = q

over_counting : {k : Pair} {ss : List Shingle} (j : Pair) → lower k j ≡ true → Over k ss → Over k (counting j ss)
unfolding counting
over_counting j e none = more e none
over_counting j e (more {s = s} f o) =
    over_either (lower (pair_of s) j) (more f (over_counting j e o)) (over_either (lower j (pair_of s)) (more e (more f o)) (more e o))

rising_counting : {ss : List Shingle} (j : Pair) → Rising ss → Rising (counting j ss)
unfolding counting
rising_counting j none = more none none
rising_counting j (more {s = s} {ss = ss} o r) = go (lower (pair_of s) j) (lower j (pair_of s)) refl refl (rising_counting j r)
  where
    go : (t u : Bool) → lower (pair_of s) j ≡ t → lower j (pair_of s) ≡ u → Rising (counting j ss)
        → Rising (cond t (s ∷ counting j ss) (cond u (shingle j 1 ∷ s ∷ ss) (shingle j (s.count + 1) ∷ ss)))
    go true u e f ih = more (over_counting j e o) ih
    go false true e f ih = more (more f (over_lower f o)) (more o r)
    go false false e f ih =
        elim (pairs_linear.compare (pair_of s) j) [
          | less g h ↦ absurd (both g e)
          | equal g ↦ let o' : Over j ss = rw g at o in more o' r
          | greater g h ↦ absurd (both g f)
        ]

rising_counted : (ps : List Pair) → Rising (counted ps)
unfolding counted
rising_counted [] = none
rising_counted (k ∷ ps) = rising_counting k (rising_counted ps)

pub shingles_rise : (ns : List Listed) → Rising (shingles_of ns)
unfolding shingles_of
shingles_rise ns = rising_counted (pairs_of ns)

-- Not longer than the nodes.
length-counting : (k : Pair) (ss : List Shingle) → length (counting k ss) ≤ suc (length ss)
unfolding counting
length-counting k [] = omega arith
length-counting k (s ∷ ss) = go (lower (pair_of s) k) (lower k (pair_of s)) (length-counting k ss)
  where
    go : (t u : Bool) → length (counting k ss) ≤ suc (length ss)
        → length (cond t (s ∷ counting k ss) (cond u (shingle k 1 ∷ s ∷ ss) (shingle k (s.count + 1) ∷ ss))) ≤ suc (suc (length ss))
    go true u h = omega arith
    go false true h = omega arith
    go false false h = omega arith

length-counted : (ps : List Pair) → length (counted ps) ≤ length ps
unfolding counted
length-counted [] = omega arith
length-counted (k ∷ ps) = omega (arith, length-counting k (counted ps), length-counted ps)

length_after : (before ns : List Listed) → length (pairs_after before ns) ≡ length ns
unfolding pairs_after
length_after before [] = refl
length_after before (n ∷ ns) = ap suc (length_after (n ∷ before) ns)

pub length_pairs : (ns : List Listed) → length (pairs_of ns) ≡ length ns
unfolding pairs_of
length_pairs ns = length_after [] ns

pub shingles_few : (ns : List Listed) → length (shingles_of ns) ≤ length ns
unfolding shingles_of
shingles_few ns = omega (arith, length-counted (pairs_of ns), length_pairs ns)

-- The sum of the counts of the pair k.
amount : Pair → List Shingle → ℕ
amount k [] = 0
amount k (s ∷ ss) = cond (same_pair k (pair_of s)) (s.count + amount k ss) (amount k ss)

amount_counting : (k j : Pair) (ss : List Shingle) → amount k (counting j ss) ≡ cond (same_pair k j) (suc (amount k ss)) (amount k ss)
unfolding amount counting
amount_counting k j [] = refl
amount_counting k j (s ∷ ss) = go (lower (pair_of s) j) (lower j (pair_of s)) refl refl (amount_counting k j ss)
  where
    both-tests : (t u : Bool) (c m : ℕ) → cond t (c + cond u (suc m) m) (cond u (suc m) m) ≡ cond u (suc (cond t (c + m) m)) (cond t (c + m) m)
    both-tests true true c m = omega arith
    both-tests true false c m = refl
    both-tests false true c m = refl
    both-tests false false c m = refl

    one_more : (t : Bool) (c m : ℕ) → cond t (c + 1 + m) m ≡ cond t (suc (cond t (c + m) m)) (cond t (c + m) m)
    one_more true c m = omega arith
    one_more false c m = refl

    new : (t : Bool) (m : ℕ) → cond t (1 + m) m ≡ cond t (suc m) m
    new true m = omega arith
    new false m = refl

    go : (t u : Bool) → lower (pair_of s) j ≡ t → lower j (pair_of s) ≡ u → amount k (counting j ss) ≡ cond (same_pair k j) (suc (amount k ss)) (amount k ss)
        → amount k (cond t (s ∷ counting j ss) (cond u (shingle j 1 ∷ s ∷ ss) (shingle j (s.count + 1) ∷ ss)))
        ≡ cond (same_pair k j) (suc (cond (same_pair k (pair_of s)) (s.count + amount k ss) (amount k ss))) (cond (same_pair k (pair_of s)) (s.count + amount k ss) (amount k ss))
    go true u e f ih = rw ih (both-tests (same_pair k (pair_of s)) (same_pair k j) s.count (amount k ss))
    go false true e f ih = new (same_pair k j) (cond (same_pair k (pair_of s)) (s.count + amount k ss) (amount k ss))
    go false false e f ih =
        elim (pairs_linear.compare (pair_of s) j) [
          | less g h ↦ absurd (both g e)
          | equal g ↦ rw g (one_more (same_pair k j) s.count (amount k ss))
          | greater g h ↦ absurd (both g f)
        ]

amount_counted : (k : Pair) (ps : List Pair) → amount k (counted ps) ≡ how_many k ps
unfolding amount counted how_many
amount_counted k [] = refl
amount_counted k (p ∷ ps) = amount_counting k p (counted ps) ∙ ap (λ (n : ℕ). cond (same_pair k p) (suc n) n) (amount_counted k ps)

-- Being in a list.
holds_first : (s : Shingle) (ss : List Shingle) → holds s (s ∷ ss) ≡ true
unfolding holds
holds_first s ss = rw (agree_self s)

-- What is in a list that lies over a pair is over it.
holds_over : {k : Pair} {ss : List Shingle} (s : Shingle) → Over k ss → holds s ss ≡ true → lower k (pair_of s) ≡ true
unfolding holds
holds_over s none h = absurd (both h refl)
holds_over {k} s (more {s = x} {ss = ss} e o) h = go (agree s x) refl h (holds_over s o)
  where
    go : (t : Bool) → agree s x ≡ t → (t || holds s ss) ≡ true → (holds s ss ≡ true → lower k (pair_of s) ≡ true) → lower k (pair_of s) ≡ true
    go true f g rest = ap (λ (a : Shingle). lower k (pair_of a)) (agree_true s x f) ∙ e
    go false f g rest = rest g

amount_over : {k : Pair} {ss : List Shingle} → Over k ss → amount k ss ≡ 0
unfolding amount
amount_over none = refl
amount_over {k} (more {s = s} e o) = rw (same_lower k (pair_of s) e) (amount_over o)

or_true : (t : Bool) {u : Bool} → u ≡ true → (t || u) ≡ true
or_true true e = refl
or_true false e = e

same_above : (a b : Pair) → lower b a ≡ true → same_pair a b ≡ false
same_above a b e = go (same_pair a b) refl
  where
    go : (t : Bool) → same_pair a b ≡ t → same_pair a b ≡ false
    go true f = absurd (both e (ap (λ (k : Pair). lower b k) (same_true a b f) ∙ pairs_linear.irreflexive b))
    go false f = f

-- A shingle of a rising list has all of its pair's counts.
holds_amount : {ss : List Shingle} (s : Shingle) → Rising ss → holds s ss ≡ true → amount (pair_of s) ss ≡ s.count
unfolding holds amount
holds_amount s none h = absurd (both h refl)
holds_amount s (more {s = x} {ss = ss} o r) h = go (agree s x) refl h (holds_amount s r)
  where
    go : (t : Bool) → agree s x ≡ t → (t || holds s ss) ≡ true → (holds s ss ≡ true → amount (pair_of s) ss ≡ s.count)
        → cond (same_pair (pair_of s) (pair_of x)) (x.count + amount (pair_of s) ss) (amount (pair_of s) ss) ≡ s.count
    go true f g rest =
        let e = agree_true s x f in
        let n : amount (pair_of s) ss ≡ 0 = ap (λ (a : Shingle). amount (pair_of a) ss) e ∙ amount_over o in
        let c : s.count ≡ x.count = ap (λ (a : Shingle). a.count) e in
        rw (same_equal (pair_of s) (pair_of x) (ap pair_of e)) (omega arith)
    go false f g rest = rw (same_above (pair_of s) (pair_of x) (holds_over s o g)) (rest g)

amount_holds : {ss : List Shingle} (s : Shingle) → Rising ss → amount (pair_of s) ss ≡ s.count → 1 ≤ s.count → holds s ss ≡ true
unfolding holds amount
amount_holds s none e h = absurd (omega arith)
amount_holds s (more {s = x} {ss = ss} o r) e h = go (same_pair (pair_of s) (pair_of x)) refl e (λ f. amount_holds s r f h)
  where
    go : (t : Bool) → same_pair (pair_of s) (pair_of x) ≡ t → cond t (x.count + amount (pair_of s) ss) (amount (pair_of s) ss) ≡ s.count
        → (amount (pair_of s) ss ≡ s.count → holds s ss ≡ true) → (agree s x || holds s ss) ≡ true
    go true f g rest =
        let p = same_true (pair_of s) (pair_of x) f in
        let n : amount (pair_of s) ss ≡ 0 = ap (λ (k : Pair). amount k ss) p ∙ amount_over o in
        let c : s.count ≡ x.count = omega arith in
        let whole : s ≡ x = λ i. shingle (p i) (c i) in
        rw (agree_equal s x whole)
    go false f g rest = or_true (agree s x) (rest g)

-- A shingle is in the list exactly when its count is the number of nodes that give its pair, and there is one.
counts_listed : (ps : List Pair) (s : Shingle) → how_many (pair_of s) ps ≡ s.count → 1 ≤ s.count → holds s (counted ps) ≡ true
counts_listed ps s e h = amount_holds s (rising_counted ps) (amount_counted (pair_of s) ps ∙ e) h

pub listed_exactly : (ns : List Listed) (s : Shingle)
    → (holds s (shingles_of ns) ≡ true) ↔ ((how_many (pair_of s) (pairs_of ns) ≡ s.count) × (1 ≤ s.count))
unfolding shingles_of
listed_exactly ns s =
    let ps = pairs_of ns in (
      λ h. (sym (amount_counted (pair_of s) ps) ∙ holds_amount s (rising_counted ps) h, (counts_within s (counts_counted ps) h).0),
      λ c. counts_listed ps s c.0 c.1,
    )

-- No count is above the number of nodes.
pub listed_few : (ns : List Listed) (s : Shingle) → holds s (shingles_of ns) ≡ true → s.count ≤ length ns
unfolding shingles_of
listed_few ns s h = omega (arith, (counts_within s (counts_counted (pairs_of ns)) h).1, length_pairs ns)

-- Two rising lists with the same members are equal.
pub not_over : {k : Pair} {ss : List Shingle} (s : Shingle) → pair_of s ≡ k → Over k ss → holds s ss ≡ false
not_over {k} {ss} s e o = go (holds s ss) refl
  where
    go : (t : Bool) → holds s ss ≡ t → holds s ss ≡ false
    go true h = absurd (both (holds_over s o h) (ap (lower k) e ∙ pairs_linear.irreflexive k))
    go false h = h

member_either : (x y : Shingle) (b : List Shingle) → Over (pair_of y) b → holds x (y ∷ b) ≡ true → (lower (pair_of y) (pair_of x) ≡ false) → x ≡ y
unfolding holds
member_either x y b o h e = go (agree x y) refl h
  where
    go : (t : Bool) → agree x y ≡ t → (t || holds x b) ≡ true → x ≡ y
    go true f g = agree_true x y f
    go false f g = absurd (both (holds_over x o g) e)

first_equal : (x y : Shingle) (a b : List Shingle) → Over (pair_of x) a → Over (pair_of y) b → ((s : Shingle) → holds s (x ∷ a) ≡ holds s (y ∷ b)) → x ≡ y
first_equal x y a b o p same =
    elim (pairs_linear.compare (pair_of x) (pair_of y)) [
      | less e f ↦ member_either x y b p (sym (same x) ∙ holds_first x a) f
      | equal e ↦ member_either x y b p (sym (same x) ∙ holds_first x a) (ap (lower (pair_of y)) e ∙ pairs_linear.irreflexive (pair_of y))
      | greater e f ↦ sym (member_either y x a o (same y ∙ holds_first y b) f)
    ]

rest_same : (x y : Shingle) (a b : List Shingle) → Over (pair_of x) a → Over (pair_of y) b → x ≡ y
    → ((s : Shingle) → holds s (x ∷ a) ≡ holds s (y ∷ b)) → (s : Shingle) → holds s a ≡ holds s b
unfolding holds
rest_same x y a b o p e same s = go (agree s x) refl (same s)
  where
    go : (t : Bool) → agree s x ≡ t → (agree s x || holds s a) ≡ (agree s y || holds s b) → holds s a ≡ holds s b
    go true f g =
        let z = agree_true s x f in
        not_over s (ap pair_of z) o ∙ sym (not_over s (ap pair_of (z ∙ e)) p)
    go false f g = rw (← e, f) at g

pub rising_unique : {a b : List Shingle} → Rising a → Rising b → ((s : Shingle) → holds s a ≡ holds s b) → a ≡ b
unfolding holds
rising_unique none none same = refl
rising_unique none (more {s = y} {ss = b} p q) same = absurd (both (holds_first y b) (sym (same y)))
rising_unique (more {s = x} {ss = a} o r) none same = absurd (both (holds_first x a) (same x))
rising_unique (more {s = x} {ss = a} o r) (more {s = y} {ss = b} p q) same =
    let e = first_equal x y a b o p same in
    let rest = rising_unique r q (rest_same x y a b o p e same) in
    λ i. e i ∷ rest i

-- A rising list has one shingle of a pair.
pub one_of_pair : {l : List Shingle} (a b : Shingle) → Rising l → holds a l ≡ true → holds b l ≡ true → pair_of a ≡ pair_of b → a ≡ b
unfolding holds
one_of_pair a b none h i e = absurd (both h refl)
one_of_pair a b (more {s = y} {ss = ss} o r) h i e = go (agree a y) (agree b y) refl refl h i (λ j k. one_of_pair a b r j k e)
  where
    go : (t u : Bool) → agree a y ≡ t → agree b y ≡ u → (t || holds a ss) ≡ true → (u || holds b ss) ≡ true
        → (holds a ss ≡ true → holds b ss ≡ true → a ≡ b) → a ≡ b
    go true true f g j k rest = agree_true a y f ∙ sym (agree_true b y g)
    go true false f g j k rest = absurd (both k (not_over b (sym e ∙ ap pair_of (agree_true a y f)) o))
    go false true f g j k rest = absurd (both j (not_over a (e ∙ ap pair_of (agree_true b y g)) o))
    go false false f g j k rest = rest j k

-- Each shingle that stands in a list is held by it.
pub held_at : (l : List Shingle) (i : ℕ) (d : Shingle) → i < length l → holds (get_or l i d) l ≡ true
unfolding holds
held_at [] i d h = absurd (omega (arith, h))
held_at (s ∷ ss) zero d h = holds_first s ss
held_at (s ∷ ss) (suc i) d h = or_true (agree (get_or ss i d) s) (held_at ss i d (omega (arith, h)))
