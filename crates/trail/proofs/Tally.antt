-- Tables of pairs with counts: taking one pair away, and weighing the pairs of a sequence against those of a table.
use mathlib.Core.Bool.{Bool, true, false, cond, ◌&&◌}
use mathlib.Core.List.{List, [], ◌∷◌}
use mathlib.Core.Path.{◌≡◌, refl, sym, ap, fun_ext, subst, ◌∙◌}
use Prim.Native.Nat.{ℕ, zero, suc, ◌+◌, ◌-◌, ◌<◌, ◌≤◌}
use native.Mathlib.Omega.{arith}
use lib.Dec.{eqb}
use lib.ListN.{length, get_or, set, drop, length-set, drop_of_length-le}
use lib.Seq.{drop-cons}
use native.Mathlib.Numerals.{add-one}
use borrow.Author.Tests.{eqb-true, eq-eqb, ne_eqb}
use Rattle.trail.specs.Trails.{Multiset, single, without, tally, pairs_of, total}

pub both_true : (a b : Bool) → (a && b) ≡ true → (a ≡ true) × (b ≡ true)
both_true true b e = (refl, e)
both_true false b e = (e, let z : ◌≡◌ {A = Bool} false true = e in cc)

pub same_pair : (u v w x : ℕ) → (eqb u v && eqb w x) ≡ true → (u ≡ v) × (w ≡ x)
same_pair u v w x e = let b = both_true _ _ e in (eqb-true _ _ b.0, eqb-true _ _ b.1)

-- One row of another count.
pub tally-set : (test : ℕ → ℕ → Bool) (ps os cs : List ℕ) (i n : ℕ) → i < length ps → i < length os → i < length cs →
    tally test ps os (set cs i n) + cond (test (get_or ps i 0) (get_or os i 0)) (get_or cs i 0) 0 ≡ tally test ps os cs + cond (test (get_or ps i 0) (get_or os i 0)) n 0
unfolding tally
tally-set test [] os cs i n hp ho hc = absurd (omega arith)
tally-set test (p ∷ ps) [] cs i n hp ho hc = absurd (omega arith)
tally-set test (p ∷ ps) (o ∷ os) [] i n hp ho hc = absurd (omega arith)
tally-set test (p ∷ ps) (o ∷ os) (c ∷ cs) zero n hp ho hc = omega arith
tally-set test (p ∷ ps) (o ∷ os) (c ∷ cs) (suc i) n hp ho hc =
    let h = tally-set test ps os cs i n (omega arith) (omega arith) (omega arith) in omega arith

pub total-set : (cs : List ℕ) (i n : ℕ) → i < length cs → total (set cs i n) + get_or cs i 0 ≡ total cs + n
unfolding total
total-set [] i n h = absurd (omega arith)
total-set (c ∷ cs) zero n h = omega arith
total-set (c ∷ cs) (suc i) n h = let r = total-set cs i n (omega arith) in omega arith

-- A row that passes the test counts.
pub row_counts : (test : ℕ → ℕ → Bool) (ps os cs : List ℕ) (i : ℕ) → i < length ps → i < length os → i < length cs →
    test (get_or ps i 0) (get_or os i 0) ≡ true → get_or cs i 0 ≤ tally test ps os cs
unfolding tally
row_counts test [] os cs i hp ho hc e = absurd (omega arith)
row_counts test (p ∷ ps) [] cs i hp ho hc e = absurd (omega arith)
row_counts test (p ∷ ps) (o ∷ os) [] i hp ho hc e = absurd (omega arith)
row_counts test (p ∷ ps) (o ∷ os) (c ∷ cs) zero hp ho hc e = rw e (omega arith)
row_counts test (p ∷ ps) (o ∷ os) (c ∷ cs) (suc i) hp ho hc e =
    let h = row_counts test ps os cs i (omega arith) (omega arith) (omega arith) e in omega arith

-- A row of a table that is not used up and passes the test.
pub record Row (test : ℕ → ℕ → Bool) (ps os cs : List ℕ) : Type 0 where
  pub at : ℕ
  pub low : (at < length ps) × (at < length os) × (at < length cs)
  pub left : 0 < get_or cs at 0
  pub passes : test (get_or ps at 0) (get_or os at 0) ≡ true

further : {test : ℕ → ℕ → Bool} {p o c : ℕ} {ps os cs : List ℕ} → Row test ps os cs → Row test (p ∷ ps) (o ∷ os) (c ∷ cs)
further r = record { at = suc r.at; low = (let h = r.low.0 in omega arith, let h = r.low.1 in omega arith, let h = r.low.2 in omega arith); left = r.left; passes = r.passes }

pub some_row : (test : ℕ → ℕ → Bool) (ps os cs : List ℕ) → 0 < tally test ps os cs → Row test ps os cs
unfolding tally
some_row test [] os cs h = absurd (omega arith)
some_row test (p ∷ ps) [] cs h = absurd (omega arith)
some_row test (p ∷ ps) (o ∷ os) [] h = absurd (omega arith)
some_row test (p ∷ ps) (o ∷ os) (zero ∷ cs) h = further (some_row test ps os cs (skip (test p o) h))
  where
    skip : (b : Bool) → 0 < cond b zero 0 + tally test ps os cs → 0 < tally test ps os cs
    skip true h = omega arith
    skip false h = omega arith
some_row test (p ∷ ps) (o ∷ os) (suc c ∷ cs) h = choose (test p o) refl h (λ (l : 0 < tally test ps os cs). further (some_row test ps os cs l))
  where
    choose : (b : Bool) → test p o ≡ b → 0 < cond b (suc c) 0 + tally test ps os cs → (0 < tally test ps os cs → Row test (p ∷ ps) (o ∷ os) (suc c ∷ cs)) → Row test (p ∷ ps) (o ∷ os) (suc c ∷ cs)
    choose true e h f = record { at = zero; low = (omega arith, omega arith, omega arith); left = omega arith; passes = e }
    choose false e h f = f (omega arith)

-- A row of a table that gives the pair (v, x) and is not used up.
pub record PairRow (ps os cs : List ℕ) (v x : ℕ) : Type 0 where
  pub at : ℕ
  pub low : (at < length ps) × (at < length os) × (at < length cs)
  pub left : 0 < get_or cs at 0
  pub previous : get_or ps at 0 ≡ v
  pub own : get_or os at 0 ≡ x

pub pair_row : (ps os cs : List ℕ) (v x : ℕ) → 0 < pairs_of ps os cs v x → PairRow ps os cs v x
unfolding pairs_of
pair_row ps os cs v x h =
    let r : Row (λ p o. eqb p v && eqb o x) ps os cs = some_row _ ps os cs h in
    let s : (get_or ps r.at 0 ≡ v) × (get_or os r.at 0 ≡ x) = same_pair _ _ _ _ r.passes in
    record { at = r.at; low = r.low; left = r.left; previous = s.0; own = s.1 }

-- A row that is not used up gives its pair.
pub row_pair : (ps os cs : List ℕ) (i : ℕ) → i < length ps → i < length os → i < length cs → get_or cs i 0 ≤ pairs_of ps os cs (get_or ps i 0) (get_or os i 0)
unfolding pairs_of
row_pair ps os cs i hp ho hc = row_counts _ ps os cs i hp ho hc (rw (eq-eqb (get_or ps i 0) (get_or ps i 0) refl, eq-eqb (get_or os i 0) (get_or os i 0) refl))

-- The whole table has as many pairs as its counts add up to.
pub count_le : (cs : List ℕ) (i : ℕ) → i < length cs → get_or cs i 0 ≤ total cs
count_le cs i h = let t = total-set cs i 0 h in omega arith

pub tally-total : (ps os cs : List ℕ) → length ps ≡ length cs → length os ≡ length cs → tally (λ p o. true) ps os cs ≡ total cs
unfolding tally total
tally-total [] [] [] hp ho = refl
tally-total [] [] (c ∷ cs) hp ho = absurd (omega arith)
tally-total [] (o ∷ os) [] hp ho = absurd (omega arith)
tally-total [] (o ∷ os) (c ∷ cs) hp ho = absurd (omega arith)
tally-total (p ∷ ps) [] [] hp ho = absurd (omega arith)
tally-total (p ∷ ps) [] (c ∷ cs) hp ho = absurd (omega arith)
tally-total (p ∷ ps) (o ∷ os) [] hp ho = absurd (omega arith)
tally-total (p ∷ ps) (o ∷ os) (c ∷ cs) hp ho = ap (λ (n : ℕ). c + n) (tally-total ps os cs (omega arith) (omega arith))

-- A test can only pass fewer pairs than there are.
pub tally_le : (test : ℕ → ℕ → Bool) (ps os cs : List ℕ) → tally test ps os cs ≤ total cs
unfolding tally total
tally_le test [] os cs = omega arith
tally_le test (p ∷ ps) [] cs = omega arith
tally_le test (p ∷ ps) (o ∷ os) [] = omega arith
tally_le test (p ∷ ps) (o ∷ os) (c ∷ cs) = choose (test p o) (tally_le test ps os cs)
  where
    choose : (b : Bool) → tally test ps os cs ≤ total cs → cond b c 0 + tally test ps os cs ≤ c + total cs
    choose true h = omega arith
    choose false h = omega arith

pub single_le : (v x : ℕ) (pairs : Multiset) → 0 < pairs v x → (u w : ℕ) → single v x u w ≤ pairs u w
unfolding single
single_le v x pairs h u w = choose (eqb v u && eqb x w) refl
  where
    choose : (b : Bool) → (eqb v u && eqb x w) ≡ b → cond b 1 0 ≤ pairs u w
    choose true e = let s = same_pair v u x w e in rw (← s.0, ← s.1) h
    choose false e = omega arith

pub single_here : (v x : ℕ) → single v x v x ≡ 1
unfolding single
single_here v x = rw (eq-eqb v v refl, eq-eqb x x refl)

-- Taking a pair of a row away.
pub without_row : (ps os cs : List ℕ) (i : ℕ) → i < length ps → i < length os → i < length cs → 0 < get_or cs i 0 →
    pairs_of ps os (set cs i (get_or cs i 0 - 1)) ≡ without (get_or ps i 0) (get_or os i 0) (pairs_of ps os cs)
unfolding pairs_of without single
without_row ps os cs i hp ho hc left = fun_ext (λ u. fun_ext (λ w.
    step u w (eqb (get_or ps i 0) u && eqb (get_or os i 0) w) (tally-set (λ p o. eqb p u && eqb o w) ps os cs i (get_or cs i 0 - 1) hp ho hc)))
  where
    step : (u w : ℕ) (b : Bool) →
        tally (λ p o. eqb p u && eqb o w) ps os (set cs i (get_or cs i 0 - 1)) + cond b (get_or cs i 0) 0 ≡ tally (λ p o. eqb p u && eqb o w) ps os cs + cond b (get_or cs i 0 - 1) 0 →
        tally (λ p o. eqb p u && eqb o w) ps os (set cs i (get_or cs i 0 - 1)) ≡ tally (λ p o. eqb p u && eqb o w) ps os cs - cond b 1 0
    step u w true h = omega arith
    step u w false h = omega arith

-- A multiset of k pairs: a table gives it.
pub record Sized (k : ℕ) (pairs : Multiset) : Type 0 where
  pub previouses : List ℕ
  pub owns : List ℕ
  pub counts : List ℕ
  pub long : (length previouses ≡ length counts) × (length owns ≡ length counts)
  pub gives : pairs_of previouses owns counts ≡ pairs
  pub size : total counts ≡ k

pub sized_without : {k : ℕ} {pairs : Multiset} (v x : ℕ) → Sized (suc k) pairs → 0 < pairs v x → Sized k (without v x pairs)
sized_without {k} {pairs} v x s h =
    let r : PairRow s.previouses s.owns s.counts v x = pair_row _ _ _ v x (subst (λ (f : Multiset). 0 < f v x) (sym s.gives) h) in
    record {
      previouses = s.previouses;
      owns = s.owns;
      counts = set s.counts r.at (get_or s.counts r.at 0 - 1);
      long = (simp length-set s.long.0, simp length-set s.long.1);
      gives = without_row s.previouses s.owns s.counts r.at r.low.0 r.low.1 r.low.2 r.left ∙ (λ i. without (r.previous i) (r.own i) (s.gives i));
      size = let t = total-set s.counts r.at (get_or s.counts r.at 0 - 1) r.low.2 in let z = s.size in let l = r.left in omega arith;
    }

pub sized_none : {pairs : Multiset} → Sized 0 pairs → (u w : ℕ) → pairs u w ≡ 0
unfolding pairs_of
sized_none s u w = subst (λ (f : Multiset). f u w ≡ 0) s.gives (let h = tally_le (λ p o. eqb p u && eqb o w) s.previouses s.owns s.counts in let z = s.size in omega arith)

-- The rows from i on: row i and those after it.
pub total-drop : (cs : List ℕ) (i : ℕ) → i < length cs → total (drop i cs) ≡ get_or cs i 0 + total (drop (i + 1) cs)
unfolding total
total-drop cs i h = rw (add-one i, drop-cons cs i 0 h)

tally-drop : (test : ℕ → ℕ → Bool) (ps os cs : List ℕ) (i : ℕ) → i < length ps → i < length os → i < length cs →
    tally test (drop i ps) (drop i os) (drop i cs) ≡ cond (test (get_or ps i 0) (get_or os i 0)) (get_or cs i 0) 0 + tally test (drop (i + 1) ps) (drop (i + 1) os) (drop (i + 1) cs)
unfolding tally
tally-drop test ps os cs i hp ho hc = rw (add-one i, drop-cons ps i 0 hp, drop-cons os i 0 ho, drop-cons cs i 0 hc)

pub total_end : (cs : List ℕ) (i : ℕ) → length cs ≤ i → total (drop i cs) ≡ 0
unfolding total
total_end cs i h = rw (drop_of_length-le cs {i = i} h)

-- The rows of a column from i on that have this id.
unfoldable pub held_from : ℕ → List ℕ → List ℕ → ℕ → ℕ
held_from id column counts i = tally (λ p o. eqb p id) (drop i column) (drop i column) (drop i counts)

pub held_take : (column counts : List ℕ) (id i : ℕ) → i < length column → i < length counts → get_or column i 0 ≡ id →
    held_from id column counts i ≡ get_or counts i 0 + held_from id column counts (i + 1)
unfolding held_from
held_take column counts id i hp hc e = tally-drop (λ p o. eqb p id) column column counts i hp hp hc ∙ rw (eq-eqb (get_or column i 0) id e)

pub held_skip : (column counts : List ℕ) (id i : ℕ) → i < length column → i < length counts → (get_or column i 0 ≡ id → ⊥) →
    held_from id column counts i ≡ held_from id column counts (i + 1)
unfolding held_from
held_skip column counts id i hp hc f = tally-drop (λ p o. eqb p id) column column counts i hp hp hc ∙ rw (ne_eqb (get_or column i 0) id f) (omega arith)

pub held_end : (column counts : List ℕ) (id i : ℕ) → length column ≤ i → held_from id column counts i ≡ 0
unfolding held_from tally
held_end column counts id i h = rw (drop_of_length-le column {i = i} h)

pub held_le : (column counts : List ℕ) (id : ℕ) → held_from id column counts 0 ≤ total counts
unfolding held_from
held_le column counts id = tally_le (λ p o. eqb p id) column column counts

pub held_all : (column counts : List ℕ) (id : ℕ) → held_from id column counts 0 ≡ tally (λ p o. eqb p id) column column counts
unfolding held_from
held_all column counts id = refl
