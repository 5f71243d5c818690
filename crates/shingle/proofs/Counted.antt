-- Counting equal neighbours of the sorted pairs gives the shingles: putting one more pair among the sorted ones, and counting
-- it, come to the same in either order.
use mathlib.Core.Bool.{Bool, true, false, cond}
use mathlib.Core.List.{List, [], ◌∷◌, map}
use mathlib.Core.Path.{◌≡◌, refl, sym, ap, ◌∙◌}
use Prim.Native.Nat.{ℕ, ◌+◌, ◌*◌, ◌/◌, ◌%◌, ◌<◌}
use native.Mathlib.Omega.{arith}
use borrow.Author.Tests.{eqb-true, eq-eqb, le-ltb}
use lib.Dec.{eqb}
use lib.ListN.{length}
use Rattle.entries.specs.declared.Entry.{Entry}
use Rattle.entries.specs.Entries.{entry}
use Rattle.entries.specs.Order.{earlier, precedes}
use Rattle.entries.proofs.Linear.{less, equal, greater, both}
use Rattle.entries.proofs.Order.{ahead, alike, behind, keys}
use Rattle.sort.specs.Sort.{insert_of, sort_of}
use Rattle.sort.proofs.Ordered.{sort_map, sort_length}
use Rattle.shingle.specs.declared.Shingle.{Shingle}
use Rattle.shingle.specs.Shingles.{Pair, shingle, pair_of, lower, counting, counted}
use Rattle.shingle.specs.Table.{entry_of}
use Rattle.shingle.specs.Rising.{same_pair}
use Rattle.shingle.specs.Steps.{single, entry_with_count, equal as equal_test, tally, tallied}
use Rattle.shingle.proofs.PairOrder.{pairs_linear, and_true, same_true, same_self, same_equal, same_false, same_lower}

-- Entries of count 1 are ordered as their pairs.
next_is : (a b : Pair) (t : Bool) → (a.level ≡ b.level → t ≡ false)
    → earlier a.level a.previous a.own b.level b.previous b.own t ≡ lower a b
unfolding lower
next_is a b t h =
    elim (keys a.level a.previous a.own b.level b.previous b.own) [
      | ahead e f ↦ e t ∙ sym (e false)
      | alike e f g ↦ ap (earlier a.level a.previous a.own b.level b.previous b.own) (h e)
      | behind e f ↦ f t ∙ sym (f false)
    ]

precedes-single : (a b : Pair) → precedes (single a) (single b) ≡ lower a b
unfolding precedes
precedes-single a b =
    let one : (a.level * 65536 + 1) / 65536 ≡ a.level = omega arith in
    let two : (b.level * 65536 + 1) / 65536 ≡ b.level = omega arith in
    rw (one, two) (next_is a b _ (λ e. le-ltb (a.level * 65536 + 1) (b.level * 65536 + 1) (omega arith)))

equal_true : (a b : Entry) → equal_test a b ≡ true → a ≡ b
unfolding equal_test
equal_true a b e =
    let p = and_true (eqb a.previous b.previous) _ e in
    let q = and_true (eqb a.own b.own) _ p.1 in
    let one = eqb-true a.previous b.previous p.0 in
    let two = eqb-true a.own b.own q.0 in
    let three = eqb-true a.tail b.tail q.1 in
    λ i. record { previous = one i; own = two i; tail = three i }

equal_self : (e : Entry) → equal_test e e ≡ true
unfolding equal_test
equal_self e = rw (eq-eqb e.previous e.previous refl, eq-eqb e.own e.own refl, eq-eqb e.tail e.tail refl)

equal_differ : (a b : Entry) → (a ≡ b → ⊥) → equal_test a b ≡ false
equal_differ a b n = go (equal_test a b) refl
  where
    go : (t : Bool) → equal_test a b ≡ t → equal_test a b ≡ false
    go true e = absurd (n (equal_true a b e))
    go false e = e

single_injective : (a b : Pair) → single a ≡ single b → a ≡ b
single_injective a b e =
    let tails : a.level * 65536 + 1 ≡ b.level * 65536 + 1 = ap (λ (x : Entry). x.tail) e in
    let levels : a.level ≡ b.level = omega arith in
    λ i. record { level = levels i; previous = (e i).previous; own = (e i).own }

-- m more of the pair k before a list of shingles: the first's count is raised if it has that pair.
push : ℕ → Pair → List Shingle → List Shingle
push m k [] = shingle k m ∷ []
push m k (s ∷ ss) = cond (same_pair k (pair_of s)) (shingle k (s.count + m) ∷ ss) (shingle k m ∷ s ∷ ss)

-- The shingles of pairs whose equal ones are neighbours.
runs : List Pair → List Shingle
runs [] = []
runs (k ∷ ks) = push 1 k (runs ks)

-- The pair x is before k: the order in which they are counted does not matter.
push_other : (x k : Pair) (s : Shingle) (ss : List Shingle) → same_pair x k ≡ false → same_pair x (pair_of s) ≡ false
    → push 1 x (counting k (s ∷ ss)) ≡ shingle x 1 ∷ counting k (s ∷ ss)
unfolding push counting
push_other x k s ss e f = go (lower (pair_of s) k) (lower k (pair_of s))
  where
    go : (t u : Bool) → push 1 x (cond t (s ∷ counting k ss) (cond u (shingle k 1 ∷ s ∷ ss) (shingle k (s.count + 1) ∷ ss)))
        ≡ shingle x 1 ∷ cond t (s ∷ counting k ss) (cond u (shingle k 1 ∷ s ∷ ss) (shingle k (s.count + 1) ∷ ss))
    go true true = rw f
    go true false = rw f
    go false true = rw e
    go false false = rw e

counting_after : (k : Pair) (s : Shingle) (ss : List Shingle) → lower (pair_of s) k ≡ true → counting k (s ∷ ss) ≡ s ∷ counting k ss
unfolding counting
counting_after k s ss e = rw e

push_same : (m : ℕ) (k : Pair) (s : Shingle) (ss : List Shingle) → same_pair k (pair_of s) ≡ true → push m k (s ∷ ss) ≡ shingle k (s.count + m) ∷ ss
unfolding push
push_same m k s ss e = rw e

push_counting : (x k : Pair) (ss : List Shingle) → lower x k ≡ true → push 1 x (counting k ss) ≡ counting k (push 1 x ss)
unfolding push counting
push_counting x k [] e = rw (same_lower x k e, e)
push_counting x k (s ∷ ss) e = go (same_pair x (pair_of s)) refl
  where
    go : (t : Bool) → same_pair x (pair_of s) ≡ t → push 1 x (counting k (s ∷ ss)) ≡ counting k (cond t (shingle x (s.count + 1) ∷ ss) (shingle x 1 ∷ s ∷ ss))
    go true f =
        let before : lower (pair_of s) k ≡ true = ap (λ (p : Pair). lower p k) (sym (same_true x (pair_of s) f)) ∙ e in
        ap (push 1 x) (counting_after k s ss before)
        ∙ (push_same 1 x s (counting k ss) f ∙ sym (counting_after k (shingle x (s.count + 1)) ss e))
    go false f = push_other x k s ss (same_lower x k e) f ∙ rw e

push_first : (k : Pair) (s : Shingle) (ss : List Shingle) → lower (pair_of s) k ≡ false → push 1 k (s ∷ ss) ≡ counting k (s ∷ ss)
unfolding push counting
push_first k s ss e =
    elim (pairs_linear.compare k (pair_of s)) [
      | less f g ↦ rw (e, f, same_lower k (pair_of s) f)
      | equal f ↦ rw (e, same_equal k (pair_of s) f, ap (lower k) (sym f) ∙ pairs_linear.irreflexive k)
      | greater f g ↦ absurd (both f e)
    ]

push_twice : (x k : Pair) (ss : List Shingle) → lower x k ≡ false → push 1 k (push 1 x ss) ≡ counting k (push 1 x ss)
unfolding push
push_twice x k [] e = push_first k (shingle x 1) [] e
push_twice x k (s ∷ ss) e = go (same_pair x (pair_of s))
  where
    go : (t : Bool) → push 1 k (cond t (shingle x (s.count + 1) ∷ ss) (shingle x 1 ∷ s ∷ ss)) ≡ counting k (cond t (shingle x (s.count + 1) ∷ ss) (shingle x 1 ∷ s ∷ ss))
    go true = push_first k (shingle x (s.count + 1)) ss e
    go false = push_first k (shingle x 1) (s ∷ ss) e

runs_insert : (k : Pair) (l : List Pair) → runs (insert_of lower k l) ≡ counting k (runs l)
unfolding insert_of runs counting push
runs_insert k [] = refl
runs_insert k (x ∷ l) = go (lower x k) refl (runs_insert k l)
  where
    go : (t : Bool) → lower x k ≡ t → runs (insert_of lower k l) ≡ counting k (runs l)
        → runs (cond t (x ∷ insert_of lower k l) (k ∷ x ∷ l)) ≡ counting k (push 1 x (runs l))
    go true e ih = ap (push 1 x) ih ∙ push_counting x k (runs l) e
    go false e ih = push_twice x k (runs l) e

runs_sort : (l : List Pair) → runs (sort_of lower l) ≡ counted l
unfolding sort_of counted runs
runs_sort [] = refl
runs_sort (k ∷ l) = runs_insert k (sort_of lower l) ∙ ap (counting k) (runs_sort l)

-- The pass that counts equal neighbours, on entries of count 1.
push_more : (m : ℕ) (x : Pair) (ss : List Shingle) → push m x (push 1 x ss) ≡ push (m + 1) x ss
unfolding push
push_more m x [] = rw (same_self x) (ap (λ (n : ℕ). shingle x n ∷ []) {x = 1 + m} {y = m + 1} (omega arith))
push_more m x (s ∷ ss) = go (same_pair x (pair_of s))
  where
    go : (t : Bool) → push m x (cond t (shingle x (s.count + 1) ∷ ss) (shingle x 1 ∷ s ∷ ss)) ≡ cond t (shingle x (s.count + (m + 1)) ∷ ss) (shingle x (m + 1) ∷ s ∷ ss)
    go true = rw (same_self x) (ap (λ (n : ℕ). shingle x n ∷ ss) {x = s.count + 1 + m} {y = s.count + (m + 1)} (omega arith))
    go false = rw (same_self x) (ap (λ (n : ℕ). shingle x n ∷ s ∷ ss) {x = 1 + m} {y = m + 1} (omega arith))

push_next : (m : ℕ) (x y : Pair) (ss : List Shingle) → same_pair x y ≡ false → push m x (push 1 y ss) ≡ shingle x m ∷ push 1 y ss
unfolding push
push_next m x y [] e = rw e
push_next m x y (s ∷ ss) e = go (same_pair y (pair_of s))
  where
    go : (t : Bool) → push m x (cond t (shingle y (s.count + 1) ∷ ss) (shingle y 1 ∷ s ∷ ss)) ≡ shingle x m ∷ cond t (shingle y (s.count + 1) ∷ ss) (shingle y 1 ∷ s ∷ ss)
    go true = rw e
    go false = rw e

with_count : (x : Pair) (m : ℕ) → m < 65536 → entry_with_count (single x) m ≡ entry_of (shingle x m)
with_count x m h = ap (entry x.previous x.own) {x = (x.level * 65536 + 1) / 65536 * 65536 + m % 65536} {y = x.level * 65536 + m} (omega arith)

-- Entries of count 1 are equal as their pairs are.
equal_single : (a b : Pair) → equal_test (single a) (single b) ≡ same_pair a b
equal_single a b = go (same_pair a b) refl
  where
    go : (t : Bool) → same_pair a b ≡ t → equal_test (single a) (single b) ≡ t
    go true e = ap (λ (p : Pair). equal_test (single a) (single p)) (sym (same_true a b e)) ∙ equal_self (single a)
    go false e = equal_differ (single a) (single b) (λ f. same_false a b e (single_injective a b f))

tally_runs : (x : Pair) (m : ℕ) (xs : List Pair) → m + length xs < 65536
    → tally (single x) m (map single xs) ≡ map entry_of (push m x (runs xs))
unfolding tally push runs
tally_runs x m [] h = ap (λ (e : Entry). e ∷ []) (with_count x m (omega arith))
tally_runs x m (y ∷ ys) h =
    rw (equal_single x y) (go (same_pair x y) refl (tally_runs x (m + 1) ys (omega arith)) (tally_runs y 1 ys (omega arith)))
  where
    go : (t : Bool) → same_pair x y ≡ t
        → tally (single x) (m + 1) (map single ys) ≡ map entry_of (push (m + 1) x (runs ys))
        → tally (single y) 1 (map single ys) ≡ map entry_of (push 1 y (runs ys))
        → cond t (tally (single x) (m + 1) (map single ys)) (entry_with_count (single x) m ∷ tally (single y) 1 (map single ys)) ≡ map entry_of (push m x (push 1 y (runs ys)))
    go true e one two = one ∙ ap (map entry_of) (sym (push_more m x (runs ys)) ∙ ap (λ (p : Pair). push m x (push 1 p (runs ys))) (same_true x y e))
    go false e one two = (λ i. with_count x m (omega arith) i ∷ two i) ∙ sym (ap (map entry_of) (push_next m x y (runs ys) e))

tallied_runs : (l : List Pair) → length l < 65536 → tallied (map single l) ≡ map entry_of (runs l)
unfolding tallied runs
tallied_runs [] h = refl
tallied_runs (x ∷ xs) h = tally_runs x 1 xs (omega arith)

pub tallied-counted : (l : List Pair) → length l < 65536 → tallied (sort_of precedes (map single l)) ≡ map entry_of (counted l)
tallied-counted l h =
    ap tallied (sort_map lower precedes single precedes-single l)
    ∙ (tallied_runs (sort_of lower l) (rw (sort_length lower l) h) ∙ ap (map entry_of) (runs_sort l))
