-- What the references of a node's children say to a receiver that has the sender's list: each names a pair of the list, and together they are
-- the multiset of the children's pairs.
use mathlib.Core.Bool.{Bool, true, false, cond, ◌&&◌}
use mathlib.Core.List.{List, [], ◌∷◌}
use mathlib.Core.Path.{◌≡◌, refl, sym, ap, subst, ◌∙◌, fun_ext}
use Prim.Native.Nat.{ℕ, zero, suc, ◌+◌, ◌≤◌, ◌<◌}
use native.Mathlib.Omega.{arith}
use lib.Dec.{eqb}
use lib.ListN.{length, get_or}
use borrow.Author.Tests.{eqb-true, eqb-false, eq-eqb, ne_eqb, lt-ltb, le-leb}
use Rattle.entries.proofs.Linear.{both}
use Rattle.sort.specs.Shell.{total}
use Rattle.shingle.specs.declared.Shingle.{Shingle}
use Rattle.shingle.specs.Shingles.{Pair, pair, pair_of, shingle}
use Rattle.shingle.specs.Rising.{Over, Rising, none, more, same_pair, how_many}
use Rattle.shingle.specs.Children.{pairs_along}
use Rattle.shingle.specs.Table.{agree, holds}
use Rattle.shingle.proofs.Agreement.{agree_true}
use Rattle.shingle.proofs.Rising.{one_of_pair, held_at}
use Rattle.shingle.proofs.PairOrder.{and_true, same_true, same_equal, same_lower}
use Rattle.trail.specs.Trails.{single, pairs_from, tally, pairs_of}
use Rattle.message.specs.Words.{Ref}
use Rattle.protocol.specs.Sender.{refer, refs_from, refs_of}
use Rattle.protocol.specs.Receiver.{named, is_named, all_named, previouses, owns, counts}

-- Tests.
eqb_swap : (a b : ℕ) → eqb a b ≡ eqb b a
eqb_swap a b = go (eqb a b) refl
  where
    go : (t : Bool) → eqb a b ≡ t → t ≡ eqb b a
    go true e = sym (eq-eqb b a (sym (eqb-true a b e)))
    go false e = sym (ne_eqb b a (λ f. eqb-false a b e (sym f)))

cond_same : (t : Bool) (n : ℕ) → cond t n n ≡ n
cond_same true n = refl
cond_same false n = refl

-- The pairs along ids are of one level, and are the pairs that a trail of these ids uses.
same_along : (l p o v x : ℕ) → same_pair (pair l p o) (pair l v x) ≡ (eqb v p && eqb x o)
unfolding same_pair
same_along l p o v x = rw (eq-eqb l l refl, eqb_swap p v, eqb_swap o x)

along_pairs : (l v : ℕ) (ids : List ℕ) (p o : ℕ) → how_many (pair l p o) (pairs_along l v ids) ≡ pairs_from v ids p o
unfolding how_many pairs_along pairs_from single
along_pairs l v [] p o = refl
along_pairs l v (x ∷ ids) p o = rw (same_along l p o v x) (go (eqb v p && eqb x o) (along_pairs l x ids p o))
  where
    go : (t : Bool) {n k : ℕ} → n ≡ k → cond t (suc n) n ≡ cond t 1 0 + k
    go true e = omega (arith, e)
    go false e = omega (arith, e)

along_level : (l v : ℕ) (ids : List ℕ) (k : Pair) → 1 ≤ how_many k (pairs_along l v ids) → k.level ≡ l
unfolding how_many pairs_along
along_level l v [] k h = absurd (omega (arith, h))
along_level l v (x ∷ ids) k h = go (same_pair k (pair l v x)) refl h (along_level l x ids k)
  where
    go : (t : Bool) → same_pair k (pair l v x) ≡ t → 1 ≤ cond t (suc (how_many k (pairs_along l x ids))) (how_many k (pairs_along l x ids))
        → (1 ≤ how_many k (pairs_along l x ids) → k.level ≡ l) → k.level ≡ l
    go true e g rest = ap (λ (q : Pair). q.level) (same_true k (pair l v x) e)
    go false e g rest = rest g

once_nothing : (k : Pair) (ss : List Shingle) → total (λ (s : Shingle). cond (same_pair k (pair_of s)) 0 0) ss ≡ 0
unfolding total
once_nothing k [] = refl
once_nothing k (s ∷ ss) = rw (cond_same (same_pair k (pair_of s)) 0) (let z = once_nothing k ss in omega (arith, z))

-- In a rising list the pair k stands once, or not at all.
module _ (k : Pair) (n : ℕ) where
  abbrev once : Shingle → ℕ
  once s = cond (same_pair k (pair_of s)) n 0

  once_over : {ss : List Shingle} → Over k ss → total once ss ≡ 0
  unfolding total
  once_over none = refl
  once_over (more {s = s} e o) = rw (same_lower k (pair_of s) e) (let h = once_over o in omega (arith, h))

  once_held : {ss : List Shingle} → Rising ss → (c : ℕ) → holds (shingle k c) ss ≡ true → total once ss ≡ n
  unfolding total holds
  once_held none c h = absurd (both h refl)
  once_held (more {s = s} {ss = ss} o r) c h = go (same_pair k (pair_of s)) refl (once_held r c)
    where
      not-here : same_pair k (pair_of s) ≡ false → agree (shingle k c) s ≡ false
      not-here e = miss (agree (shingle k c) s) refl
        where
          miss : (t : Bool) → agree (shingle k c) s ≡ t → t ≡ false
          miss true f = absurd (both (same_equal k (pair_of s) (ap pair_of (agree_true (shingle k c) s f))) e)
          miss false f = refl

      go : (t : Bool) → same_pair k (pair_of s) ≡ t → (holds (shingle k c) ss ≡ true → total once ss ≡ n) → cond t n 0 + total once ss ≡ n
      go true e rest =
          let zero-after = once_over (subst (λ (q : Pair). Over q ss) (sym (same_true k (pair_of s) e)) o) in
          omega (arith, zero-after)
      go false e rest = let z = rest (rw (not-here e) at h) in omega (arith, z)

module _ (list : List Shingle) (rises : Rising list) (l : ℕ) (ids : List ℕ)
    (there : (k : Pair) → 1 ≤ how_many k (pairs_along l 0 ids)
    → (count : ℕ) × (holds (shingle k count) list ≡ true) × (how_many k (pairs_along l 0 ids) ≤ count)) where
  abbrev times : Shingle → ℕ
  times s = how_many (pair_of s) (pairs_along l 0 ids)

  abbrev blank_shingle : Shingle
  blank_shingle = record { previous = 0; own = 0; level = 0; count = 0 }

  -- The list from index i on.
  record From (i : ℕ) (ss : List Shingle) : Type 0 where
    inside : i + length ss ≡ length list
    at : (j : ℕ) → j < length ss → get_or list (i + j) blank_shingle ≡ get_or ss j blank_shingle

  from_start : From 0 list
  from_start = record { inside = omega arith; at = λ j h. ap (λ (k : ℕ). get_or list k blank_shingle) (omega arith) }

  from_next : {i : ℕ} {s : Shingle} {ss : List Shingle} → From i (s ∷ ss) → From (suc i) ss
  from_next {i} f =
      record {
        inside = omega (arith, f.inside);
        at = λ j h. ap (λ (k : ℕ). get_or list k blank_shingle) (omega arith) ∙ f.at (suc j) (omega (arith, h));
      }

  from_here : {i : ℕ} {s : Shingle} {ss : List Shingle} → From i (s ∷ ss) → get_or list i blank_shingle ≡ s
  from_here {i} f = ap (λ (k : ℕ). get_or list k blank_shingle) (omega arith) ∙ f.at 0 (omega arith)

  -- A sum over references, as a sum over the list.
  sum_refs : (f : Ref → ℕ) (g : Shingle → ℕ → ℕ) → ((r : Ref) → f r ≡ g (named list r) r.count) → ((s : Shingle) → g s 0 ≡ 0)
      → (i : ℕ) (ss : List Shingle) → From i ss → total f (refs_from i ss l ids) ≡ total (λ (s : Shingle). g s (times s)) ss
  unfolding total refs_from
  sum_refs f g same nothing i [] at = refl
  sum_refs f g same nothing i (s ∷ ss) at = go (times s) (sum_refs f g same nothing (suc i) ss (from_next at))
    where
      go : (n : ℕ) → total f (refs_from (suc i) ss l ids) ≡ total (λ (s : Shingle). g s (times s)) ss
          → total f (refer i n (refs_from (suc i) ss l ids)) ≡ g s n + total (λ (s : Shingle). g s (times s)) ss
      go zero e = unfold refer in let z = nothing s in omega (arith, z, e)
      go (suc n) e =
          unfold refer in
          let h = same (record { index = i; count = suc n }) ∙ ap (λ (x : Shingle). g x (suc n)) (from_here at) in
          omega (arith, h, e)

  -- How often the pair (p, o) stands in the references.
  module _ (p o : ℕ) where
    abbrev fitting : Shingle → ℕ → ℕ
    fitting s n = cond (eqb s.previous p && eqb s.own o) n 0

    fitting_once : (s : Shingle) → fitting s (times s) ≡ cond (same_pair (pair l p o) (pair_of s)) (how_many (pair l p o) (pairs_along l 0 ids)) 0
    fitting_once s = go (same_pair (pair l p o) (pair_of s)) refl (eqb s.previous p && eqb s.own o) refl
      where
        other : same_pair (pair l p o) (pair_of s) ≡ false → (eqb s.previous p && eqb s.own o) ≡ true → times s ≡ 0
        other e f = none-there (times s) refl
          where
            none-there : (n : ℕ) → times s ≡ n → n ≡ 0
            none-there zero g = refl
            none-there (suc n) g =
                let t = and_true (eqb s.previous p) (eqb s.own o) f in
                let level = along_level l 0 ids (pair_of s) (omega (arith, g)) in
                let same : pair l p o ≡ pair_of s =
                λ i. pair (sym {a = s.level} {b = l} level i) (sym {a = s.previous} {b = p} (eqb-true s.previous p t.0) i)
                (sym {a = s.own} {b = o} (eqb-true s.own o t.1) i) in
                absurd (both (same_equal (pair l p o) (pair_of s) same) e)

        go : (t : Bool) → same_pair (pair l p o) (pair_of s) ≡ t → (u : Bool) → (eqb s.previous p && eqb s.own o) ≡ u
            → cond u (times s) 0 ≡ cond t (how_many (pair l p o) (pairs_along l 0 ids)) 0
        go true e true f = ap (λ (k : Pair). how_many k (pairs_along l 0 ids)) (sym (same_true (pair l p o) (pair_of s) e))
        go true e false f =
            let k = same_true (pair l p o) (pair_of s) e in
            absurd (both (rw (eq-eqb s.previous p (sym (ap (λ (q : Pair). q.previous) k)), eq-eqb s.own o (sym (ap (λ (q : Pair). q.own) k))) refl) f)
        go false e true f = other e f
        go false e false f = refl

    sum_fitting : total (λ (s : Shingle). fitting s (times s)) list ≡ how_many (pair l p o) (pairs_along l 0 ids)
    sum_fitting =
        (λ i. total (λ (s : Shingle). fitting_once s i) list)
        ∙ go (how_many (pair l p o) (pairs_along l 0 ids)) refl
      where
        go : (n : ℕ) → how_many (pair l p o) (pairs_along l 0 ids) ≡ n → total (once (pair l p o) n) list ≡ n
        go zero e = once_nothing (pair l p o) list
        go (suc n) e =
            let t = there (pair l p o) (omega (arith, e)) in
            once_held (pair l p o) (suc n) rises t.0 t.1

  -- Each reference that the sender writes is named by the list.
  is_named_lem : (i n : ℕ) (s : Shingle) → i < length list → get_or list i blank_shingle ≡ s → times s ≡ suc n → is_named list l (record { index = i; count = suc n }) ≡ true
  unfolding is_named
  is_named_lem i n s h e t =
      let some : 1 ≤ times s = omega (arith, t) in
      let other = there (pair_of s) some in
      let here : holds s list ≡ true = ap (λ (x : Shingle). holds x list) (sym e) ∙ held_at list i blank_shingle h in
      let one : shingle (pair_of s) other.0 ≡ s = one_of_pair (shingle (pair_of s) other.0) s rises other.1 here refl in
      let count : other.0 ≡ s.count = ap (λ (x : Shingle). x.count) one in
      let level : s.level ≡ l = along_level l 0 ids (pair_of s) some in
      let few : suc n ≤ s.count = omega (arith, other.2) in
      rw (e, lt-ltb i (length list) h, eq-eqb s.level l level, le-leb)

  all_named_lem : (i : ℕ) (ss : List Shingle) → From i ss → all_named list l (refs_from i ss l ids) ≡ true
  unfolding all_named refs_from
  all_named_lem i [] at = refl
  all_named_lem i (s ∷ ss) at = go (times s) refl (all_named_lem (suc i) ss (from_next at))
    where
      go : (n : ℕ) → times s ≡ n → all_named list l (refs_from (suc i) ss l ids) ≡ true → all_named list l (refer i n (refs_from (suc i) ss l ids)) ≡ true
      go zero e rest = unfold refer in rest
      go (suc n) e rest = unfold refer all_named in rw (is_named_lem i n s (omega (arith, at.inside)) (from_here at) e) rest

  tally_refs : (test : ℕ → ℕ → Bool) (refs : List Ref)
      → tally test (previouses list refs) (owns list refs) (counts refs) ≡ total (λ (r : Ref). cond (test (named list r).previous (named list r).own) r.count 0) refs
  unfolding tally total
  tally_refs test [] = refl
  tally_refs test (r ∷ refs) = ap (λ (n : ℕ). cond (test (named list r).previous (named list r).own) r.count 0 + n) (tally_refs test refs)

  -- What a receiver makes of the references.
  pub refs_named : all_named list l (refs_of list l ids) ≡ true
  unfolding refs_of
  refs_named = all_named_lem 0 list from_start

  pub refs_pairs : pairs_from 0 ids ≡ pairs_of (previouses list (refs_of list l ids)) (owns list (refs_of list l ids)) (counts (refs_of list l ids))
  unfolding refs_of pairs_of
  refs_pairs = fun_ext (λ p. fun_ext (λ o.
      sym (along_pairs l 0 ids p o)
      ∙ (sym (sum_fitting p o)
      ∙ (sym (sum_refs _ (fitting p o) (λ r. refl) (λ s. cond_same (eqb s.previous p && eqb s.own o) 0) 0 list from_start)
      ∙ sym (tally_refs (λ x y. eqb x p && eqb y o) (refs_from 0 list l ids))))))
