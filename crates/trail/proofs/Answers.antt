-- The questions of the two calls, one law for each way to answer.
use mathlib.Core.Bool.{Bool, true, false, cond, not, ◌&&◌, ◌||◌}
use mathlib.Core.List.{List, [], ◌∷◌, ◌++◌}
use mathlib.Core.Path.{◌≡◌, refl, sym, ap, ◌∙◌}
use Prim.Native.Nat.{ℕ, zero, suc, ◌+◌, ◌-◌, ◌^◌, ◌<◌, ◌≤◌, min}
use native.Mathlib.Omega.{arith}
use lib.Dec.{eqb, ltb}
use lib.ListN.{length, get_or, drop, replicate}
use borrow.Author.Tests.{lt-ltb, le-ltb, ltb-true, eqb-true, eqb-false}
use Rattle.std.specs.List.{list_any}
use Rattle.trail.specs.Trails.{total, rising, pairs_of, trails_over, order_of, trail_number, only_trail, only_over}
use Rattle.std.specs.Prelude.{Result}
use Rattle.trail.specs.Search.{Found, Answer, Columns, Chained, Numberable, Unbalanced, trails_up_to}
use Rattle.trail.specs.Calls.{NumberAnswer, OrderAnswer, nonzero, numberable, unnumbered, number_answer, orderable, refusal, order_answer}
use Rattle.trail.specs.declared.Pairs.{Pairs}
use Rattle.trail.proofs.Every.{no_member}
use Rattle.trail.proofs.Prune.{unbalanced_none}
use Rattle.trail.proofs.Tally.{both_true, Sized}
use Rattle.trail.proofs.Trails.{sound}
use Rattle.trail.proofs.Turn.{up_to_all}

nonzero_any : (xs : List ℕ) → nonzero xs ≡ not (list_any (λ y. eqb y 0) xs)
unfolding nonzero
nonzero_any [] = refl
nonzero_any (x ∷ xs) = go (eqb x 0) refl (nonzero_any xs)
  where
    go : (b : Bool) → eqb x 0 ≡ b → nonzero xs ≡ not (list_any (λ y. eqb y 0) xs) → (ltb 0 x && nonzero xs) ≡ not (b || list_any (λ y. eqb y 0) xs)
    go true e h = rw (le-ltb 0 x (omega (arith, eqb-true x 0 e)))
    go false e h = rw (lt-ltb 0 x (omega (arith, eqb-false x 0 e))) h

-- Whether an id is 0.
pub nonzero_unless : (xs : List ℕ) {zero : Bool} → zero ≡ list_any (λ y. eqb y 0) xs → nonzero xs ≡ not zero
nonzero_unless xs e = nonzero_any xs ∙ ap not (sym e)

pub nonzero_at : (xs : List ℕ) → nonzero xs ≡ true → (i : ℕ) → i < length xs → 0 < get_or xs i 0
unfolding nonzero
nonzero_at [] e i h = absurd (omega arith)
nonzero_at (x ∷ xs) e zero h = ltb-true 0 x (both_true (ltb 0 x) (nonzero xs) e).0
nonzero_at (x ∷ xs) e (suc i) h = nonzero_at xs (both_true (ltb 0 x) (nonzero xs) e).1 i (omega arith)

-- An order without a 0 can be numbered over the table that it was made into.
pub order_numberable : {xs ps os ps' os' cs : List ℕ} {zero : Bool} → length xs ≤ 32 → zero ≡ list_any (λ y. eqb y 0) xs → zero ≡ false →
    Chained xs ps os cs → (ps' ≡ ps) × (os' ≡ os) → Numberable xs ps' os' cs
order_numberable few e f c t =
    record { few = few; nonzero = nonzero_at _ (nonzero_unless _ e ∙ ap not f); table = record { previous = t.0 ∙ c.previous; own = t.1 ∙ c.own; count = c.count } }

module _ (xs : List ℕ) where
  -- The answer to an order that passes.
  abbrev numbered : NumberAnswer
  numbered = record { answer = 2 ^ 32 + trail_number xs; only = only_trail xs }

  pub number_refused : (r : NumberAnswer) → r ≡ unnumbered → (0 < length xs → length xs < 33 → nonzero xs ≡ true → ⊥) → r ≡ number_answer xs
  unfolding number_answer numberable
  number_refused r e f = e ∙ go (ltb 0 (length xs)) (ltb (length xs) 33) (nonzero xs) refl refl refl
    where
      go : (a b c : Bool) → ltb 0 (length xs) ≡ a → ltb (length xs) 33 ≡ b → nonzero xs ≡ c → unnumbered ≡ cond (a && (b && c)) numbered unnumbered
      go true true true ea eb ec = absurd (f (ltb-true _ _ ea) (ltb-true _ _ eb) ec)
      go true true false ea eb ec = refl
      go true false c ea eb ec = refl
      go false b c ea eb ec = refl

  pub number_taken : (r : NumberAnswer) → 0 < length xs → length xs < 33 → nonzero xs ≡ true →
      r.answer ≡ 2 ^ 32 + trail_number xs → r.only ≡ only_trail xs → r ≡ number_answer xs
  unfolding number_answer numberable
  number_taken r a b c e f = rw (lt-ltb 0 (length xs) a, lt-ltb (length xs) 33 b, c) (λ i. record { answer = e i; only = f i })

  -- What an accepted order is like. That it is accepted shows in the answer's number alone.
  pub number_accepted : (n : ℕ) → (number_answer xs).answer ≡ 2 ^ 32 + n →
      (0 < length xs) × (length xs < 33) × (nonzero xs ≡ true) × (trail_number xs ≡ n) × ((number_answer xs).only ≡ only_trail xs)
  unfolding number_answer numberable
  number_accepted n e = go (ltb 0 (length xs)) (ltb (length xs) 33) (nonzero xs) refl refl refl e
    where
      go : (a b c : Bool) → ltb 0 (length xs) ≡ a → ltb (length xs) 33 ≡ b → nonzero xs ≡ c → (cond (a && (b && c)) numbered unnumbered).answer ≡ 2 ^ 32 + n →
          (0 < length xs) × (length xs < 33) × (nonzero xs ≡ true) × (trail_number xs ≡ n) × ((cond (a && (b && c)) numbered unnumbered).only ≡ only_trail xs)
      go true true true ea eb ec e = (ltb-true _ _ ea, ltb-true _ _ eb, ec, omega arith, refl)
      go true true false ea eb ec e = absurd (omega arith)
      go true false c ea eb ec e = absurd (omega arith)
      go false b c ea eb ec e = absurd (omega arith)

module _ (pairs : Pairs) (number : ℕ) where
  abbrev trails : List (List ℕ)
  trails = trails_over pairs.previous pairs.own pairs.count

  -- The answer to a table and a number that pass.
  abbrev ordered : OrderAnswer
  ordered =
      record {
        answer = 2 ^ 32 + total pairs.count;
        k = total pairs.count;
        ids = order_of pairs.previous pairs.own pairs.count number ++ replicate (32 - total pairs.count) 0;
        only = only_over pairs.previous pairs.own pairs.count;
      }

  pub order_refused : (r : OrderAnswer) → r ≡ refusal →
      (0 < total pairs.count → total pairs.count < 33 → number < 4096 → number < length trails → ⊥) → r ≡ order_answer pairs number
  unfolding order_answer orderable
  order_refused r e f = e ∙ go (ltb 0 (total pairs.count)) (ltb (total pairs.count) 33) (ltb number 4096) (ltb number (length trails)) refl refl refl refl
    where
      go : (a b c d : Bool) → ltb 0 (total pairs.count) ≡ a → ltb (total pairs.count) 33 ≡ b → ltb number 4096 ≡ c → ltb number (length trails) ≡ d →
          refusal ≡ cond (a && (b && (c && d))) ordered refusal
      go true true true true ea eb ec ed = absurd (f (ltb-true _ _ ea) (ltb-true _ _ eb) (ltb-true _ _ ec) (ltb-true _ _ ed))
      go true true true false ea eb ec ed = refl
      go true true false d ea eb ec ed = refl
      go true false c d ea eb ec ed = refl
      go false b c d ea eb ec ed = refl

  pub order_taken : (r : OrderAnswer) → 0 < total pairs.count → total pairs.count < 33 → number < 4096 → number < length trails →
      r.answer ≡ 2 ^ 32 + total pairs.count → r.k ≡ total pairs.count →
      r.ids ≡ order_of pairs.previous pairs.own pairs.count number ++ replicate (32 - total pairs.count) 0 →
      r.only ≡ only_over pairs.previous pairs.own pairs.count → r ≡ order_answer pairs number
  unfolding order_answer orderable
  order_taken r a b c d e f g h =
      rw (lt-ltb 0 (total pairs.count) a, lt-ltb (total pairs.count) 33 b, lt-ltb number 4096 c, lt-ltb number (length trails) d)
      (λ i. record { answer = e i; k = f i; ids = g i; only = h i })

-- What an accepted table and number are like.
pub order_accepted : (pairs : Pairs) (number : ℕ) → orderable pairs number ≡ true →
    (0 < total pairs.count) × (total pairs.count < 33) × (number < 4096) × (number < length (trails_over pairs.previous pairs.own pairs.count))
unfolding orderable
order_accepted pairs number e =
    let f = both_true (ltb 0 (total pairs.count)) _ e in
    let g = both_true (ltb (total pairs.count) 33) _ f.1 in
    let h = both_true (ltb number 4096) _ g.1 in
    (ltb-true _ _ f.0, ltb-true _ _ g.0, ltb-true _ _ h.0, ltb-true _ _ h.1)

pub order_found : (pairs : Pairs) (number : ℕ) (r : OrderAnswer) (k : ℕ) (places : List ℕ) →
    k ≡ min 33 (total pairs.count) → (k ≡ 0 → ⊥) → k ≤ 32 → number ≤ 4095 →
    Found (trails_over pairs.previous pairs.own pairs.count) k number places →
    r.answer ≡ 4294967296 + k → r.k ≡ k → r.ids ≡ drop (32 - k) places ++ replicate (32 - k) 0 →
    r.only ≡ only_over pairs.previous pairs.own pairs.count → r ≡ order_answer pairs number
unfolding order_of
order_found pairs number r k places s z few small f e g i h =
    let size : k ≡ total pairs.count = omega arith in
    order_taken pairs number r (omega arith) (omega arith) (omega arith) f.there (e ∙ ap (λ (n : ℕ). 4294967296 + n) size) (g ∙ size)
    (i ∙ (λ j. f.same j ++ replicate (32 - size j) 0)) h

pub number_small : (xs : List ℕ) → trail_number xs ≤ 4096
unfolding trail_number
number_small xs = omega arith

-- What the search answers over all trails, and over a multiset that has none.
pub whole_answer : (ps os cs rest : List ℕ) (last k skip : ℕ) (r : Result (List ℕ) ℕ) → rest ≡ cs → ((i : ℕ) → get_or os i 0 ≤ last) → total cs ≡ k →
    Answer (trails_up_to last k (rising os) 0 (pairs_of ps os rest)) k skip os r → Answer (trails_over ps os cs) k skip os r
unfolding trails_over
whole_answer ps os cs rest last k skip r e bound size a = rw size (rw (e, up_to_all os last k 0 (pairs_of ps os cs) bound) at a)

pub unbalanced_answer : (ps os cs : List ℕ) (skip : ℕ) → Columns ps os cs → Unbalanced ps os cs → length (trails_over ps os cs) + skip ≡ skip
unfolding trails_over
unbalanced_answer ps os cs skip c u =
    rw (no_member (unbalanced_none ps os cs c u) (sound (total cs) (rising os) 0 (pairs_of ps os cs) sized)) (omega arith)
  where
    sized : Sized (total cs) (pairs_of ps os cs)
    sized = record { previouses = ps; owns = os; counts = cs; long = (c.previous ∙ sym c.count, c.own ∙ sym c.count); gives = refl; size = refl }
