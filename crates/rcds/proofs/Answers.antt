-- Each way out of the calls on trails is a case of their definitions.
use mathlib.Core.Bool.{Bool, true, false, cond}
use mathlib.Core.List.{List, [], ◌∷◌, ◌++◌}
use mathlib.Core.Path.{◌≡◌, refl, sym, ap, ◌∙◌}
use Prim.Native.Nat.{ℕ, zero, suc, ◌+◌, ◌*◌, ◌/◌, ◌%◌, ◌^◌, ◌≤◌, ◌<◌}
use native.Mathlib.Nat.{le_of_suc-le-suc, not-suc-le-zero}
use native.Mathlib.Numerals.{add-one}
use native.Mathlib.Omega.{arith}
use borrow.Author.Tests.{eq-eqb, ne_eqb, le-leb, lt-leb, lt-ltb, le-ltb}
use lib.Dec.{leb, ltb}
use lib.ListN.{length, get_or, take, drop}
use lib.Seq.{take_at}
use Rattle.rows.specs.Rows.{words_of}
use Rattle.rows.proofs.Rows.{length_words}
use Rattle.tree.specs.Questions.{ask}
use Rattle.trail.specs.Trails.{trail_number, order_of, only_trail}
use Rattle.trail.specs.Calls.{NumberAnswer, OrderAnswer, numberable, unnumbered, number_answer, orderable, order_answer}
use Rattle.trail.proofs.Answers.{number_small, order_accepted}
use Rattle.trail.proofs.Orders.{listed_length}
use Rattle.rcds.specs.Trails.{column, bytes_of_ids, marked, marked_number, trail_number_answer, pairs_in, only_in, size_in, trail_order_refusal, Ordered}

column_shift : (n p x : ℕ) (xs : List ℕ) → column n 1 (p + 1) (x ∷ xs) ≡ column n 1 p xs
unfolding column
column_shift zero p x xs = refl
column_shift (suc n) p x xs =
    ap (λ (y : ℕ). y ∷ column n 1 (p + 1 + 1) (x ∷ xs)) (ap (λ (k : ℕ). get_or (x ∷ xs) k 0) (add-one p))
    ∙ ap (λ (l : List ℕ). get_or xs p 0 ∷ l) (column_shift n (p + 1) x xs)

-- A column of every row is the rows themselves.
column_front : (ws : List ℕ) (n : ℕ) → length ws ≤ n → take (length ws) (column n 1 0 ws) ≡ ws
unfolding column
column_front [] n h = refl
column_front (x ∷ xs) zero h = absurd (not-suc-le-zero h)
column_front (x ∷ xs) (suc n) h =
    ap (λ (l : List ℕ). x ∷ l) (ap (take (length xs)) (column_shift n 0 x xs) ∙ column_front xs n (le_of_suc-le-suc h))

module _ (ids : List ℕ) where
  pub number_odd : (length ids % 8 ≡ 0 → ⊥) → 17 ≡ trail_number_answer ids
  unfolding trail_number_answer
  number_odd h = rw (ne_eqb (length ids % 8) 0 h)

  pub number_long : length ids % 8 ≡ 0 → 32 < length ids / 8 → 17 ≡ trail_number_answer ids
  unfolding trail_number_answer number_answer numberable marked
  number_long e h =
      let some : ltb 0 (length (words_of ids)) ≡ true = lt-ltb 0 (length (words_of ids)) (simp length_words (omega arith)) in
      let many : ltb (length (words_of ids)) 33 ≡ false = le-ltb (length (words_of ids)) 33 (simp length_words (omega arith)) in
      rw (eq-eqb (length ids % 8) 0 e, some, many)

  pub number_read : (r : ℕ) (list : List ℕ) (order : NumberAnswer) → length ids % 8 ≡ 0 → length ids / 8 ≤ 32 → list ≡ column 32 1 0 (words_of ids)
      → order ≡ number_answer (take (length ids / 8) list) → r ≡ marked order.answer order.only → r ≡ trail_number_answer ids
  unfolding trail_number_answer
  number_read r list order e h l a m =
      let rows : take (length ids / 8) list ≡ words_of ids =
      ap (take (length ids / 8)) l
      ∙ (ap (λ (n : ℕ). take n (column 32 1 0 (words_of ids))) (sym (length_words ids)) ∙ column_front (words_of ids) 32 (simp length_words h)) in
      m ∙ (ap marked_number (a ∙ ap number_answer rows) ∙ rw (eq-eqb (length ids % 8) 0 e))

-- A refusal has no mark.
pub number_unmarked : (n : ℕ) → n ≡ marked n false
unfolding marked
number_unmarked n = refl

-- What numbering answers is below the mark.
pub number_low : (xs : List ℕ) (order : NumberAnswer) → order ≡ number_answer xs → order.answer < 2 ^ 33
unfolding number_answer
number_low xs order e = go (numberable xs) (ap (λ (r : NumberAnswer). r.answer) e)
  where
    go : (t : Bool) → order.answer ≡ (cond t (record { answer = 2 ^ 32 + trail_number xs; only = only_trail xs }) unnumbered).answer → order.answer < 2 ^ 33
    go true a = omega (arith, a, number_small xs)
    go false a = omega (arith, a)

pub length-column : (n step p : ℕ) (ws : List ℕ) → length (column n step p ws) ≡ n
unfolding column
length-column zero step p ws = refl
length-column (suc n) step p ws = ap suc (length-column n step (p + step) ws)

module _ (table before : List ℕ) (number : ℕ) where
  refused : (k : ℕ) → trail_order_refusal table number (length before) ≡ k → (k ≡ 0 → ⊥) → Ordered table number before before k
  refused k e some = record { answer = rw (e, ne_eqb k 0 some); ids = rw (e, ne_eqb k 0 some) }

  pub order_odd : (length table % 24 ≡ 0 → ⊥) → Ordered table number before before 17
  unfolding trail_order_refusal ask
  order_odd h = refused 17 (rw (ne_eqb (length table % 24) 0 h)) (λ z. omega arith)

  pub order_long : length table % 24 ≡ 0 → 768 < length table → Ordered table number before before 17
  unfolding trail_order_refusal ask
  order_long e h = refused 17 (rw (eq-eqb (length table % 24) 0 e, lt-leb (length table) 768 h)) (λ z. omega arith)

  -- A table of at most 32 whole entries, and the trail that was found over it.
  module _ (whole : length table % 24 ≡ 0) (few : length table ≤ 768) (trail : OrderAnswer) (is : trail ≡ order_answer (pairs_in table) number) where
    asked : (b : Bool) → orderable (pairs_in table) number ≡ b
        → trail_order_refusal table number (length before) ≡ ask b 17 (ask (leb (size_in table * 8) (length before)) 20 0)
    unfolding trail_order_refusal ask
    asked b e = rw (eq-eqb (length table % 24) 0 whole, le-leb (length table) 768 few, e)

    found : (b : Bool) → orderable (pairs_in table) number ≡ b → (trail.k ≡ 0 → ⊥) → b ≡ true
    unfolding order_answer
    found true e h = refl
    found false e h = absurd (h (rw (is, e)))

    size_is : orderable (pairs_in table) number ≡ true → trail.k ≡ size_in table
    unfolding order_answer
    size_is e = rw (is, e)

    missing : (b : Bool) → orderable (pairs_in table) number ≡ b → trail.k ≡ 0 → b ≡ false
    missing false e h = refl
    missing true e h = absurd (omega (arith, size_is e, (order_accepted (pairs_in table) number e).0))

    answer_none : trail.k ≡ 0 → trail.answer ≡ 17
    unfolding order_answer
    answer_none h = let e = missing _ refl h in rw (is, e)

    pub order_none : trail.k ≡ 0 → Ordered table number before before trail.answer
    unfolding ask
    order_none h =
        let e = missing _ refl h in
        rw (answer_none h) (refused 17 (asked false e) (λ z. omega arith))

    -- An answer above the questions' numbers is that of a trail with ids.
    pub order_some : 2 ^ 32 ≤ trail.answer → trail.k ≡ 0 → ⊥
    order_some high h = let low = answer_none h in absurd (omega (arith, high))

    -- A trail with ids.
    module _ (some : trail.k ≡ 0 → ⊥) where
      orders : orderable (pairs_in table) number ≡ true
      orders = found _ refl some

      pub order_small : trail.k ≤ 32
      order_small = omega (arith, size_is orders, (order_accepted (pairs_in table) number orders).1)

      pub order_room : length before / 8 < trail.k → Ordered table number before before 20
      unfolding ask
      order_room h =
          refused 20 (asked true orders ∙ rw (lt-leb (size_in table * 8) (length before) (omega (arith, size_is orders)))) (λ z. omega arith)

      ids_count : length (order_of (pairs_in table).previous (pairs_in table).own (pairs_in table).count number) ≡ size_in table
      ids_count =
          let rows = words_of table in
          let alike : (p : ℕ) → length (column 32 3 p rows) ≡ length (column 32 3 2 rows) = λ p. length-column 32 3 p rows ∙ sym (length-column 32 3 2 rows) in
          listed_length (column 32 3 0 rows) (column 32 3 1 rows) (column 32 3 2 rows) (alike 0, alike 1) number (order_accepted (pairs_in table) number orders).3

      answer_is : trail.answer ≡ 2 ^ 32 + size_in table
      unfolding order_answer
      answer_is = rw (is, orders)

      ids_are : take trail.k trail.ids ≡ order_of (pairs_in table).previous (pairs_in table).own (pairs_in table).count number
      unfolding order_answer
      ids_are =
          let list = order_of (pairs_in table).previous (pairs_in table).own (pairs_in table).count number in
          rw (size_is orders) (rw (is, orders) (take_at list _ (size_in table) ids_count))

      only_is : trail.only ≡ only_in table
      unfolding order_answer
      only_is = rw (is, orders)

      pub order_low : trail.answer < 2 ^ 33
      order_low = omega (arith, answer_is, size_is orders, order_small)

      pub order_written : (after : List ℕ) (r : ℕ) → trail.k ≤ length before / 8 → after ≡ bytes_of_ids (take trail.k trail.ids) ++ drop (trail.k * 8) before
          → r ≡ marked trail.answer trail.only → Ordered table number before after r
      unfolding ask
      order_written after r h e m =
          let accepted : trail_order_refusal table number (length before) ≡ 0 =
          asked true orders ∙ rw (le-leb (size_in table * 8) (length before) (omega (arith, size_is orders))) in
          record {
            answer = m ∙ ((λ i. marked (answer_is i) (only_is i)) ∙ rw accepted);
            ids = e ∙ rw (ids_are, size_is orders, accepted);
          }
