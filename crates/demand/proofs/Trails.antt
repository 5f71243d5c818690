-- Number and order of the calls from C are inverse to each other: as they are of ids (crate `trail`), so of their bytes.
use mathlib.Core.Bool.{Bool, true, false, cond, ◌&&◌}
use mathlib.Core.List.{List, [], ◌∷◌, ◌++◌}
use mathlib.Core.Path.{◌≡◌, refl, sym, ap, subst, fun_ext, ◌∙◌}
use Prim.Native.Nat.{ℕ, zero, suc, ◌+◌, ◌*◌, ◌-◌, ◌/◌, ◌%◌, ◌^◌, ◌≤◌, ◌<◌}
use native.Mathlib.Nat.{mod-eq_of_lt}
use native.Mathlib.Omega.{arith}
use borrow.Author.Tests.{eqb-true, eq-eqb, lt-ltb, le-leb}
use lib.Arith.{digits_div, digits_mod}
use lib.Dec.{eqb, leb}
use lib.ListN.{length, get_or, take, drop}
use lib.Seq.{take_at}
use Rattle.rows.specs.Rows.{word_of, words_of, bytes_of}
use Rattle.rows.proofs.Rows.{length_words, words_cons}
use Rattle.tree.specs.Questions.{ask}
use Rattle.shingle.proofs.PairOrder.{and_true}
use Rattle.setup.proofs.Questions.{ask_small}
use Rattle.trail.specs.Trails.{Multiset, single, pairs_from, tally, pairs_of, trails_over, order_of}
use Rattle.trail.specs.Calls.{nonzero, number_answer, orderable}
use Rattle.trail.proofs.Answers.{number_accepted, order_accepted}
use Rattle.trail.proofs.Calls.{number_after_order}
use Rattle.trail.proofs.Only.{only_alike}
use Rattle.trail.proofs.Orders.{listed_pairs, listed_length, order_of_number}
use Rattle.protocol.specs.Calls.{Every}
use Rattle.protocol.proofs.Cases.{either}
use Rattle.protocol.proofs.Readable.{Byte, row_small}
use Rattle.rcds.specs.Trails.{column, bytes_of_ids, marked, marked_number, trail_number_answer, pairs_in, only_in, size_in, trail_order_refusal, Ordered}
use Rattle.rcds.proofs.Columns.{length_ids}
use Rattle.rcds.proofs.Answers.{number_low, length-column}
use Rattle.demand.specs.Trails.{held, HoldsPairsOf, OrderAfterNumber, NumberAfterOrder}

abbrev Small : ℕ → Type 0
Small x = x < 2 ^ 64

abbrev Nonzero : ℕ → Type 0
Nonzero x = x ≡ 0 → ⊥

-- The mark and what is marked: each can be told from the sum.
marked_same : (a c : ℕ) (b d : Bool) → a < 2 ^ 33 → c < 2 ^ 33 → marked a b ≡ marked c d → (a ≡ c) × (b ≡ d)
unfolding marked
marked_same a c true true low few e = (omega (arith, e), refl)
marked_same a c false false low few e = (e, refl)
marked_same a c true false low few e = absurd (omega (arith, few, e))
marked_same a c false true low few e = absurd (omega (arith, low, e))

marked_count : (n : ℕ) (only : Bool) → n < 2 ^ 32 → (2 ^ 32 ≤ marked (2 ^ 32 + n) only) × (marked (2 ^ 32 + n) only % 2 ^ 32 ≡ n)
unfolding marked
marked_count n true few = (omega arith, omega (arith, few))
marked_count n false few = (omega arith, omega (arith, few))

-- Ids and their bytes.
eight_again : (a b c d e f g h : ℕ) → Byte a → Byte b → Byte c → Byte d → Byte e → Byte f → Byte g → Byte h
    → bytes_of (word_of a b c d e f g h) ≡ a ∷ b ∷ c ∷ d ∷ e ∷ f ∷ g ∷ h ∷ []
unfolding bytes_of
eight_again a b c d e f g h ba bb bc bd be bf bg bh =
    let two = a * 256 + b in
    let three = two * 256 + c in
    let four = three * 256 + d in
    let five = four * 256 + e in
    let six = five * 256 + f in
    let seven = six * 256 + g in
    let eight = seven * 256 + h in
    let to-7 : eight / 256 ≡ seven = digits_div seven bh in
    let to-6 : eight / 256 / 256 ≡ six = ap (λ (n : ℕ). n / 256) to-7 ∙ digits_div six bg in
    let to-5 : eight / 256 / 256 / 256 ≡ five = ap (λ (n : ℕ). n / 256) to-6 ∙ digits_div five bf in
    let to-4 : eight / 256 / 256 / 256 / 256 ≡ four = ap (λ (n : ℕ). n / 256) to-5 ∙ digits_div four be in
    let to-3 : eight / 256 / 256 / 256 / 256 / 256 ≡ three = ap (λ (n : ℕ). n / 256) to-4 ∙ digits_div three bd in
    let to-2 : eight / 256 / 256 / 256 / 256 / 256 / 256 ≡ two = ap (λ (n : ℕ). n / 256) to-3 ∙ digits_div two bc in
    let to-1 : eight / 256 / 256 / 256 / 256 / 256 / 256 / 256 ≡ a = ap (λ (n : ℕ). n / 256) to-2 ∙ digits_div a bb in
    λ i. (ap (λ (n : ℕ). n % 256) to-1 ∙ mod-eq_of_lt ba) i
    ∷ (ap (λ (n : ℕ). n % 256) to-2 ∙ digits_mod a bb) i
    ∷ (ap (λ (n : ℕ). n % 256) to-3 ∙ digits_mod two bc) i
    ∷ (ap (λ (n : ℕ). n % 256) to-4 ∙ digits_mod three bd) i
    ∷ (ap (λ (n : ℕ). n % 256) to-5 ∙ digits_mod four be) i
    ∷ (ap (λ (n : ℕ). n % 256) to-6 ∙ digits_mod five bf) i
    ∷ (ap (λ (n : ℕ). n % 256) to-7 ∙ digits_mod six bg) i
    ∷ digits_mod seven bh i
    ∷ []

ids_bytes : (ids : List ℕ) → Every Byte ids → length ids % 8 ≡ 0 → bytes_of_ids (words_of ids) ≡ ids
unfolding words_of bytes_of_ids Every
ids_bytes [] h e = refl
ids_bytes (a ∷ []) h e = absurd (omega (arith, e))
ids_bytes (a ∷ b ∷ []) h e = absurd (omega (arith, e))
ids_bytes (a ∷ b ∷ c ∷ []) h e = absurd (omega (arith, e))
ids_bytes (a ∷ b ∷ c ∷ d ∷ []) h e = absurd (omega (arith, e))
ids_bytes (a ∷ b ∷ c ∷ d ∷ f ∷ []) h e = absurd (omega (arith, e))
ids_bytes (a ∷ b ∷ c ∷ d ∷ f ∷ g ∷ []) h e = absurd (omega (arith, e))
ids_bytes (a ∷ b ∷ c ∷ d ∷ f ∷ g ∷ i ∷ []) h e = absurd (omega (arith, e))
ids_bytes (a ∷ b ∷ c ∷ d ∷ f ∷ g ∷ i ∷ j ∷ rest) h e =
    let row = eight_again a b c d f g i j h.0 h.1.0 h.1.1.0 h.1.1.1.0 h.1.1.1.1.0 h.1.1.1.1.1.0 h.1.1.1.1.1.1.0 h.1.1.1.1.1.1.1.0 in
    let others = ids_bytes rest h.1.1.1.1.1.1.1.1 (omega (arith, e)) in
    λ n. row n ++ others n

ids_words : (xs : List ℕ) → Every Small xs → words_of (bytes_of_ids xs) ≡ xs
unfolding bytes_of_ids Every
ids_words [] h = unfold words_of in refl
ids_words (x ∷ xs) h = words_cons x (bytes_of_ids xs) h.0 ∙ ap (λ (l : List ℕ). x ∷ l) (ids_words xs h.1)

-- What holds of the own ids of all pairs holds of each id of a sequence that has them.
ids_alike : (P : ℕ → Type 0) (v : ℕ) (xs : List ℕ) → ((p x : ℕ) → 0 < pairs_from v xs p x → P x) → Every P xs
unfolding pairs_from Every
ids_alike P v [] h = tt
ids_alike P v (x ∷ xs) h = (h v x (omega (arith, there)), ids_alike P x xs (λ p y e. h p y (omega (arith, e))))
  where
    there : single v x v x ≡ 1
    there = unfold single in rw (eq-eqb v v refl, eq-eqb x x refl) refl

owns_alike : (P : ℕ → Type 0) (ps os cs : List ℕ) (p x : ℕ) → Every P os → 0 < pairs_of ps os cs p x → P x
unfolding pairs_of tally Every
owns_alike P [] os cs p x h e = absurd (omega (arith, e))
owns_alike P (a ∷ ps) [] cs p x h e = absurd (omega (arith, e))
owns_alike P (a ∷ ps) (o ∷ os) [] p x h e = absurd (omega (arith, e))
owns_alike P (a ∷ ps) (o ∷ os) (c ∷ cs) p x h e =
    either (eqb a p && eqb o x)
    (λ t. subst P (eqb-true o x (and_true (eqb a p) (eqb o x) t).1) h.0)
    (λ t. owns_alike P ps os cs p x h.1 (let there = rw t at e in omega (arith, there)))

column_alike : (P : ℕ → Type 0) (n step at : ℕ) (words : List ℕ) → ((k : ℕ) → P (get_or words k 0)) → Every P (column n step at words)
unfolding column Every
column_alike P zero step at words h = tt
column_alike P (suc n) step at words h = (h at, column_alike P n step (at + step) words h)

all_nonzero : (xs : List ℕ) → Every Nonzero xs → nonzero xs ≡ true
unfolding nonzero Every
all_nonzero [] h = refl
all_nonzero (x ∷ xs) h = let some = h.0 in rw (lt-ltb 0 x (omega (arith, some))) (all_nonzero xs h.1)

-- The columns of a table.
module _ (table : List ℕ) where
  abbrev previouses : List ℕ
  previouses = column 32 3 0 (words_of table)

  abbrev owns : List ℕ
  owns = column 32 3 1 (words_of table)

  abbrev counts : List ℕ
  counts = column 32 3 2 (words_of table)

  long : (length previouses ≡ length counts) × (length owns ≡ length counts)
  long = (length-column 32 3 0 (words_of table) ∙ sym (length-column 32 3 2 (words_of table)), length-column 32 3 1 (words_of table) ∙ sym (length-column 32 3 2 (words_of table)))

  -- A call that was not refused.
  module _ (number : ℕ) (before after : List ℕ) (k : ℕ) (ordered : Ordered table number before after k) where
    abbrev order : List ℕ
    order = order_of previouses owns counts number

    abbrev refusal : ℕ
    refusal = trail_order_refusal table number (length before)

    low : refusal ≤ 20
    unfolding trail_order_refusal
    low = ask_small 20 _ 17 _ (omega arith) (ask_small 20 _ 17 _ (omega arith) (ask_small 20 _ 20 0 (omega arith) (omega arith)))

    taken : refusal ≡ 0 → (k ≡ marked (2 ^ 32 + size_in table) (only_in table)) × (after ≡ bytes_of_ids order ++ drop (size_in table * 8) before)
    taken z = (ordered.answer ∙ rw (eq-eqb refusal 0 z) refl, ordered.ids ∙ rw (eq-eqb refusal 0 z) refl)

    not_refused : 2 ^ 32 ≤ k → refusal ≡ 0
    not_refused high =
        either (eqb refusal 0)
        (λ e. eqb-true _ _ e)
        (λ e. let no : k ≡ refusal = ordered.answer ∙ rw e refl in absurd (omega (arith, high, no, low)))

    orders : refusal ≡ 0 → orderable (pairs_in table) number ≡ true
    unfolding trail_order_refusal ask
    orders z = go (eqb (length table % 24) 0 && leb (length table) 768) (orderable (pairs_in table) number) (leb (size_in table * 8) (length before)) z
      where
        go : (a b c : Bool) → cond a (cond b (cond {A = ℕ} c 0 20) 17) 17 ≡ 0 → b ≡ true
        go true true c e = refl
        go true false c e = absurd (omega (arith, e))
        go false b c e = absurd (omega (arith, e))

    -- What it wrote, over a table of bytes that names no id 0.
    module _ (bytes : Every Byte table) (none : (previous : ℕ) → held table previous 0 ≡ 0) (high : 2 ^ 32 ≤ k) where
      found : orderable (pairs_in table) number ≡ true
      found = orders (not_refused high)

      listed : number < length (trails_over previouses owns counts)
      listed = (order_accepted (pairs_in table) number found).3

      size : length order ≡ size_in table
      size = listed_length previouses owns counts long number listed

      has_pairs : (p x : ℕ) → 0 < pairs_from 0 order p x → 0 < held table p x
      has_pairs p x e = subst (λ (pairs : Multiset). 0 < pairs p x) (listed_pairs previouses owns counts long number listed) e

      small : Every Small order
      small =
          ids_alike Small 0 order
          (λ p x e. owns_alike Small previouses owns counts p x (column_alike Small 32 3 1 (words_of table) (row_small table bytes)) (has_pairs p x e))

      some : nonzero order ≡ true
      some =
          all_nonzero order
          (ids_alike Nonzero 0 order
          (λ p x e z. let there : 0 < held table p 0 = subst (λ (y : ℕ). 0 < held table p y) z (has_pairs p x e) in omega (arith, none p, there)))

      count_is : k % 2 ^ 32 ≡ size_in table
      count_is =
          let few = (order_accepted (pairs_in table) number found).1 in
          ap (λ (n : ℕ). n % 2 ^ 32) (taken (not_refused high)).0 ∙ (marked_count (size_in table) (only_in table) (omega (arith, few))).1

      written : take (k % 2 ^ 32 * 8) after ≡ bytes_of_ids order
      written =
          let many : length order * 8 ≡ k % 2 ^ 32 * 8 = omega (arith, count_is, size) in
          ap (take (k % 2 ^ 32 * 8)) (taken (not_refused high)).1 ∙ take_at (bytes_of_ids order) _ (k % 2 ^ 32 * 8) (length_ids order ∙ many)

      numbered : trail_number_answer (bytes_of_ids order) ≡ marked (2 ^ 32 + number) (only_in table)
      unfolding trail_number_answer
      numbered =
          let whole : length (bytes_of_ids order) % 8 ≡ 0 = omega (arith, length_ids order) in
          rw (eq-eqb (length (bytes_of_ids order) % 8) 0 whole)
          (ap marked_number (ap number_answer (ids_words order small) ∙ number_after_order (pairs_in table) long number found some))

      marked_alike : k ≡ marked (2 ^ 32 + k % 2 ^ 32) (only_in table)
      marked_alike = (taken (not_refused high)).0 ∙ ap (λ (n : ℕ). marked (2 ^ 32 + n) (only_in table)) (sym count_is)

-- An order that has a number, and a table of its pairs.
module _ (ids table before after : List ℕ) (number k : ℕ) (only : Bool) (bytes : Every Byte ids)
    (answer : trail_number_answer ids ≡ marked (2 ^ 32 + number) only) (few : number ≤ 4095) (holds : HoldsPairsOf ids table)
    (room : length ids ≤ length before) (ordered : Ordered table number before after k) where
  abbrev xs : List ℕ
  xs = words_of ids

  whole : (length ids % 8 ≡ 0) × ((number_answer xs).answer ≡ 2 ^ 32 + number) × ((number_answer xs).only ≡ only)
  unfolding trail_number_answer
  whole = go (eqb (length ids % 8) 0) refl answer
    where
      go : (t : Bool) → eqb (length ids % 8) 0 ≡ t → cond t (marked_number (number_answer xs)) 17 ≡ marked (2 ^ 32 + number) only
          → (length ids % 8 ≡ 0) × ((number_answer xs).answer ≡ 2 ^ 32 + number) × ((number_answer xs).only ≡ only)
      go true e f =
          let same = marked_same (number_answer xs).answer (2 ^ 32 + number) (number_answer xs).only only (number_low xs (number_answer xs) refl) (omega (arith, few)) f in
          (eqb-true _ _ e, same.0, same.1)
      go false e f = absurd (omega (arith, (marked_count number only (omega (arith, few))).0, f))

  same : pairs_from 0 xs ≡ held table
  same = fun_ext (λ p. fun_ext (λ x. holds.same p x))

  again : (number < length (trails_over (previouses table) (owns table) (counts table))) × (order_of (previouses table) (owns table) (counts table) number ≡ xs)
  again =
      let is = (number_accepted xs number whole.1).3 in
      subst
      (λ (n : ℕ). (n < length (trails_over (previouses table) (owns table) (counts table))) × (order_of (previouses table) (owns table) (counts table) n ≡ xs))
      is (order_of_number (previouses table) (owns table) (counts table) (long table) xs same (omega (arith, is, few)))

  size_is : size_in table ≡ length xs
  size_is = sym (listed_length (previouses table) (owns table) (counts table) (long table) number again.0) ∙ ap length again.1

  bytes_are : size_in table * 8 ≡ length ids
  bytes_are = omega (arith, size_is, length_words ids, whole.0)

  can_be_ordered : orderable (pairs_in table) number ≡ true
  unfolding orderable
  can_be_ordered =
      let a = number_accepted xs number whole.1 in
      rw (lt-ltb 0 (size_in table) (omega (arith, a.0, size_is)), lt-ltb (size_in table) 33 (omega (arith, a.1, size_is)), lt-ltb number 4096 (omega (arith, few)))
      (lt-ltb number (length (trails_over (previouses table) (owns table) (counts table))) again.0)

  passes : trail_order_refusal table number (length before) ≡ 0
  unfolding trail_order_refusal ask
  passes =
      rw (eq-eqb (length table % 24) 0 holds.whole, le-leb (length table) 768 holds.few, can_be_ordered, le-leb (size_in table * 8) (length before) (omega (arith, bytes_are, room))) refl

  only_is : only_in table ≡ only
  only_is =
      sym (only_alike (previouses table) (owns table) (counts table) (long table) xs same)
      ∙ (sym (number_accepted xs number whole.1).4 ∙ whole.2)

  ordered_again : (k ≡ marked (2 ^ 32 + length ids / 8) only) × (after ≡ ids ++ drop (length ids) before)
  ordered_again =
      let t = taken table number before after k ordered passes in
      let front = ap bytes_of_ids again.1 ∙ ids_bytes ids bytes whole.0 in (
        t.0 ∙ (λ i. marked (2 ^ 32 + (size_is ∙ length_words ids) i) (only_is i)),
        t.1 ∙ (λ i. front i ++ drop (bytes_are i) before),
      )

pub order_after_number_of_calls : OrderAfterNumber
order_after_number_of_calls ids table before after r number k only bytes answers is few holds room ordered =
    ordered_again ids table before after number k only bytes (sym answers ∙ is) few holds room ordered

pub number_after_order_of_calls : NumberAfterOrder
number_after_order_of_calls table before after number k r bytes none ordered high answers = (
  answers ∙ (ap trail_number_answer (written table number before after k ordered bytes none high) ∙ numbered table number before after k ordered bytes none high),
  marked_alike table number before after k ordered bytes none high,
)
