-- Number and order as the two calls answer them: each gives back what the other was given, and both say the same of its being the only one.
use mathlib.Core.Bool.{Bool, true}
use mathlib.Core.List.{List, ◌++◌}
use mathlib.Core.Path.{◌≡◌, sym, ap, subst, ◌∙◌}
use Prim.Native.Nat.{ℕ, ◌+◌, ◌-◌, ◌^◌, ◌<◌, ◌≤◌}
use native.Mathlib.Omega.{arith}
use lib.ListN.{length, replicate}
use Rattle.trail.specs.Trails.{pairs_from, pairs_of, total, trail_number, trails_over, order_of, only_over}
use Rattle.trail.specs.Calls.{NumberAnswer, nonzero, number_answer, orderable, order_answer}
use Rattle.trail.specs.declared.Pairs.{Pairs}
use Rattle.trail.proofs.Answers.{number_accepted, number_taken, order_accepted, order_taken}
use Rattle.trail.proofs.Only.{only_alike}
use Rattle.trail.proofs.Orders.{listed_pairs, listed_length, order_of_number, number_of_order}

-- What `number` accepts with a number up to 4,095, `order` gives back over any table of the same pairs.
pub order_after_number : (xs : List ℕ) (pairs : Pairs) → (length pairs.previous ≡ length pairs.count) × (length pairs.own ≡ length pairs.count) →
    pairs_from 0 xs ≡ pairs_of pairs.previous pairs.own pairs.count → (n : ℕ) (only : Bool) →
    number_answer xs ≡ record { answer = 2 ^ 32 + n; only = only } → n ≤ 4095 →
    order_answer pairs n ≡ record { answer = 2 ^ 32 + length xs; k = length xs; ids = xs ++ replicate (32 - length xs) 0; only = only }
order_after_number xs pairs long e n only a h =
    let ps = pairs.previous in
    let os = pairs.own in
    let cs = pairs.count in
    let q = number_accepted xs n (ap (λ (r : NumberAnswer). r.answer) a) in
    let numbered : trail_number xs ≡ n = q.3 in
    let again = subst (λ (m : ℕ). (m < length (trails_over ps os cs)) × (order_of ps os cs m ≡ xs)) numbered (order_of_number ps os cs long xs e (omega (arith, numbered, h))) in
    let size : length xs ≡ total cs = ap length (sym again.1) ∙ listed_length ps os cs long n again.0 in
    let flag : only ≡ only_over ps os cs = ap (λ (r : NumberAnswer). r.only) (sym a) ∙ q.4 ∙ only_alike ps os cs long xs e in
    sym (order_taken pairs n _ (omega (arith, q.0, size)) (omega (arith, q.1, size)) (omega arith) again.0
    (ap (λ (m : ℕ). 2 ^ 32 + m) size) size (λ i. sym again.1 i ++ replicate (32 - size i) 0) flag)

-- What `order` gives, if no id is 0, `number` numbers the same.
pub number_after_order : (pairs : Pairs) → (length pairs.previous ≡ length pairs.count) × (length pairs.own ≡ length pairs.count) →
    (n : ℕ) → orderable pairs n ≡ true → nonzero (order_of pairs.previous pairs.own pairs.count n) ≡ true →
    number_answer (order_of pairs.previous pairs.own pairs.count n)
    ≡ record { answer = 2 ^ 32 + n; only = only_over pairs.previous pairs.own pairs.count }
number_after_order pairs long n o z =
    let ps = pairs.previous in
    let os = pairs.own in
    let cs = pairs.count in
    let q = order_accepted pairs n o in
    let size = listed_length ps os cs long n q.3 in
    let again = number_of_order ps os cs long n q.3 in
    sym (number_taken (order_of ps os cs n) _ (omega (arith, q.0, size)) (omega (arith, q.1, size)) z
    (omega (arith, q.2, again)) (sym (only_alike ps os cs long (order_of ps os cs n) (listed_pairs ps os cs long n q.3))))
