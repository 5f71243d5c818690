-- Each way out of composing is a case of its definition.
use Rattle.std.proofs.Common.{None, Some, Result, Ok, Err, ◌⊎◌, inl, inr, ◌^◌, Bool, true, false, cond, ◌&&◌, List, ◌++◌, ◌≡◌, refl, sym, ap, ◌∙◌, ℕ, ◌+◌, ◌-◌, ◌≤◌, ◌<◌, arith, le-leb, leb-true, lt-ltb, leb, length, replicate}
use Rattle.std.specs.Result.{result_ok}
use Rattle.std.proofs.Math.Bool.{false≢true}
use Rattle.std.proofs.Math.Option.{Option}
use lib.ListN.{length-map}
use Rattle.tree.specs.declared.Settings.{Settings}
use Rattle.shingle.specs.declared.Shingle.{Shingle}
use Rattle.refusal.specs.declared.Refusal.{Refusal}
use Rattle.trail.specs.declared.Pairs.{Pairs}
use Rattle.trail.specs.declared.Trail.{Trail}
use Rattle.trail.specs.Trails.{total, trails_over, order_of, only_over}
use Rattle.trail.specs.Calls.{OrderAnswer, ordered, orderable, order_answer}
use Rattle.trail.proofs.Answers.{order_accepted}
use Rattle.message.specs.Words.{Ref}
use Rattle.protocol.specs.Numbers.{meant_by, rightly}
use Rattle.protocol.specs.Receiver.{all_named, previouses, owns, counts, composes}
use Rattle.composition.specs.Composition.{composing, refused, composed_children}
use Rattle.composition.specs.Table.{Columns, Filled}
use Rattle.composition.proofs.Padding.{total-padded, trails_padded}
use Rattle.composition.proofs.Passing.{Passed, passed, passes}

-- The trail that an order gives.
pub order_is : (given : Result Trail Refusal) {order : Trail} {answer : OrderAnswer} → ordered given ≡ answer → Some order ≡ result_ok given
    → ordered (Ok order) ≡ answer
order_is (Ok given) is e = let same : given ≡ _ = cc in rw same at is
order_is (Err question) is e = absurd cc

-- The trail over the table of the references' pairs is the trail over the pairs.
module _ (list : List Shingle) (level : ℕ) (trail : Option ℕ) (refs : List Ref) (pairs : Pairs) (filled : Filled list level refs (Some pairs)) where
  columns : Columns list refs pairs.previous pairs.own pairs.count
  columns = filled.1

  same_total : total pairs.count ≡ total (counts refs)
  same_total = ap total columns.count_is ∙ total-padded (counts refs)

  same_trails : trails_over pairs.previous pairs.own pairs.count ≡ trails_over (previouses list refs) (owns list refs) (counts refs)
  same_trails =
      (λ i. trails_over (columns.previous_is i) (columns.own_is i) (columns.count_is i))
      ∙ trails_padded (previouses list refs) (owns list refs) (counts refs) (length-map refs _ ∙ sym (length-map refs _))
      (length-map refs _ ∙ sym (length-map refs _))

  -- A trail that question 17 lets pass is not refused.
  trail_there : (question : Refusal) → ordered (Err question) ≡ order_answer pairs (meant_by trail)
      → (σ : Settings) (l rest : ℕ) → Passed σ list l trail refs rest → ⊥
  trail_there question is σ l rest p = omega (arith, same_total, p.some, size)
    where
      orders : orderable pairs (meant_by trail) ≡ true
      orders =
          unfold orderable in
          rw (
            same_total,
            same_trails,
            lt-ltb 0 (total (counts refs)) p.some,
            lt-ltb (total (counts refs)) 33 (omega (arith, p.few)),
            lt-ltb (meant_by trail) 4096 (omega (arith, p.small)),
            lt-ltb (meant_by trail) _ p.there,
          )

      size : 0 ≡ total pairs.count
      size = ap (λ x. x.k) is ∙ (unfold order_answer in rw orders refl)

  module _ (order : Trail) (is : ordered (Ok order) ≡ order_answer pairs (meant_by trail)) where
    orders : orderable pairs (meant_by trail) ≡ true
    orders = go (orderable pairs (meant_by trail)) refl
      where
        go : (b : Bool) → orderable pairs (meant_by trail) ≡ b → b ≡ true
        go true e = refl
        go false e =
            let refuses : 2 ^ 32 + order.k ≡ 17 = ap (λ x. x.answer) is ∙ (unfold order_answer in rw e refl) in
            absurd (omega (arith, refuses))

    size_is : order.k ≡ total (counts refs)
    unfolding order_answer
    size_is = ap (λ x. x.k) is ∙ rw orders same_total

    ids_are : order.ids ≡ order_of (previouses list refs) (owns list refs) (counts refs) (meant_by trail) ++ replicate (32 - total (counts refs)) 0
    unfolding order_answer order_of
    ids_are = ap (λ x. x.ids) is ∙ rw (orders, same_trails, same_total)

    only_is : order.only ≡ only_over (previouses list refs) (owns list refs) (counts refs)
    unfolding order_answer only_over
    only_is = ap (λ x. x.only) is ∙ rw (orders, same_trails)

    pub trail_short : order.k ≤ 32
    trail_short = let a = (order_accepted pairs (meant_by trail) orders).1 in omega (arith, size_is, same_total, a)

    accepted : (σ : Settings) (l rest : ℕ) → level ≡ l + 1 → l < σ.levels → rightly trail order.only ≡ true → rest ≤ 128 - order.k
        → Passed σ list l trail refs rest
    accepted σ l rest e low carried h =
        let a = order_accepted pairs (meant_by trail) orders in
        let k = a.0 in
        let n = a.1 in
        let m = a.2 in
        record {
          level = low;
          named = ap (λ (x : ℕ). all_named list x refs) (sym e) ∙ filled.0;
          some = omega (arith, same_total);
          few = omega (arith, same_total);
          small = omega arith;
          there = rw same_trails at a.3;
          carried = ap (rightly trail) (sym only_is) ∙ carried;
          room = omega (arith, size_is, trail_short);
        }

module _ (σ : Settings) (list : List Shingle) (l : ℕ) (trail : Option ℕ) (refs : List Ref) (rest : ℕ) where
  -- A no.
  none_given : (length refs ≤ 32 → Passed σ list l trail refs rest → ⊥) → refused ≡ composed_children σ list l trail refs rest
  unfolding composed_children
  none_given f = go (leb (length refs) 32) (composes σ list l trail refs rest) refl refl
    where
      go : (a b : Bool) → leb (length refs) 32 ≡ a → composes σ list l trail refs rest ≡ b
          → refused
          ≡ cond (a && b)
          (record {
            composed = true;
            count = total (counts refs);
            ids = order_of (previouses list refs) (owns list refs) (counts refs) (meant_by trail) ++ replicate (32 - total (counts refs)) 0;
          })
          refused
      go true true ea eb = absurd (f (leb-true (length refs) 32 ea) (passed σ list l trail refs rest eb))
      go true false ea eb = refl
      go false b ea eb = refl

  pub level_or_count : (count : ℕ) → length refs ≡ count → (σ.levels ≤ l) ⊎ ((l < σ.levels) × (32 < count)) → composing None ≡ composed_children σ list l trail refs rest
  level_or_count count long h = none_given (λ few p. let low = p.level in omega (arith, h))

  pub one_unnamed : all_named list (l + 1) refs ≡ false → composing None ≡ composed_children σ list l trail refs rest
  one_unnamed f = none_given (λ few p. false≢true (sym f ∙ p.named))

  module _ (pairs : Pairs) (filled : Filled list (l + 1) refs (Some pairs)) where
    pub no_trail : (order : Result Trail Refusal) → ordered order ≡ order_answer pairs (meant_by trail) → None ≡ result_ok order
        → composing None ≡ composed_children σ list l trail refs rest
    no_trail (Ok order) is e = absurd cc
    no_trail (Err question) is e = none_given (λ few p. trail_there list (l + 1) trail refs pairs filled question is σ l rest p)

    module _ (order : Trail) (is : ordered (Ok order) ≡ order_answer pairs (meant_by trail)) where
      abbrev size : order.k ≡ total (counts refs)
      size = size_is list (l + 1) trail refs pairs filled order is

      -- The number is carried where there is no other trail, or omitted where there is one; or the pile gets too high.
      pub carried_or_high : (rightly trail order.only ≡ false) ⊎ (128 - order.k < rest) → composing None ≡ composed_children σ list l trail refs rest
      carried_or_high (inl f) =
          let only = only_is list (l + 1) trail refs pairs filled order is in
          none_given (λ few p. false≢true (sym f ∙ (ap (rightly trail) only ∙ p.carried)))
      carried_or_high (inr h) = none_given (λ few p. omega (arith, size, p.room))

      -- The yes.
      pub composed : (count : ℕ) → length refs ≡ count → count ≤ 32 → l < σ.levels → rightly trail order.only ≡ true → rest ≤ 128 - order.k
          → composing (Some (record { count = order.k; ids = order.ids })) ≡ composed_children σ list l trail refs rest
      unfolding composed_children
      composed count long few low carried h =
          rw (
            le-leb (length refs) 32 (omega arith),
            passes σ list l trail refs rest (accepted list (l + 1) trail refs pairs filled order is σ l rest refl low carried h),
          )
          (λ i. record { composed = true; count = size i; ids = ids_are list (l + 1) trail refs pairs filled order is i })
