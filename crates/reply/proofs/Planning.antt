-- When a composition is planned, and what the plan then says.
use Rattle.std.specs.Prelude.{Option, Result}
use Rattle.std.specs.Bool.{then_some}
use Rattle.std.specs.Result.{result_ok}
use Rattle.std.proofs.Common.{None, Some, Ok, Err, Bool, true, false, cond, not, ◌&&◌, List, [], ◌∷◌, length, ◌≡◌, refl, ap, ◌∙◌, ℕ, ◌+◌, ◌-◌, ◌/◌, ◌^◌, ◌≤◌, ◌<◌, arith}
use Rattle.std.proofs.Math.Option.{some}
use borrow.Author.Tests.{lt-ltb, le-ltb}
use lib.Dec.{ltb}
use lib.ListN.{take, length-take}
use Rattle.refusal.specs.declared.Refusal.{Refusal}
use Rattle.refusal.proofs.Numbers.{number_small}
use Rattle.tree.specs.declared.Settings.{Settings}
use Rattle.shingle.specs.Table.{shingles_in}
use Rattle.trail.specs.Trails.{trail_number, only_trail}
use Rattle.trail.specs.Calls.{NumberAnswer, numbered, numberable, unnumbered, number_answer}
use Rattle.trail.specs.declared.Numbered.{Numbered}
use Rattle.message.specs.Reading.{stated_by}
use Rattle.message_writer.specs.Writing.{paired}
use Rattle.node_table.specs.Nodes.{entries_from}
use Rattle.protocol.specs.Numbers.{stated}
use Rattle.protocol.specs.Sender.{child_ids, has_number, composable, refs_of, referable}
use Rattle.reply.specs.declared.plan.Plan.{Plan}
use Rattle.reply.specs.declared.reference.References.{References}
use Rattle.reply.specs.declared.child.Children.{Children}
use Rattle.reply.specs.Parts.{Collected, Referred, references_of, Planned, ids_below, NodePlanned}

first_false : (a b : Bool) → a ≡ false → a && b ≡ false
first_false a b e = rw e

second_false : (a b : Bool) → b ≡ false → a && b ≡ false
second_false true b e = e
second_false false b e = refl

both_true : (a b : Bool) → a ≡ true → b ≡ true → a && b ≡ true
both_true a b e f = rw (e, f)

-- An order's number from what numbering it returns, and whether it is carried.
module _ (ids : List ℕ) where
  stated_so : (only : Bool) (x : ℕ) → only ≡ only_trail ids → x ≡ trail_number ids → stated_by (then_some (not only) x) ≡ stated ids
  unfolding stated
  stated_so true x e f = rw (← e) refl
  stated_so false x e f = rw (← e) (ap some f)

  abbrev answered : Bool → NumberAnswer
  answered t = cond t (record { answer = 2 ^ 32 + trail_number ids; only = only_trail ids }) unnumbered

  module _ (r : Result Numbered Refusal) (is : numbered r ≡ number_answer ids) where
    number_from : numbered r ≡ answered (numberable ids)
    unfolding number_answer
    number_from = is

    pub no_number : None ≡ result_ok r → has_number ids ≡ false
    unfolding has_number
    no_number none = go (numberable ids) r number_from none
      where
        go : (t : Bool) (r : Result Numbered Refusal) → numbered r ≡ answered t → None ≡ result_ok r → t && ltb (trail_number ids) 4096 ≡ false
        go true (Ok order) e none = absurd cc
        go true (Err question) e none = absurd (omega (arith, number_small question, ap (λ (r : NumberAnswer). r.answer) e))
        go false r e none = refl

    module _ (order : Numbered) (so : Some order ≡ result_ok r) where
      order_from : (r : Result Numbered Refusal) → Some order ≡ result_ok r → numbered r ≡ answered (numberable ids)
          → numbered (Ok order) ≡ answered (numberable ids)
      order_from (Ok o) e from = let same : order ≡ o = cc in rw same from
      order_from (Err question) e from = absurd cc

      pub number_above : 4095 < order.place → has_number ids ≡ false
      unfolding has_number
      number_above h = go (numberable ids) (order_from r so number_from)
        where
          go : (t : Bool) → numbered (Ok order) ≡ answered t → t && ltb (trail_number ids) 4096 ≡ false
          go true e = le-ltb (trail_number ids) 4096 (omega (arith, h, ap (λ (r : NumberAnswer). r.answer) e))
          go false e = refl

      pub number_is : order.place ≤ 4095 → (has_number ids ≡ true) × (stated_by (then_some (not order.only) order.place) ≡ stated ids)
      unfolding has_number
      number_is h = go (numberable ids) (order_from r so number_from)
        where
          go : (t : Bool) → numbered (Ok order) ≡ answered t
              → ((t && ltb (trail_number ids) 4096) ≡ true) × (stated_by (then_some (not order.only) order.place) ≡ stated ids)
          go true e =
              let answer = ap (λ (r : NumberAnswer). r.answer) e in (
                lt-ltb (trail_number ids) 4096 (omega (arith, h, answer)),
                stated_so order.only order.place (ap (λ (r : NumberAnswer). r.only) e) (omega (arith, answer)),
              )
          go false e = absurd (omega (arith, ap (λ (r : NumberAnswer). r.answer) e))

paired_few : (xs ys : List ℕ) → length (paired xs ys) ≤ length xs
unfolding paired
paired_few [] ys = omega arith
paired_few (x ∷ xs) [] = omega arith
paired_few (x ∷ xs) (y ∷ ys) = let h = paired_few xs ys in omega arith

composable_below : (σ : Settings) (l : ℕ) (ids : List ℕ) → l < σ.levels → composable σ l ids ≡ has_number ids
unfolding composable
composable_below σ l ids h = rw (lt-ltb l σ.levels h)

moved : (σ : Settings) (shingles ids below : List ℕ) (l : ℕ) (p : Option Plan) → ids ≡ below → composable σ l below ≡ has_number below
    → Planned (has_number ids && referable (shingles_in shingles) (l + 1) ids) ids (refs_of (shingles_in shingles) (l + 1) ids) p
    → Planned (composable σ l below && referable (shingles_in shingles) (l + 1) below) below (refs_of (shingles_in shingles) (l + 1) below) p
moved σ shingles ids below l p e f w = rw (f, ← e) w

-- Children of level l with these ids.
module _ (shingles : List ℕ) (l : ℕ) (ids : List ℕ) (r : Result Numbered Refusal) (is : numbered r ≡ number_answer ids) where
  abbrev possible : Bool
  possible = has_number ids && referable (shingles_in shingles) l ids

  pub children_unnumbered : None ≡ result_ok r → possible ≡ false
  children_unnumbered none = first_false _ _ (no_number ids r is none)

  pub children_unreferable : Referred (refs_of (shingles_in shingles) l ids) None → possible ≡ false
  unfolding referable
  children_unreferable unreferred = second_false (has_number ids) _ unreferred

  module _ (order : Numbered) (so : Some order ≡ result_ok r) where
    pub children_above : 4095 < order.place → possible ≡ false
    children_above h = first_false _ _ (number_above ids r is order so h)

    pub children_composed : (found : References) → Referred (refs_of (shingles_in shingles) l ids) (Some found) → order.place ≤ 4095
        → (carried : Option ℕ) → carried ≡ then_some (not order.only) order.place
        → Planned possible ids (refs_of (shingles_in shingles) l ids) (Some (record { trail = carried; references = found }))
    unfolding referable references_of
    children_composed found c h carried is_carried =
        let number = number_is ids r is order so h in
        let refs = refs_of (shingles_in shingles) l ids in
        let size = ap length c.refs_are in
        let short = paired_few (take found.count found.indexes) (take found.count found.counts) in
        let few : length refs < 33 = omega (arith, size, short, length-take found.count found.indexes, c.few) in (
          both_true (has_number ids) _ number.0 (both_true (ltb (length refs) 33) _ (lt-ltb (length refs) 33 few) c.low),
          record {
            trail_is = ap stated_by is_carried ∙ number.1;
            references_are = c.refs_are;
            writable = record { few = c.few; indexes_room = c.indexes_room; counts_room = c.counts_room };
          },
        )

-- The node of entry k.
module _ (σ : Settings) (n : ℕ) (nodes shingles : List ℕ) (l k : ℕ) where
  pub level_too_low : σ.levels ≤ l → NodePlanned σ n nodes shingles l k None
  unfolding composable
  level_too_low h = first_false _ _ (first_false _ _ (le-ltb l σ.levels h))

  pub too_many_children : Collected (child_ids n l (entries_from nodes (length nodes / 16 - (k + 1)) (k + 1))) None → NodePlanned σ n nodes shingles l k None
  unfolding composable has_number numberable ids_below
  too_many_children many =
      let ids = ids_below nodes n l k in
      let above = second_false (ltb 0 (length ids)) _ (first_false _ _ (le-ltb (length ids) 33 (omega arith))) in
      first_false _ _ (second_false (ltb l σ.levels) _ (first_false _ _ above))

  pub planned_below : (found : Children) → Collected (child_ids n l (entries_from nodes (length nodes / 16 - (k + 1)) (k + 1))) (Some found)
      → l < σ.levels → (p : Option Plan)
      → Planned (has_number (take found.count found.ids) && referable (shingles_in shingles) (l + 1) (take found.count found.ids))
      (take found.count found.ids) (refs_of (shingles_in shingles) (l + 1) (take found.count found.ids)) p
      → NodePlanned σ n nodes shingles l k p
  unfolding ids_below
  planned_below found c h p w =
      moved σ shingles (take found.count found.ids) (ids_below nodes n l k) l p c.ids_are (composable_below σ l (ids_below nodes n l k) h) w
