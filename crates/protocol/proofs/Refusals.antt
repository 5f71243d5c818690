-- What taking a message comes to: a refusal by 1 to 11, one by 12 to 19, or it is accepted. And what an opening of another rule comes to.
use mathlib.Core.Bool.{Bool, true, false, ◌&&◌}
use mathlib.Core.List.{List, [], ◌∷◌}
use mathlib.Core.Option.{Option, none, some}
use mathlib.Core.Path.{◌≡◌, refl}
use Prim.Native.Nat.{ℕ, ◌+◌, ◌≤◌}
use native.Mathlib.Omega.{arith}
use borrow.Author.Tests.{eqb-true, eqb-false, ne_eqb}
use lib.Dec.{eqb}
use lib.ListN.{length, drop, replicate, length-append}
use Rattle.fnv.specs.Fnv.{id_of_block}
use Rattle.partition.specs.Cuts.{rule_number}
use Rattle.tree.specs.Questions.{ask}
use Rattle.shingle.proofs.PairOrder.{and_true}
use Rattle.setup.specs.Questions.{tables_fit}
use Rattle.setup.proofs.Questions.{lent_small}
use Rattle.message.specs.Messages.{Msg, opening_query, node_query, opening, composition, literal, no_node, parse}
use Rattle.protocol.specs.Lent.{Lent, refused_by, with_output}
use Rattle.protocol.specs.State.{Pending, State, live, running, over, outstanding}
use Rattle.protocol.specs.Receiver.{refused, waiting, handed, number_of, Result, result, unchanged, ends, Settled, too_long, left, output_with, conclude, opening_refusal, take_opening, node_refusal, take_node, act, hear, matches, take_message}
use Rattle.protocol.specs.Refusals.{Refuses, Refusals}
use Rattle.protocol.proofs.Cases.{chosen}

-- A question that fails has one of these numbers.
abbrev Between : ℕ → ℕ → ℕ → Type 0
Between low high k = (k ≡ 0 → ⊥) → (low ≤ k) × (k ≤ high)

module _ (s : State) (m : Lent) where
  abbrev zeroed : Lent
  zeroed = with_output m (replicate (length m.output) 0)

  -- A result of taking a message.
  pub data Verdict : Result → Type 0 where
    early : (k : ℕ) → 1 ≤ k → k ≤ 11 → Verdict (result (refused k) s m)
    late : (k : ℕ) → 12 ≤ k → k ≤ 19 → Verdict (result (refused k) (over s) zeroed)
    further : (t : State) (after : Lent) → Verdict (result waiting t after)
    done : (n : ℕ) (t : State) (after : Lent) → n ≤ length after.output → Verdict (result (handed n) t after)

  asked : (low high : ℕ) (test : Bool) (number next : ℕ) → low ≤ number → number ≤ high → Between low high next → Between low high (ask test number next)
  unfolding ask
  asked low high true number next l h rest fails = rest fails
  asked low high false number next l h rest fails = (l, h)

  passed : (low high : ℕ) → Between low high 0
  passed low high fails = absurd (fails refl)

  unchanged_verdict : (k : ℕ) → 1 ≤ k → k ≤ 11 → Verdict (unchanged k s m)
  unfolding unchanged
  unchanged_verdict k low high = early k low high

  ends_verdict : (k : ℕ) → 12 ≤ k → k ≤ 19 → Verdict (ends k s m)
  unfolding ends
  ends_verdict k low high = late k low high

  output_holds : (built : List ℕ) (size : ℕ) → eqb (length built) size ≡ true → size ≤ length (output_with built m.output)
  unfolding output_with
  output_holds built size e = omega (arith, eqb-true (length built) size e, length-append built (drop (length built) m.output))

  conclude_verdict : (shingles : List ℕ) (size root taken : ℕ) (t : Settled) → Verdict (conclude s m shingles size root taken t)
  unfolding conclude
  conclude_verdict shingles size root taken too_long = ends_verdict 18 (omega arith) (omega arith)
  conclude_verdict shingles size root taken (left built []) =
      chosen Verdict (eqb (length built) size && eqb (id_of_block built) root) _ _
      (λ e. done size _ _ (output_holds built size (and_true (eqb (length built) size) _ e).0))
      (λ e. ends_verdict 19 (omega arith) (omega arith))
  conclude_verdict shingles size root taken (left built (e ∷ es)) = further _ _

  opening_between : (rule w p L M q size : ℕ) (cells : List ℕ) → Between 12 19 (opening_refusal s m rule w p L M q size cells)
  unfolding opening_refusal
  opening_between rule w p L M q size cells =
      asked 12 19 _ 12 _ (omega arith) (omega arith) (asked 12 19 _ 13 _ (omega arith) (omega arith)
      (asked 12 19 _ 14 0 (omega arith) (omega arith) (passed 12 19)))

  node_between : (there composed : Bool) (bytes : List ℕ) → Between 12 19 (node_refusal s m there composed bytes)
  unfolding node_refusal
  node_between there composed bytes =
      asked 12 19 _ 13 _ (omega arith) (omega arith) (asked 12 19 _ 15 _ (omega arith) (omega arith)
      (asked 12 19 _ 16 _ (omega arith) (omega arith) (asked 12 19 _ 17 _ (omega arith) (omega arith)
      (asked 12 19 _ 18 0 (omega arith) (omega arith) (passed 12 19)))))

  opening_verdict : (rule w p L M q size root : ℕ) (cells : List ℕ) → Verdict (take_opening s m rule w p L M q size root cells)
  unfolding take_opening
  opening_verdict rule w p L M q size root cells =
      chosen Verdict (eqb (opening_refusal s m rule w p L M q size cells) 0) _ _
      (λ e. conclude_verdict _ size root 0 _)
      (λ e. let k = opening_between rule w p L M q size cells (eqb-false _ 0 e) in ends_verdict _ k.0 k.1)

  node_verdict : (refusal : ℕ) (bytes : List ℕ) (pile : List Pending) → Between 12 19 refusal → Verdict (take_node s m refusal bytes pile)
  unfolding take_node
  node_verdict refusal bytes pile between =
      chosen Verdict (eqb refusal 0) _ _
      (λ e. conclude_verdict m.shingles s.size s.root (s.taken + 1) _)
      (λ e. let k = between (eqb-false refusal 0 e) in ends_verdict refusal k.0 k.1)

  act_verdict : (x : Msg) → Verdict (act s m x)
  unfolding act
  act_verdict (opening_query n) = unchanged_verdict 11 (omega arith) (omega arith)
  act_verdict (node_query n l i) = unchanged_verdict 11 (omega arith) (omega arith)
  act_verdict (opening n rule w p L M q size root cells) = opening_verdict rule w p L M q size root cells
  act_verdict (composition n l i x refs) = node_verdict _ [] _ (node_between _ _ _)
  act_verdict (literal n l i bytes) = node_verdict _ bytes _ (node_between _ _ _)
  act_verdict (no_node n l i) = node_verdict _ [] [] (node_between _ _ _)

  hear_verdict : (x : Option Msg) → Verdict (hear s m x)
  unfolding hear
  hear_verdict none = unchanged_verdict 10 (omega arith) (omega arith)
  hear_verdict (some x) =
      chosen Verdict (matches (outstanding s) x) (act s m x) (unchanged 11 s m) (λ e. act_verdict x) (λ e. unchanged_verdict 11 (omega arith) (omega arith))

  pub verdict : (message : List ℕ) → Verdict (take_message s m message)
  unfolding take_message
  verdict message =
      let lent-low = lent_small s.settings (length m.string) (tables_fit s.settings.width (length m.nodes) (length m.shingles) (length m.cells)) in
      chosen Verdict (eqb (refused_by s.settings m) 0) _ _
      (λ e. chosen Verdict (running s) _ _ (λ f. hear_verdict (parse message)) (λ f. unchanged_verdict 9 (omega arith) (omega arith)))
      (λ e. let fails = eqb-false (refused_by s.settings m) 0 e in unchanged_verdict _ (omega arith) (omega (arith, lent-low)))

  over_stopped : running (over s) ≡ false
  unfolding running over live
  over_stopped = refl

  refuses : {r : Result} → Verdict r → Refuses s m r
  unfolding number_of
  refuses (early k low high) =
      record { last = λ h. omega (arith, high); to_11 = λ l h. record { state = refl; lent = refl }; from_12 = λ l h. absurd (omega (arith, l, high)) }
  refuses (late k low high) =
      record {
        last = λ h. high;
        to_11 = λ l h. absurd (omega (arith, h, low));
        from_12 = λ l h. record { state = refl; stopped = over_stopped; output = refl; string = refl; nodes = refl; shingles = refl; cells = refl };
      }
  refuses (further t after) = record { last = λ h. omega arith; to_11 = λ l h. absurd (omega (arith, l)); from_12 = λ l h. absurd (omega (arith, l)) }
  refuses (done n t after holds) =
      record { last = λ h. absurd (omega (arith, h)); to_11 = λ l h. absurd (omega (arith, h)); from_12 = λ l h. absurd (omega (arith, h)) }

pub refusals : Refusals
refusals s m message = refuses s m (verdict s m message)

-- "ends with rule 1 meet refusal 12", and so does every other rule than the own, whatever else the opening has.
module _ (s : State) (m : Lent) (n rule w p L M q size root : ℕ) (cells : List ℕ) (other : rule ≡ rule_number → ⊥) where
  pub other_rule : opening_refusal s m rule w p L M q size cells ≡ 12
  unfolding opening_refusal ask
  other_rule = rw (ne_eqb rule rule_number other)

  abbrev announced : Msg
  announced = opening n rule w p L M q size root cells

  -- Such an opening that passes the questions before 12 ends the session.
  pub other_rule_ends : (message : List ℕ) → refused_by s.settings m ≡ 0 → running s ≡ true → parse message ≡ some announced
      → matches (outstanding s) announced ≡ true → take_message s m message ≡ ends 12 s m
  unfolding take_message hear act take_opening
  other_rule_ends message passes runs read fits = rw (passes, runs, read, fits, other_rule)
