-- Each way out of taking a message is a case of the definition.
use Rattle.std.proofs.Common.{Err}
use mathlib.Core.Bool.{true, false}
use mathlib.Core.List.{List, []}
use mathlib.Core.Option.{none, some}
use mathlib.Core.Path.{◌≡◌, refl, sym, ap, ◌∙◌}
use Prim.Native.Nat.{ℕ, ◌≤◌, ◌<◌}
use native.Mathlib.Omega.{arith}
use borrow.Author.Tests.{eq-eqb, ne_eqb, le-leb}
use lib.ListN.{length}
use Rattle.tree.specs.declared.Settings.{Settings}
use Rattle.refusal.specs.declared.Refusal.{Refusal}
use Rattle.refusal.specs.Answer.{number_of}
use Rattle.tree.proofs.Questions.{granted}
use Rattle.setup.specs.Questions.{tables_fit, lent_refusal}
use Rattle.setup.proofs.Questions.{lent as lent_passed, lent_small}
use Rattle.message.specs.Messages.{parse}
use Rattle.protocol.specs.Lent.{lent, refused_by}
use Rattle.protocol.specs.State.{running, outstanding}
use Rattle.protocol.specs.Receiver.{Result, number_of as answer_number, unchanged, matches, hear, take_message}
use Rattle.state.specs.declared.Receiver.{Receiver}
use Rattle.state.specs.declared.Taken.{Taken}
use Rattle.state.specs.Receivers.{state_of}
use Rattle.heard.specs.declared.Announced.{Announced}
use Rattle.heard.specs.declared.Reply.{Reply}
use Rattle.heard.specs.declared.Said.{Said}
use Rattle.heard.specs.declared.Said.TheVariants as said
use Rattle.heard.specs.Heard.{message_in, Hears}
use Rattle.taking.specs.Taking.{struct_after, Takes}
use Rattle.taking.specs.Steps.{Unheard, Listened, OpeningSaid, OpeningTaken, NodeSaid, NodeTaken}

-- 3 is among the questions that were passed.
pub few_levels : (σ : Settings) (size nodes shingles cells : ℕ) → lent_refusal σ size (tables_fit σ.width nodes shingles cells) ≡ 0 → σ.levels ≤ 4
few_levels σ size nodes shingles cells seven =
    (granted σ size (lent_passed σ size nodes shingles cells true seven).1.settings).0.levels_high

module _ (s : Receiver) (string nodes shingles cells message : List ℕ) where
  pub hear_seven : {k : ℕ} → k ≡ refused_by s.settings (lent string nodes shingles cells []) → (k ≡ 0 → ⊥) → Unheard s string nodes shingles cells message k
  unfolding take_message state_of
  hear_seven {k = k} asked fails =
      let small = lent_small s.settings (length string) (tables_fit s.settings.width (length nodes) (length shingles) (length cells)) in
      record {
        early = rw (le-leb 1 k (omega (arith, fails)), le-leb k 11 (omega (arith, asked, small))) refl;
        is = λ output. rw (← asked, ne_eqb k 0 fails) refl;
      }

  module _ (seven : refused_by s.settings (lent string nodes shingles cells []) ≡ 0) where
    pub hear_nine : running (state_of s) ≡ false → Unheard s string nodes shingles cells message 9
    unfolding take_message state_of
    hear_nine stopped = record { early = refl; is = λ output. rw (eq-eqb _ 0 seven, stopped) refl }

    module _ (runs : running (state_of s) ≡ true) where
      heard_is : (output : List ℕ) → take_message (state_of s) (lent string nodes shingles cells output) message
          ≡ hear (state_of s) (lent string nodes shingles cells output) (parse message)
      unfolding take_message state_of
      heard_is output = rw (eq-eqb _ 0 seven, runs) refl

      pub hear_ten : parse message ≡ none → Unheard s string nodes shingles cells message 10
      unfolding hear
      hear_ten bad =
          record { early = refl; is = λ output. heard_is output ∙ ap (hear (state_of s) (lent string nodes shingles cells output)) bad }

      module _ (formed : parse message ≡ some (message_in message)) where
        pub hear_eleven : matches (outstanding (state_of s)) (message_in message) ≡ false → Unheard s string nodes shingles cells message 11
        unfolding hear
        hear_eleven other =
            record {
              early = refl;
              is = λ output. heard_is output ∙ (ap (hear (state_of s) (lent string nodes shingles cells output)) formed ∙ rw other refl);
            }

        pub hear_all : {x : Said} → Hears message x → ((r : Reply) → x ≡ said.Reply r → (0 < s.waiting) × (s.waiting ≤ 128))
            → matches (outstanding (state_of s)) (message_in message) ≡ true → Listened s string nodes shingles cells message x
        unfolding hear
        hear_all heard waits fits =
            record {
              seven = λ output. seven;
              heard = heard;
              waits = waits;
              is = λ output. heard_is output ∙ (ap (hear (state_of s) (lent string nodes shingles cells output)) formed ∙ rw fits refl);
            }

  pub node_said : {x : Said} → Listened s string nodes shingles cells message x → (r : Reply) → x ≡ said.Reply r → NodeSaid s r message
  node_said l r e =
      let waiting = l.waits r e in
      record {
        few_levels = few_levels _ _ _ _ _ (l.seven []);
        some_waiting = waiting.0;
        few_waiting = waiting.1;
        heard = rw e at l.heard;
      }

  module _ (output : List ℕ) where
    -- A no that changes nothing.
    pub kept_by : (question : Refusal) → Unheard s string nodes shingles cells message (number_of question)
        → Takes s string nodes shingles shingles cells message output output (record { answer = Err question; state = s })
    unfolding unchanged answer_number struct_after
    kept_by question u =
        let e = u.is output in
        record {
          gives = record {
            answer = sym (ap (λ (R : Result). answer_number R.answer) e);
            whole = sym (ap (λ (R : Result). struct_after R s) e ∙ rw u.early refl);
            state = sym (ap (λ (R : Result). R.state) e);
            memory = ap (λ (R : Result). R.lent) e;
          };
        }

    module _ {x : Said} (l : Listened s string nodes shingles cells message x) where
      pub opening_said : (a : Announced) → x ≡ said.Opening a → OpeningSaid s a string nodes shingles cells message output
      opening_said a e = record { seven = l.seven output; heard = rw e at l.heard }

      pub take_opening : {shingles' output' : List ℕ} {r : Taken}
          → OpeningTaken s string nodes shingles shingles' cells message output output' r
          → Takes s string nodes shingles shingles' cells message output output' r
      take_opening t = record { gives = rw (l.is output) t.gives }

      pub take_node : {output' : List ℕ} {r : Taken} → NodeTaken s string nodes shingles message output output' r
          → Takes s string nodes shingles shingles cells message output output' r
      take_node t = record { gives = rw (l.is output) (t.gives cells) }
