-- What taking an opening comes to.
use Rattle.std.proofs.Common.{Ok, Err, ◌⊎◌, inl, inr}
use Rattle.std.specs.Prelude.{Result as Answer}
use Rattle.std.specs.Result.{is_ok}
use mathlib.Core.Bool.{Bool, true, false, false≢true}
use mathlib.Core.List.{List, [], ◌∷◌}
use mathlib.Core.Option.{Option}
use mathlib.Core.Path.{◌≡◌, refl, sym, ap, subst, ◌∙◌}
use Prim.Native.Nat.{ℕ, ◌^◌, ◌≤◌, ◌<◌}
use native.Mathlib.Omega.{arith}
use borrow.Author.Tests.{le-leb}
use lib.ListN.{length}
use Rattle.tree.specs.declared.Settings.{Settings}
use Rattle.tree.specs.Questions.{ask}
use Rattle.refusal.specs.declared.Refusal.{Refusal}
use Rattle.refusal.proofs.Numbers.{number_positive, number_small}
use Rattle.shingle.specs.Table.{shingles_in}
use Rattle.sketch.specs.Opening.{new_list}
use Rattle.single.specs.Peeling.{list_table}
use Rattle.opening.specs.Renewing.{Renewed}
use Rattle.message.specs.Messages.{Msg}
use Rattle.message.specs.Parts.{cells_in}
use Rattle.protocol.specs.Lent.{Lent, lent}
use Rattle.protocol.specs.Nodes.{look}
use Rattle.protocol.specs.State.{pending}
use Rattle.protocol.specs.Receiver.{Result, number_of, ends, settle, conclude, peeled_of, opening_refusal, take_opening, act}
use Rattle.copying.specs.declared.Waiting.{Waiting}
use Rattle.copying.specs.Copying.{pile_of, settled_from}
use Rattle.announced.specs.Judging.{announced_refusal, Judged}
use Rattle.announced.proofs.Received.{Heard, refusal_is, table_is, length_fits_lem, opening_refused}
use Rattle.state.specs.declared.Receiver.{Receiver}
use Rattle.state.specs.declared.Taken.{Taken}
use Rattle.state.specs.declared.Progress.{Progress}
use Rattle.state.specs.declared.Progress.TheVariants.{Going, HandedOver}
use Rattle.state.specs.Receivers.{state_of, places_of, progress_number}
use Rattle.state.proofs.Keeping.{pile_placed, holds_by}
use Rattle.heard.specs.declared.Announced.{Announced}
use Rattle.heard.specs.Heard.{given, message_in}
use Rattle.advance.specs.Advance.{Ended, Concludes, Advanced}
use Rattle.taking.specs.Steps.{OpeningSaid, OpeningTaken}
use Rattle.taking.proofs.Giving.{past_gives}

-- The root alone is what copying starts with.
root_settled : (string nodes : List ℕ) (size root : ℕ) (output : List ℕ) (places : List Waiting) → size ≤ length output
    → places ≡ places_of (pending 0 root ∷ [])
    → settled_from string nodes size output 0 1 places ≡ settle (look string nodes) size [] (pending 0 root ∷ [])
unfolding settled_from
root_settled string nodes size root output places room first =
    rw (le-leb size (length output) room, le-leb 0 size (omega arith)) (ap (settle (look string nodes) size []) (ap (pile_of 1) first ∙ pile_placed (pending 0 root ∷ []) (omega arith)))

ask_apart : (t : Bool) (k n x : ℕ) → k ≤ n → (0 < x → k ≤ x) → 0 < ask t n x → k ≤ ask t n x
unfolding ask
ask_apart true k n x h f above = f above
ask_apart false k n x h f above = h

-- A refusal in numbers, and a yes.
refused_number : (x : Answer Progress Refusal) → is_ok x ≡ false → (0 < progress_number x) × (progress_number x < 2 ^ 32)
refused_number (Ok y) e = absurd (false≢true (sym e))
refused_number (Err question) e = (number_positive question, number_small question)

accepted_number : (x : Answer Progress Refusal) → is_ok x ≡ true → (progress_number x ≡ 0) ⊎ (2 ^ 32 ≤ progress_number x)
accepted_number (Ok Going) e = inl refl
accepted_number (Ok (HandedOver size)) e = inr (omega arith)
accepted_number (Err question) e = absurd (false≢true e)

module _ {s : Receiver} {a : Announced} {string nodes shingles cells message output : List ℕ}
    (h : OpeningSaid s a string nodes shingles cells message output) where
  abbrev m : Lent
  m = lent string nodes shingles cells output

  abbrev values : List ℕ
  values = cells_in (message_in message)

  abbrev τ : Settings
  τ = a.settings

  what_is_heard : Heard (state_of s) m s.settings (length output) message cells shingles a.session a.rule τ.window τ.fan_out τ.levels
      τ.nominal τ.width a.length a.root values
  unfolding state_of
  what_is_heard =
      record { settings_are = refl; passed_seven = h.seven; cells_are = refl; shingles_are = refl; room_is = refl; message_is = h.heard }

  abbrev taken_opening : Result
  taken_opening = take_opening (state_of s) m a.rule τ.window τ.fan_out τ.levels τ.nominal τ.width a.length a.root values

  act_is : act (state_of s) m (message_in message) ≡ taken_opening
  unfolding act given
  act_is = ap (λ (x : Option Msg). act (state_of s) m (given x)) h.heard

  module _ {r : ℕ}
      (asked : r ≡ announced_refusal s.settings a.rule τ.window τ.fan_out τ.levels τ.nominal τ.width a.length (length output) message cells shingles)
    where
      refusal_apart : 0 < r → 12 ≤ r
      unfolding opening_refusal
      refusal_apart above =
          subst (λ (k : ℕ). 0 < k → 12 ≤ k) (sym (refusal_is what_is_heard asked))
          (ask_apart _ 12 12 _ (omega arith)
          (ask_apart _ 12 13 _ (omega arith)
          (ask_apart _ 12 14 0 (omega arith) (λ z. absurd (omega (arith, z)))))) above

      -- 12, 13 or 14 refuses.
      pub opening_no : {output' : List ℕ} {t : Taken} → (r ≡ 0 → ⊥) → Ended s r output output' t
          → OpeningTaken s string nodes shingles shingles cells message output output' t
      unfolding ends number_of
      opening_no {t = t} fails ended =
          let e : act (state_of s) m (message_in message) ≡ ends r (state_of s) m = act_is ∙ opening_refused what_is_heard asked fails in
          record {
            gives = past_gives (ended.answer ∙ sym (ap (λ (R : Result). number_of R.answer) e))
                (λ above. subst (λ (k : ℕ). 12 ≤ k) (sym ended.answer) (refusal_apart (omega (arith, fails))))
                (holds_by (ap (λ (R : Result). R.state) e) ended.state)
                (ap (λ (R : Result). R.lent) e ∙ ap (λ (x : List ℕ). lent string nodes shingles cells x) (sym ended.zeros));
          }

  -- The opening is accepted, and copying decides.
  module _ {new gone : List ℕ}
      (j : Judged s.settings a.rule τ.window τ.fan_out τ.levels τ.nominal τ.width a.length (length output) message cells shingles 0 new gone)
      {places : List Waiting} (first : places ≡ places_of (pending 0 a.root ∷ [])) {output' : List ℕ} {t : Taken}
      (on : Advanced s a.length a.root 0 string nodes output output' 0 1 places t) where
    abbrev table : List ℕ
    table = list_table (length shingles) (new_list (shingles_in shingles) (peeled_of (state_of s).settings m values).taken)

    abbrev number : ℕ
    number = progress_number t.answer

    concluded : Concludes (act (state_of s) m (message_in message)) m table output' t
    unfolding take_opening
    concluded =
        let settled = root_settled string nodes a.length a.root output places (length_fits_lem j refl).1 first in
        let e : taken_opening
        ≡ conclude (state_of s) m table a.length a.root 0 (settled_from string nodes a.length output 0 1 places) =
        rw (← refusal_is what_is_heard j.answer, settled) refl in
        subst (λ (R : Result). Concludes R m table output' t) (sym (act_is ∙ e)) (on.gives m table refl refl)

    apart : 0 < number → 12 ≤ number
    apart above = let far = on.apart above in omega (arith, far)

    -- 18 or 19 refuses: the shingle table is as it was.
    pub opening_stopped : is_ok t.answer ≡ false → OpeningTaken s string nodes shingles shingles cells message output output' t
    opening_stopped refuses =
        let small = refused_number t.answer refuses in
        record { gives = past_gives concluded.answer apart concluded.state (concluded.refused small.0 small.1) }

    -- Else the new list is written.
    pub opening_yes : {shingles' : List ℕ} {answer : ℕ} → is_ok t.answer ≡ true → Renewed new gone shingles shingles' answer
        → OpeningTaken s string nodes shingles shingles' cells message output output' t
    opening_yes {shingles' = shingles'} accepts written =
        let is : shingles' ≡ table = table_is what_is_heard j refl written in
        record {
          gives = past_gives concluded.answer apart concluded.state (kept ∙ ap (λ (x : List ℕ). lent string nodes x cells output') (sym is));
        }
      where
        kept : (act (state_of s) m (message_in message)).lent ≡ lent string nodes table cells output'
        kept = elim (accepted_number t.answer accepts) [
          | inl going ↦ concluded.going going
          | inr large ↦ concluded.handed large
        ]
