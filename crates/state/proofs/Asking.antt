-- The outstanding query of each kind, and writing it.
use Rattle.std.proofs.Common.{Some}
use mathlib.Core.Bool.{Bool, true, false, cond, ◌&&◌, false≢true}
use mathlib.Core.List.{List, ◌++◌}
use mathlib.Core.Option.{some}
use mathlib.Core.Path.{◌≡◌, refl, ap, ◌∙◌}
use Prim.Native.Nat.{ℕ, zero, suc, ◌+◌, ◌-◌, ◌^◌, ◌≤◌, ◌<◌}
use native.Mathlib.Omega.{arith}
use borrow.Author.Tests.{eq-eqb, ne_eqb, leb-true}
use lib.Dec.{leb}
use lib.ListN.{length, drop}
use Rattle.message.specs.Messages.{encode}
use Rattle.message_writer.specs.Writing.{Written}
use Rattle.refusal.specs.declared.Refusal.TheVariants.{Session}
use Rattle.refusal.specs.Answer.{number_of}
use Rattle.copying.specs.declared.Waiting.{Waiting}
use Rattle.copying.specs.Copying.{pile_of}
use Rattle.protocol.specs.State.{live, running, query_of, outstanding}
use Rattle.protocol.specs.Sender.{unwritten, writing}
use Rattle.protocol.specs.Receiver.{querying}
use Rattle.state.specs.declared.Receiver.{Receiver}
use Rattle.state.specs.declared.Outstanding.{Outstanding}
use Rattle.state.specs.declared.Outstanding.TheVariants.{Opening, Node}
use Rattle.state.specs.Receivers.{phase_of, state_of}
use Rattle.state.specs.Asking.{asking, top_of, query_in, AsksNothing, AsksFor, Queried}
use Rattle.state.proofs.Nine.{length_pile}

first_true : (a b : Bool) → a && b ≡ true → a ≡ true
first_true true b e = refl
first_true false b e = e

second_true : (a b : Bool) → a && b ≡ true → b ≡ true
second_true true b e = e
second_true false b e = absurd (false≢true e)

-- An opening was taken, and the session goes on.
opened_runs : (places : List Waiting) (phase waiting : ℕ) → (phase ≡ 0 → ⊥) → live (phase_of phase) (pile_of waiting places) ≡ true
    → (phase ≡ 1) × (0 < waiting)
unfolding phase_of live pile_of
opened_runs places zero waiting after e = absurd (after refl)
opened_runs places (suc zero) zero after e = absurd (false≢true e)
opened_runs places (suc zero) (suc k) after e = (refl, omega arith)
opened_runs places (suc (suc more)) waiting after e = absurd (false≢true e)

module _ (s : Receiver) where
  pub asks_none : running (state_of s) ≡ false → AsksNothing s
  unfolding query_in outstanding
  asks_none e = record { whole = rw e; nothing = rw e; stands = e }

  module _ (e : running (state_of s) ≡ true) where
    query_is : outstanding (state_of s) ≡ query_of s.session (phase_of s.phase) (pile_of s.waiting s.pile)
    unfolding outstanding state_of
    query_is = rw e

    pub asks_opening : s.phase ≡ 0 → AsksFor s Opening
    unfolding query_in phase_of query_of
    asks_opening z = record { whole = rw (e, eq-eqb s.phase 0 z); is = query_is ∙ rw z; runs = e }

    module _ (after : s.phase ≡ 0 → ⊥) where
      opened : (s.phase ≡ 1) × (0 < s.waiting)
      unfolding running state_of
      opened = opened_runs s.pile s.phase s.waiting after (first_true _ _ e)

      pub waits : (0 < s.waiting) × (s.waiting ≤ 128)
      unfolding running state_of
      waits =
          let pile = pile_of s.waiting s.pile in
          let fits = leb-true (length pile) 128 (first_true (leb (length pile) 128) _ (second_true (live (phase_of s.phase) pile) _ e)) in
          (opened.1, omega (arith, fits, length_pile s.waiting s.pile))

      pub asks_node : AsksFor s (Node (top_of s).level (top_of s).id)
      unfolding query_in phase_of query_of pile_of
      asks_node =
          let some = opened.1 in
          let next : s.waiting ≡ suc (s.waiting - 1) = omega arith in
          record {
            whole = rw (e, ne_eqb s.phase 0 after);
            is = query_is ∙ (ap (λ (n : ℕ). query_of s.session (phase_of n) (pile_of s.waiting s.pile)) opened.0
                ∙ ap (λ (n : ℕ). query_of s.session (phase_of 1) (pile_of n s.pile)) next);
            runs = e;
          }

-- Where a node is asked for, there is one.
pub node_waits : (s : Receiver) {level id : ℕ} → AsksFor s (Node level id) → (0 < s.waiting) × (s.waiting ≤ 128)
unfolding query_in
node_waits s {level} {id} asked = waits s asked.runs (λ z.
    let other : Some Opening ≡ Some (Node level id) = rw (asked.runs, eq-eqb s.phase 0 z) at asked.whole in
    let never : ◌≡◌ {A = ℕ} 0 1 = cc in
    omega (arith, never))

-- A message written is what the definition writes.
written_answer : {b a : List ℕ} {r : ℕ} (bytes : List ℕ) → Written b a bytes r → r ≡ (writing bytes b).answer
unfolding writing
written_answer {b} bytes w = w.answer_is ∙ go (leb (length bytes) (length b))
  where
    go : (t : Bool) → cond t (2 ^ 32 + length bytes) 20
        ≡ (cond t (record { answer = 2 ^ 32 + length bytes; buffer = bytes ++ drop (length bytes) b }) (unwritten 20 b)).answer
    go true = refl
    go false = refl

written_buffer : {b a : List ℕ} {r : ℕ} (bytes : List ℕ) → Written b a bytes r → a ≡ (writing bytes b).buffer
unfolding writing
written_buffer {b} bytes w = w.buffer_is ∙ go (leb (length bytes) (length b))
  where
    go : (t : Bool) → cond t (bytes ++ drop (length bytes) b) b
        ≡ (cond t (record { answer = 2 ^ 32 + length bytes; buffer = bytes ++ drop (length bytes) b }) (unwritten 20 b)).buffer
    go true = refl
    go false = refl

-- The outstanding query written, or refused by question 9.
pub query_written : (s : Receiver) (query : Outstanding) {found : Outstanding} {b a : List ℕ} {r : ℕ} → AsksFor s found → found ≡ query
    → Written b a (encode (asking s.session query)) r → Queried s b a r
unfolding querying
query_written s query asked e w =
    let is = asked.is ∙ ap (λ (q : Outstanding). some (asking s.session q)) e in
    record { answer_is = written_answer _ w ∙ rw is; buffer_is = written_buffer _ w ∙ rw is }

pub none_written : (s : Receiver) {b : List ℕ} → AsksNothing s → Queried s b b (number_of Session)
unfolding querying
none_written s asked = record { answer_is = rw asked.nothing; buffer_is = rw asked.nothing }
