-- What taking a node reply comes to: refused before its content is looked at, or by what the content decides.
use Rattle.std.specs.Prelude.{Option as Answer}
use mathlib.Core.Bool.{Bool, true, false}
use mathlib.Core.List.{List, [], ◌++◌}
use mathlib.Core.Option.{Option}
use mathlib.Core.Path.{◌≡◌, refl, sym, ap, subst, ◌∙◌}
use Prim.Native.Nat.{ℕ, zero, suc, ◌+◌, ◌-◌, ◌^◌, ◌≤◌, ◌<◌}
use native.Mathlib.Omega.{arith}
use native.Mathlib.Decide.{dec_lt}
use borrow.Author.Tests.{ne_eqb, leb-true, ltb-true, le-leb, lt-ltb}
use lib.Dec.{leb}
use lib.ListN.{length, drop}
use Rattle.tree.specs.Questions.{ask}
use Rattle.shingle.specs.Table.{shingles_in}
use Rattle.shingle.proofs.PairOrder.{and_true}
use Rattle.message.specs.Messages.{Msg}
use Rattle.message.specs.Reading.{stated_by}
use Rattle.message.specs.Parts.{references_in, bytes_in}
use Rattle.protocol.specs.Lent.{Lent, lent}
use Rattle.protocol.specs.State.{State, Pending}
use Rattle.protocol.specs.Receiver.{Result, number_of, ends, composes, children, below, node_refusal, take_node, act, conclude}
use Rattle.copying.specs.declared.Waiting.{Waiting}
use Rattle.copying.specs.Copying.{pile_of, settled_from}
use Rattle.state.specs.declared.Receiver.{Receiver}
use Rattle.state.specs.declared.Taken.{Taken}
use Rattle.state.specs.Receivers.{state_of, progress_number}
use Rattle.state.proofs.Keeping.{holds_by}
use Rattle.heard.specs.declared.Content.{Content}
use Rattle.heard.specs.declared.Content.TheVariants.{Composition, Literal, NoNode}
use Rattle.heard.specs.declared.Reply.{Reply}
use Rattle.heard.specs.Heard.{given, message_in, Carries, NodeReply}
use Rattle.advance.specs.Advance.{Ended, Concludes, Advanced}
use Rattle.taking.specs.Steps.{early_refusal, NodeSaid, Past, CompositionSaid, LiteralSaid, NodeTaken}
use Rattle.taking.proofs.Giving.{past_gives}

-- A result that ends the session.
pub ending : {s : Receiver} {string nodes shingles message output output' : List ℕ} {t : Taken} (k : ℕ) → 12 ≤ k → Ended s k output output' t
    → ((cells : List ℕ) → act (state_of s) (lent string nodes shingles cells output) (message_in message)
    ≡ ends k (state_of s) (lent string nodes shingles cells output))
    → NodeTaken s string nodes shingles message output output' t
unfolding ends number_of
ending {string = string} {nodes = nodes} {shingles = shingles} k far ended e =
    record {
      gives = λ cells.
          past_gives (ended.answer ∙ sym (ap (λ (R : Result). number_of R.answer) (e cells))) (λ above. subst (λ (n : ℕ). 12 ≤ n) (sym ended.answer) far)
          (holds_by (ap (λ (R : Result). R.state) (e cells)) ended.state)
          (ap (λ (R : Result). R.lent) (e cells) ∙ ap (λ (x : List ℕ). lent string nodes shingles cells x) (sym ended.zeros));
    }

pub refused_node : (st : State) (m : Lent) (k : ℕ) (bytes : List ℕ) (pile : List Pending) → (k ≡ 0 → ⊥) → take_node st m k bytes pile ≡ ends k st m
unfolding take_node
refused_node st m k bytes pile fails = rw (ne_eqb k 0 fails) refl

-- The early questions decide first, and pass on what comes after them.
early_first : (a b : Bool) (rest : ℕ) → (ask a 13 (ask b 15 0) ≡ 0 → ⊥) → ask a 13 (ask b 15 rest) ≡ ask a 13 (ask b 15 0)
unfolding ask
early_first false b rest fails = refl
early_first true false rest fails = refl
early_first true true rest fails = absurd (fails refl)

early_passed : (a b : Bool) → ask a 13 (ask b 15 0) ≡ 0 → (a ≡ true) × (b ≡ true)
unfolding ask
early_passed false b e = absurd (omega (arith, e))
early_passed true false e = absurd (omega (arith, e))
early_passed true true e = (refl, refl)

early_apart : (a b : Bool) → (ask a 13 (ask b 15 0) ≡ 0 → ⊥) → 12 ≤ ask a 13 (ask b 15 0)
unfolding ask
early_apart false b fails = omega arith
early_apart true false fails = omega arith
early_apart true true fails = absurd (fails refl)

-- What a message of each type does.
module _ (s : Receiver) (message : List ℕ) {n l i : ℕ} where
  pub act_composition : (trail : Answer ℕ) {count : ℕ} → Carries message n l i (Composition trail count) → (m : Lent)
      → act (state_of s) m (message_in message)
      ≡ take_node (state_of s) m
      (node_refusal (state_of s) m true
      (composes s.settings (shingles_in m.shingles) l (stated_by trail) (references_in (message_in message)) (length (below (state_of s).pile))) [])
      [] (children (shingles_in m.shingles) l (stated_by trail) (references_in (message_in message)) ++ below (state_of s).pile)
  unfolding act given state_of
  act_composition trail h m = ap (λ (x : Option Msg). act (state_of s) m (given x)) h.0

  pub act_literal : {count : ℕ} → Carries message n l i (Literal count) → (m : Lent) → act (state_of s) m (message_in message)
      ≡ take_node (state_of s) m (node_refusal (state_of s) m true true (bytes_in (message_in message))) (bytes_in (message_in message)) (below (state_of s).pile)
  unfolding act given state_of
  act_literal h m = ap (λ (x : Option Msg). act (state_of s) m (given x)) h.0

  act_missing : Carries message n l i NoNode → (m : Lent) → act (state_of s) m (message_in message)
      ≡ take_node (state_of s) m (node_refusal (state_of s) m false true []) [] []
  unfolding act given state_of
  act_missing h m = ap (λ (x : Option Msg). act (state_of s) m (given x)) h

module _ (s : Receiver) (output : List ℕ) {k : ℕ} (asked : k ≡ early_refusal s.size (length output) s.taken) where
  refusal_first : (string nodes shingles cells : List ℕ) (there composed : Bool) (bytes : List ℕ) → (k ≡ 0 → ⊥)
      → node_refusal (state_of s) (lent string nodes shingles cells output) there composed bytes ≡ k
  unfolding node_refusal state_of early_refusal
  refusal_first string nodes shingles cells there composed bytes fails = early_first _ _ _ (λ z. fails (asked ∙ z)) ∙ sym asked

  module _ {message : List ℕ} where
    -- 13 or 15 refuses.
    pub early_no : (r : Reply) → NodeReply message r → {string nodes shingles output' : List ℕ} {t : Taken} → (k ≡ 0 → ⊥) → Ended s k output output' t
        → NodeTaken s string nodes shingles message output output' t
    unfolding early_refusal
    early_no r heard {string = string} {nodes = nodes} {shingles = shingles} fails ended =
        ending k (subst (λ (x : ℕ). 12 ≤ x) (sym asked) (early_apart _ _ (λ z. fails (asked ∙ z)))) ended (λ cells. go cells r.content heard)
      where
        stopped : (m : Lent) (refusal : ℕ) (bytes : List ℕ) (pile : List Pending) → refusal ≡ k → take_node (state_of s) m refusal bytes pile ≡ ends k (state_of s) m
        stopped m refusal bytes pile e = ap (λ (x : ℕ). take_node (state_of s) m x bytes pile) e ∙ refused_node (state_of s) m k bytes pile fails

        go : (cells : List ℕ) (content : Content) → Carries message r.session r.level r.id content
            → act (state_of s) (lent string nodes shingles cells output) (message_in message) ≡ ends k (state_of s) (lent string nodes shingles cells output)
        go cells (Composition trail count) h =
            let m = lent string nodes shingles cells output in
            act_composition s message trail h m ∙ stopped m _ _ _ (refusal_first string nodes shingles cells true _ [] fails)
        go cells (Literal count) h =
            let m = lent string nodes shingles cells output in
            act_literal s message h m ∙ stopped m _ _ _ (refusal_first string nodes shingles cells true true _ fails)
        go cells NoNode h =
            let m = lent string nodes shingles cells output in
            act_missing s message h m ∙ stopped m _ _ _ (refusal_first string nodes shingles cells false true [] fails)

  module _ {message : List ℕ} {r : Reply} (n : NodeSaid s r message) (z : k ≡ 0) where
    -- Past them, the content decides.
    pub early_yes : Past s output
    unfolding early_refusal
    early_yes =
        let p = early_passed _ _ (sym asked ∙ z) in
        let both = and_true (leb s.size 65536) _ p.0 in
        record {
          few_levels = n.few_levels;
          some_waiting = n.some_waiting;
          few_waiting = n.few_waiting;
          small = leb-true _ 65536 both.0;
          room = leb-true _ _ both.1;
          few_taken = ltb-true _ 4096 p.1;
        }

-- Both kinds of content go on to copying: `mid` is the output with the content's bytes put in.
pub node_advanced : {s : Receiver} {string nodes shingles message output mid output' : List ℕ} {size root taken built waits : ℕ} {places : List Waiting}
    {t : Taken} → Advanced s size root taken string nodes mid output' built waits places t
    → drop built mid ≡ drop built output → length mid ≡ length output
    → ((cells : List ℕ) → act (state_of s) (lent string nodes shingles cells output) (message_in message)
    ≡ conclude (state_of s) (lent string nodes shingles cells output) shingles size root taken (settled_from string nodes size mid built waits places))
    → NodeTaken s string nodes shingles message output output' t
node_advanced {s = s} {string = string} {nodes = nodes} {shingles = shingles} {message = message} {output = output} {output' = output'} {t = t} on behind long e =
    record {
      gives = λ cells.
          let m : Lent = lent string nodes shingles cells output in
          let c = subst (λ (R : Result). Concludes R m shingles output' t) (sym (e cells)) (on.gives m shingles behind long) in
          past_gives c.answer (λ above. let far = on.apart above in omega (arith, far)) c.state (after cells c);
    }
  where
    after : (cells : List ℕ) → Concludes (act (state_of s) (lent string nodes shingles cells output) (message_in message)) (lent string nodes shingles cells output) shingles output' t
        → (act (state_of s) (lent string nodes shingles cells output) (message_in message)).lent ≡ lent string nodes shingles cells output'
    after cells c = elim (dec_lt 0 (progress_number t.answer)) [
      | yes above ↦ elim (dec_lt (progress_number t.answer) (2 ^ 32)) [
        | yes small ↦ c.refused above small
        | no large ↦ c.handed (omega (arith, large))
      ]
      | no not-above ↦ c.going (omega (arith, not-above))
    ]

-- The pile without its top.
pub below_pile : (n : ℕ) (places : List Waiting) → 0 < n → below (pile_of n places) ≡ pile_of (n - 1) places
unfolding below pile_of
below_pile zero places h = absurd (omega arith)
below_pile (suc n) places h = ap (λ (k : ℕ). pile_of k places) {x = n} {y = suc n - 1} (omega arith)

module _ {s : Receiver} {output : List ℕ} (c : Past s output) where
  -- Past 13 and 15 only 16, 17 and 18 are left.
  pub content_refusal : (string nodes shingles cells : List ℕ) (there composed : Bool) (bytes : List ℕ)
      → node_refusal (state_of s) (lent string nodes shingles cells output) there composed bytes
      ≡ ask there 16 (ask composed 17 (ask (leb (s.built + length bytes) s.size) 18 0))
  unfolding node_refusal state_of ask
  content_refusal string nodes shingles cells there composed bytes =
      rw (le-leb _ 65536 c.small, le-leb _ _ c.room, lt-ltb _ 4096 c.few_taken) refl

  pub pile_below : below (state_of s).pile ≡ pile_of (s.waiting - 1) s.pile
  unfolding state_of
  pile_below = below_pile s.waiting s.pile c.some_waiting

  -- 16 refuses.
  missing : {message : List ℕ} {n l i : ℕ} → Carries message n l i NoNode → {string nodes shingles output' : List ℕ} {t : Taken}
      → Ended s 16 output output' t → NodeTaken s string nodes shingles message output output' t
  unfolding ask
  missing {message = message} h {string = string} {nodes = nodes} {shingles = shingles} ended =
      ending 16 (omega arith) ended (λ cells.
      let m : Lent = lent string nodes shingles cells output in
      act_missing s message h m
      ∙ (ap (λ (x : ℕ). take_node (state_of s) m x [] []) (content_refusal string nodes shingles cells false true [])
      ∙ refused_node (state_of s) m 16 [] [] (λ z. omega (arith, z))))

-- The content of a node reply, past 13 and 15.
module _ {s : Receiver} {message output : List ℕ} {r : Reply} (n : NodeSaid s r message) (c : Past s output) where
  pub composition_said : {trail : Answer ℕ} {count : ℕ} → r.content ≡ Composition trail count → CompositionSaid s r.level trail count message output
  composition_said e = record { past = c; session = r.session; id = r.id; heard = rw e at n.heard }

  pub literal_said : {count : ℕ} → r.content ≡ Literal count → LiteralSaid s count message output
  literal_said e = record { past = c; session = r.session; level = r.level; id = r.id; heard = rw e at n.heard }

  pub missing_said : r.content ≡ NoNode → {string nodes shingles output' : List ℕ} {t : Taken} → Ended s 16 output output' t
      → NodeTaken s string nodes shingles message output output' t
  missing_said e ended = missing c {n = r.session} {l = r.level} {i = r.id} (rw e at n.heard) ended
