-- Taking a composition: 17, 18, or the children take the node's place.
use Rattle.std.specs.Prelude.{Option as Answer}
use Rattle.std.specs.Option.{is_some}
use mathlib.Core.Bool.{Bool, true, false}
use mathlib.Core.List.{List, [], ◌++◌, append-nil}
use mathlib.Core.Path.{◌≡◌, refl, sym, ap, ◌∙◌}
use Prim.Native.Nat.{ℕ, ◌+◌, ◌-◌, ◌≤◌, ◌<◌}
use native.Mathlib.Omega.{arith}
use borrow.Author.Tests.{le-leb, lt-leb}
use lib.Dec.{leb}
use lib.ListN.{length, take}
use Rattle.tree.specs.Questions.{ask}
use Rattle.shingle.specs.Table.{shingles_in}
use Rattle.message.specs.Words.{Ref}
use Rattle.message.specs.Reading.{stated_by, references_at}
use Rattle.message.specs.Parts.{references_in}
use Rattle.protocol.specs.Lent.{Lent, lent}
use Rattle.protocol.specs.Nodes.{look}
use Rattle.protocol.specs.State.{Pending}
use Rattle.protocol.specs.Receiver.{settle, conclude, composes, children, below, node_refusal, take_node, act}
use Rattle.copying.specs.declared.Waiting.{Waiting}
use Rattle.copying.specs.Copying.{pile_of, settled_from}
use Rattle.composition.specs.Composition.{Composing, refs_in, composed_children}
use Rattle.composition.proofs.Passing.{passed}
use Rattle.composition.proofs.Composed.{Composed, Answered, answered}
use Rattle.state.specs.declared.Receiver.{Receiver}
use Rattle.state.specs.declared.Taken.{Taken}
use Rattle.state.specs.Receivers.{state_of}
use Rattle.state.specs.Pushing.{Pushes}
use Rattle.state.proofs.Nine.{length_pile}
use Rattle.heard.specs.Heard.{message_in}
use Rattle.advance.specs.Advance.{Ended, Advanced}
use Rattle.taking.specs.Steps.{CompositionSaid, NodeTaken}
use Rattle.taking.proofs.Node.{ending, refused_node, act_composition, node_advanced, content_refusal, pile_below}

abbrev refs_of : List ℕ → List Ref
refs_of message = references_in (message_in message)

module _ {s : Receiver} {level : ℕ} {trail : Answer ℕ} {count : ℕ} {message output : List ℕ} (c : CompositionSaid s level trail count message output)
    (shingles : List ℕ) {r : Composing}
    (found : r ≡ composed_children s.settings (shingles_in shingles) level (stated_by trail) (refs_in message (references_at (is_some trail)) count)
    (s.waiting - 1)) where
  abbrev composed : Bool
  composed = composes s.settings (shingles_in shingles) level (stated_by trail) (refs_of message) (s.waiting - 1)

  pub answer_is : Answered s.settings (shingles_in shingles) level (stated_by trail) (refs_of message) (s.waiting - 1) r
  answer_is = answered message _ _ _ trail (refs_of message) c.heard.0 count c.heard.1 s.settings (shingles_in shingles) (s.waiting - 1) r found

  -- What the composition does, by 17 and 18.
  act_is : (string nodes cells : List ℕ) → act (state_of s) (lent string nodes shingles cells output) (message_in message)
      ≡ take_node (state_of s) (lent string nodes shingles cells output) (ask composed 17 (ask (leb (s.built + 0) s.size) 18 0)) []
      (children (shingles_in shingles) level (stated_by trail) (refs_of message) ++ pile_of (s.waiting - 1) s.pile)
  unfolding ask
  act_is string nodes cells =
      let m : Lent = lent string nodes shingles cells output in
      let left : length (below (state_of s).pile) ≡ s.waiting - 1 = ap length (pile_below c.past) ∙ length_pile (s.waiting - 1) s.pile in
      act_composition s message trail c.heard m
      ∙ (ap (λ (k : ℕ). take_node (state_of s) m
      (node_refusal (state_of s) m true (composes s.settings (shingles_in shingles) level (stated_by trail) (refs_of message) k) [])
      [] (children (shingles_in shingles) level (stated_by trail) (refs_of message) ++ below (state_of s).pile)) left
      ∙ (ap (λ (k : ℕ). take_node (state_of s) m k [] (children (shingles_in shingles) level (stated_by trail) (refs_of message) ++ below (state_of s).pile))
      (content_refusal c.past string nodes shingles cells true composed [])
      ∙ ap (λ (x : List Pending). take_node (state_of s) m (ask composed 17 (ask (leb (s.built + 0) s.size) 18 0)) []
      (children (shingles_in shingles) level (stated_by trail) (refs_of message) ++ x)) (pile_below c.past)))

  no_by : (string nodes : List ℕ) {output' : List ℕ} {t : Taken} (k : ℕ) → 12 ≤ k → ask composed 17 (ask (leb (s.built + 0) s.size) 18 0) ≡ k
      → Ended s k output output' t → NodeTaken s string nodes shingles message output output' t
  no_by string nodes k far e ended =
      ending k far ended (λ cells.
      let m : Lent = lent string nodes shingles cells output in
      let pile : List Pending = children (shingles_in shingles) level (stated_by trail) (refs_of message) ++ pile_of (s.waiting - 1) s.pile in
      act_is string nodes cells
      ∙ (ap (λ (x : ℕ). take_node (state_of s) m x [] pile) e ∙ refused_node (state_of s) m k [] pile (λ z. omega (arith, far, z))))

  -- 17 refuses.
  pub not_composed : {string nodes output' : List ℕ} {t : Taken} → r.composed ≡ false → Ended s 17 output output' t
      → NodeTaken s string nodes shingles message output output' t
  unfolding ask
  not_composed {string = string} {nodes = nodes} e ended =
      let f : composed ≡ false = sym answer_is.is ∙ e in
      no_by string nodes 17 (omega arith) (rw f refl) ended

  module _ (yes-17 : r.composed ≡ true) where
    given : Composed (shingles_in shingles) level (stated_by trail) (refs_of message) (s.waiting - 1) r
    given = answer_is.gives yes-17

    -- The node's level is below L.
    pub composed_low : level < s.settings.levels
    composed_low =
        (passed s.settings (shingles_in shingles) level (stated_by trail) (refs_of message) (s.waiting - 1) (sym answer_is.is ∙ yes-17)).level

    -- 18 refuses: more is built than announced.
    pub composed_long : {string nodes output' : List ℕ} {t : Taken} → s.size < s.built → Ended s 18 output output' t
        → NodeTaken s string nodes shingles message output output' t
    unfolding ask
    composed_long {string = string} {nodes = nodes} h ended =
        let f : composed ≡ true = sym answer_is.is ∙ yes-17 in
        let g : leb (s.built + 0) s.size ≡ false = lt-leb (s.built + 0) s.size (omega (arith, h)) in
        no_by string nodes 18 (omega arith) (rw (f, g) refl) ended

    -- The children are pushed, and copying goes on.
    pub composed_advances : {string nodes output' : List ℕ} {t : Taken} {places : List Waiting} → s.built ≤ s.size
        → Pushes s.pile (s.waiting - 1) (level + 1) r.ids r.count places
        → Advanced s s.size s.root (s.taken + 1) string nodes output output' s.built (s.waiting - 1 + r.count) places t
        → NodeTaken s string nodes shingles message output output' t
    unfolding ask take_node state_of settled_from
    composed_advances {string = string} {nodes = nodes} {places = places} h pushed on =
        node_advanced on refl refl (λ cells.
        let m : Lent = lent string nodes shingles cells output in
        let f : composed ≡ true = sym answer_is.is ∙ yes-17 in
        let g : leb (s.built + 0) s.size ≡ true = le-leb (s.built + 0) s.size (omega (arith, h)) in
        let pile : pile_of (s.waiting - 1 + r.count) places
        ≡ children (shingles_in shingles) level (stated_by trail) (refs_of message) ++ pile_of (s.waiting - 1) s.pile =
        pushed.pile given.few given.room ∙ ap (λ (x : List Pending). x ++ pile_of (s.waiting - 1) s.pile) given.pending_are in
        act_is string nodes cells
        ∙ rw (f, g, le-leb _ _ c.past.room, le-leb _ _ h, le-leb _ 128 given.room)
        (ap (conclude (state_of s) m shingles s.size s.root (s.taken + 1))
        (λ j. settle (look string nodes) s.size (append-nil (take s.built output) j) (sym pile j))))
