-- Taking a literal: 18, or its bytes go to the end of what is built.
use mathlib.Core.Bool.{true, false}
use mathlib.Core.List.{List, [], ◌++◌, append-nil, append_assoc}
use mathlib.Core.Path.{◌≡◌, refl, sym, ap, ◌∙◌}
use Prim.Native.Nat.{ℕ, ◌+◌, ◌-◌, ◌≤◌, ◌<◌}
use native.Mathlib.Omega.{arith}
use borrow.Author.Tests.{le-leb, lt-leb}
use lib.Dec.{leb}
use lib.ListN.{length, take, drop, length-append, length-drop, drop_of_length-le}
use lib.Seq.{take_all, take_at, drop_at, drop-drop, length-take-le}
use Rattle.tree.specs.Questions.{ask}
use Rattle.message.specs.Parts.{bytes_in, Copied}
use Rattle.protocol.specs.Lent.{Lent, lent}
use Rattle.protocol.specs.Nodes.{look}
use Rattle.protocol.specs.Receiver.{settle, conclude, take_node, act}
use Rattle.copying.specs.Copying.{pile_of, settled_from}
use Rattle.state.specs.declared.Receiver.{Receiver}
use Rattle.state.specs.declared.Taken.{Taken}
use Rattle.state.specs.Receivers.{state_of}
use Rattle.heard.specs.Heard.{message_in}
use Rattle.advance.specs.Advance.{Ended, Advanced}
use Rattle.taking.specs.Steps.{LiteralSaid, NodeTaken}
use Rattle.taking.proofs.Node.{ending, refused_node, act_literal, node_advanced, content_refusal, pile_below}

-- An output with bytes put in at a place.
abbrev put_in : List ℕ → ℕ → List ℕ → List ℕ
put_in output built bytes = take built output ++ (bytes ++ drop (length bytes) (drop built output))

module _ (output bytes : List ℕ) (built : ℕ) (room : built + length bytes ≤ length output) where
  front_length : length (take built output ++ bytes) ≡ built + length bytes
  front_length = length-append (take built output) bytes ∙ ap (λ (k : ℕ). k + length bytes) (length-take-le built output (omega (arith, room)))

  joined : put_in output built bytes ≡ (take built output ++ bytes) ++ drop (built + length bytes) output
  joined =
      ap (λ (x : List ℕ). take built output ++ (bytes ++ x)) (drop-drop (length bytes) built output)
      ∙ sym (append_assoc (take built output) bytes (drop (built + length bytes) output))

  put_front : take (built + length bytes) (put_in output built bytes) ≡ take built output ++ bytes
  put_front = ap (take (built + length bytes)) joined ∙ take_at (take built output ++ bytes) _ _ front_length

  put_behind : drop (built + length bytes) (put_in output built bytes) ≡ drop (built + length bytes) output
  put_behind = ap (drop (built + length bytes)) joined ∙ drop_at (take built output ++ bytes) _ _ front_length

  put_length : length (put_in output built bytes) ≡ length output
  put_length =
      ap length joined
      ∙ (length-append (take built output ++ bytes) _
      ∙ omega (arith, front_length, length-drop (built + length bytes) output, room))

module _ {s : Receiver} {count : ℕ} {message output : List ℕ} (c : LiteralSaid s count message output) where
  abbrev bytes : List ℕ
  bytes = bytes_in (message_in message)

  count_is : count ≡ length bytes
  count_is = c.heard.1

  act_is : (string nodes shingles cells : List ℕ) → act (state_of s) (lent string nodes shingles cells output) (message_in message)
      ≡ take_node (state_of s) (lent string nodes shingles cells output) (ask (leb (s.built + length bytes) s.size) 18 0) bytes
      (pile_of (s.waiting - 1) s.pile)
  unfolding ask
  act_is string nodes shingles cells =
      let m : Lent = lent string nodes shingles cells output in
      act_literal s message c.heard m
      ∙ (λ j. take_node (state_of s) m (content_refusal c.past string nodes shingles cells true true bytes j) bytes (pile_below c.past j))

  -- 18 refuses: with these bytes the output gets too long.
  pub literal_long : {string nodes shingles output' : List ℕ} {t : Taken} → s.size < s.built + count → Ended s 18 output output' t
      → NodeTaken s string nodes shingles message output output' t
  unfolding ask
  literal_long {string = string} {nodes = nodes} {shingles = shingles} h ended =
      ending 18 (omega arith) ended (λ cells.
      let m : Lent = lent string nodes shingles cells output in
      let f : leb (s.built + length bytes) s.size ≡ false = lt-leb (s.built + length bytes) s.size (omega (arith, h, count_is)) in
      act_is string nodes shingles cells ∙ rw f (refused_node (state_of s) m 18 bytes (pile_of (s.waiting - 1) s.pile) (λ z. omega (arith, z))))

  -- The bytes are put in, and copying goes on.
  module _ (room : s.built + count ≤ s.size) where
    put : (mid part post : List ℕ) → Copied message 5 count mid part → mid ≡ take (length output - s.built) (drop s.built output)
        → post ≡ drop (length output - s.built) (drop s.built output)
        → take s.built output ++ (part ++ post) ≡ put_in output s.built bytes
    unfolding bytes_in
    put mid part post copied mid-is Post-is =
        let d = length-drop s.built output in
        let all : mid ≡ drop s.built output = mid-is ∙ take_all (length output - s.built) (drop s.built output) (omega (arith, d)) in
        let nothing : post ≡ [] = Post-is ∙ drop_of_length-le (drop s.built output) {i = length output - s.built} (omega (arith, d)) in
        let fits : count ≤ length mid = omega (arith, ap length all, d, room, c.past.room) in
        let is : part ≡ bytes ++ drop count mid = copied.read _ c.heard.0 refl count_is fits in
        ap (λ (x : List ℕ). take s.built output ++ (part ++ x)) nothing
        ∙ (ap (λ (x : List ℕ). take s.built output ++ x) (append-nil part)
        ∙ ap (λ (x : List ℕ). take s.built output ++ x) (is ∙ λ j. bytes ++ drop (count_is j) (all j)))

    pub literal_advances : {string nodes shingles output' mid part post : List ℕ} {t : Taken} → Copied message 5 count mid part
        → mid ≡ take (length output - s.built) (drop s.built output) → post ≡ drop (length output - s.built) (drop s.built output)
        → Advanced s s.size s.root (s.taken + 1) string nodes (take s.built output ++ (part ++ post)) output' (s.built + count)
        (s.waiting - 1) s.pile t
        → NodeTaken s string nodes shingles message output output' t
    unfolding ask take_node state_of settled_from
    literal_advances {string = string} {nodes = nodes} {shingles = shingles} {mid = mid} {part = part} {post = post} copied mid-is Post-is on =
        let is = put mid part post copied mid-is Post-is in
        let within : s.built + length bytes ≤ length output = omega (arith, room, count_is, c.past.room) in
        let front : take (s.built + count) (take s.built output ++ (part ++ post)) ≡ take s.built output ++ bytes =
        (λ j. take (s.built + count_is j) (is j)) ∙ put_front output bytes s.built within in
        let behind : drop (s.built + count) (take s.built output ++ (part ++ post)) ≡ drop (s.built + count) output =
        (λ j. drop (s.built + count_is j) (is j)) ∙ (put_behind output bytes s.built within ∙ ap (λ (k : ℕ). drop (s.built + k) output) (sym count_is)) in
        let long : length (take s.built output ++ (part ++ post)) ≡ length output = ap length is ∙ put_length output bytes s.built within in
        node_advanced on behind long (λ cells.
        let m : Lent = lent string nodes shingles cells output in
        let f : leb (s.built + length bytes) s.size ≡ true = le-leb (s.built + length bytes) s.size (omega (arith, room, count_is)) in
        let few : s.waiting - 1 ≤ 128 = omega (arith, c.past.few_waiting) in
        act_is string nodes shingles cells
        ∙ rw (f, long, le-leb _ _ c.past.room, le-leb _ _ room, le-leb _ 128 few)
        (ap (λ (x : List ℕ). conclude (state_of s) m shingles s.size s.root (s.taken + 1) (settle (look string nodes) s.size x (pile_of (s.waiting - 1) s.pile)))
        (sym front)))
