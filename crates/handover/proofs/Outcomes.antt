-- What concluding answers and leaves is what `conclude` of crate `protocol` says.
use mathlib.Core.Bool.{Bool, true, false, cond, ◌&&◌, false≢true}
use mathlib.Core.List.{List, [], ◌∷◌, ◌++◌}
use mathlib.Core.Option.{Option, none, some}
use mathlib.Core.Path.{◌≡◌, refl, sym, ap, ◌∙◌}
use Prim.Native.Nat.{ℕ, zero, suc, ◌+◌, ◌-◌, ◌^◌, ◌≤◌, ◌<◌}
use native.Mathlib.Omega.{arith}
use borrow.Author.Tests.{leb-true}
use lib.Dec.{leb}
use lib.ListN.{length, take, drop, replicate, length-append}
use lib.Seq.{length-take-le, drop-drop}
use Rattle.protocol.proofs.Cases.{either}
use Rattle.protocol.specs.Lent.{Lent, with_output, with_shingles}
use Rattle.protocol.specs.Nodes.{look}
use Rattle.protocol.specs.State.{Pending, State, going, over}
use Rattle.protocol.specs.Receiver.{Settled, too_long, left, copying, settle, output_with, conclude, Result, result, refused, handed, waiting, ends}
use Rattle.copying.specs.declared.Waiting.{Waiting}
use Rattle.copying.specs.Copying.{pile_of, settled_from}
use Rattle.handover.specs.Handover.{whole, answer_of, output_of, Concluded}

-- What copying built, from what it says.
built_in : Settled → List ℕ
built_in too_long = []
built_in (left built pile) = built

is_left : Settled → Bool
is_left too_long = false
is_left (left built pile) = true

-- Copying only adds bytes.
copying_grows : (next : List ℕ → Settled) (size : ℕ) (built : List ℕ) (e : Pending) (es : List Pending) (found : Option (List ℕ))
    → ((more : List ℕ) → is_left (next more) ≡ true → length more ≤ length (built_in (next more)))
    → is_left (copying next size built e es found) ≡ true → length built ≤ length (built_in (copying next size built e es found))
unfolding copying is_left built_in
copying_grows next size built e es none f h = omega arith
copying_grows next size built e es (some bytes) f h = go (leb (length built + length bytes) size) h
  where
    go : (t : Bool) → is_left (cond t (next (built ++ bytes)) too_long) ≡ true → length built ≤ length (built_in (cond t (next (built ++ bytes)) too_long))
    go true h = omega (arith, f (built ++ bytes) h, length-append built bytes)
    go false h = absurd (false≢true h)

settle_grows : (find : ℕ → Option (List ℕ)) (size : ℕ) (built : List ℕ) (pile : List Pending) → is_left (settle find size built pile) ≡ true
    → length built ≤ length (built_in (settle find size built pile))
unfolding settle built_in
settle_grows find size built [] h = omega arith
settle_grows find size built (e ∷ es) h =
    copying_grows (λ (more : List ℕ). settle find size more es) size built e es (find e.id) (λ more. settle_grows find size more es) h

-- Where copying ended within the length, the output had room, and no byte built before is lost.
module _ (string nodes : List ℕ) (size : ℕ) (before : List ℕ) (built waiting : ℕ) (places : List Waiting) where
  abbrev within_if : Bool → Settled
  within_if t = cond t (settle (look string nodes) size (take built before) (pile_of waiting places)) too_long

  ended_within : is_left (settled_from string nodes size before built waiting places) ≡ true
      → (size ≤ length before) × (built ≤ length (built_in (settled_from string nodes size before built waiting places)))
  unfolding settled_from is_left
  ended_within h = go (leb size (length before)) (leb built size) (leb waiting 128) refl refl h
    where
      go : (a b d : Bool) → leb size (length before) ≡ a → leb built size ≡ b → is_left (within_if (a && (b && d))) ≡ true
          → (size ≤ length before) × (built ≤ length (built_in (within_if (a && (b && d)))))
      go true true true e f h =
          let room = leb-true size (length before) e in
          let front : length (take built before) ≡ built = length-take-le built before (omega (arith, room, leb-true built size f)) in
          (room, omega (arith, front, settle_grows (look string nodes) size (take built before) (pile_of waiting places) h))
      go false b d e f h = absurd (false≢true h)
      go true false d e f h = absurd (false≢true h)
      go true true false e f h = absurd (false≢true h)

-- The bytes behind those built are the same in both outputs.
same_behind : (bytes before output : List ℕ) (built : ℕ) → built ≤ length bytes → drop built before ≡ drop built output
    → output_with bytes before ≡ output_with bytes output
unfolding output_with
same_behind bytes before output built h e =
    let split : built + (length bytes - built) ≡ length bytes = omega (arith, h) in
    ap (λ (k : ℕ). bytes ++ drop k before) (sym split)
    ∙ (ap (λ (t : List ℕ). bytes ++ t) (sym (drop-drop (length bytes - built) built before) ∙ (ap (drop (length bytes - built)) e ∙ drop-drop (length bytes - built) built output))
    ∙ ap (λ (k : ℕ). bytes ++ drop k output) split)

-- While nodes are pending.
pending_left : (s : State) (m : Lent) (shingles : List ℕ) (size root taken : ℕ) (b : List ℕ) (n : ℕ) (places : List Waiting) (output : List ℕ) → 0 < n
    → (conclude s m shingles size root taken (left b (pile_of n places))
    ≡ result waiting (going s size root (length b) taken (pile_of n places)) (with_shingles (with_output m (output_with b m.output)) shingles))
    × (output_of size root (left b (pile_of n places)) output ≡ output_with b output)
unfolding pile_of conclude output_of
pending_left s m shingles size root taken b zero places output h = absurd (omega arith)
pending_left s m shingles size root taken b (suc n) places output h = (refl, refl)

-- `before` is the output as concluding found it. The call may have put bytes in front of place `built` before.
module _ {string nodes : List ℕ} {size root : ℕ} {before after : List ℕ} {built waits : ℕ} {places : List Waiting} {number end remaining : ℕ}
    (c : Concluded string nodes size root before after built waits places number end remaining) (s : State) (m : Lent) (shingles : List ℕ) (taken : ℕ)
    (behind : drop built before ≡ drop built m.output) (long : length before ≡ length m.output) where
  abbrev Says : Settled → Type 0
  Says x = settled_from string nodes size before built waits places ≡ x

  abbrev concluded : Result
  concluded = conclude s m shingles size root taken (settled_from string nodes size before built waits places)

  -- A no: the session is over, and the output is zero.
  pub refuses : 0 < number → number < 2 ^ 32 → concluded ≡ result (refused number) (over s) (with_output m after)
  unfolding conclude answer_of output_of ends whole
  refuses above small = go (settled_from string nodes size before built waits places) refl c.answer c.output
    where
      zeros : replicate {A = ℕ} (length m.output) 0 ≡ replicate (length before) 0
      zeros = ap (λ (k : ℕ). replicate k 0) (sym long)

      no_one : (k : ℕ) → number ≡ k → after ≡ replicate (length before) 0
          → ends k s m ≡ result (refused number) (over s) (with_output m after)
      no_one k e f = λ j. result (refused (sym e j)) (over s) (with_output m ((zeros ∙ sym f) j))

      go : (x : Settled) → Says x → number ≡ answer_of size root x → after ≡ output_of size root x before
          → conclude s m shingles size root taken x ≡ result (refused number) (over s) (with_output m after)
      go too_long e a o = no_one 18 a o
      go (left b []) e a o = either (whole size root b)
          (λ t. absurd (omega (arith, small, rw t at a)))
          (λ t. rw t (no_one 19 (rw t at a) (rw t at o)))
      go (left b (x ∷ xs)) e a o = absurd (omega (arith, above, a))

  -- The string is handed over.
  pub hands : 2 ^ 32 ≤ number
      → (number ≡ 2 ^ 32 + size) × (concluded ≡ result (handed size) (over s) (with_shingles (with_output m after) shingles))
  unfolding conclude answer_of output_of whole is_left built_in
  hands large = go (settled_from string nodes size before built waits places) refl c.answer c.output
    where
      go : (x : Settled) → Says x → number ≡ answer_of size root x → after ≡ output_of size root x before
          → (number ≡ 2 ^ 32 + size)
          × (conclude s m shingles size root taken x ≡ result (handed size) (over s) (with_shingles (with_output m after) shingles))
      go too_long e a o = absurd (omega (arith, large, a))
      go (left b []) e a o = either (whole size root b)
          (λ t.
          let grown = (ended_within string nodes size before built waits places (ap is_left e)).1 in
          let more : built ≤ length b = omega (arith, grown, ap (λ (x : Settled). length (built_in x)) e) in
          let is : output_with b m.output ≡ after = sym (same_behind b before m.output built more behind) ∙ sym (rw t at o) in
          (rw t at a, rw t (ap (λ (x : List ℕ). result (handed size) (over s) (with_shingles (with_output m x) shingles)) is)))
          (λ t. absurd (omega (arith, large, rw t at a)))
      go (left b (x ∷ xs)) e a o = absurd (omega (arith, large, a))

  -- The session goes on, with what is built and pending then.
  pub goes_on : length after ≡ length before → number ≡ 0
      → concluded ≡ result waiting (going s size root end taken (pile_of remaining places)) (with_shingles (with_output m after) shingles)
  unfolding is_left built_in
  goes_on same e =
      let b : List ℕ = take end after in
      let here : settled_from string nodes size before built waits places ≡ left b (pile_of remaining places) = c.going e in
      let grown = ended_within string nodes size before built waits places (ap is_left here) in
      let more : built ≤ length b = omega (arith, grown.1, ap (λ (x : Settled). length (built_in x)) here) in
      let front : length b ≡ end = length-take-le end after (omega (arith, (c.within e).0, grown.0, same)) in
      let on = pending_left s m shingles size root taken b remaining places before (c.within e).1 in
      let is : output_with b m.output ≡ after =
      sym (same_behind b before m.output built more behind) ∙ sym (c.output ∙ (ap (λ (x : Settled). output_of size root x before) here ∙ on.1)) in
      ap (conclude s m shingles size root taken) here
      ∙ (on.0 ∙ λ j. result waiting (going s size root (front j) taken (pile_of remaining places)) (with_shingles (with_output m (is j)) shingles))
