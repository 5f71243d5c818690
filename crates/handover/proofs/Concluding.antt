-- What copying comes to decides the answer and the output.
use Rattle.std.proofs.Common.{◌⊎◌, inl, inr}
use mathlib.Core.Bool.{Bool, true, false, cond, ◌&&◌, false≢true}
use mathlib.Core.List.{List, [], ◌++◌}
use mathlib.Core.Path.{◌≡◌, refl, sym, ap, ◌∙◌}
use Prim.Native.Nat.{ℕ, zero, suc, ◌+◌, ◌^◌, ◌≤◌, ◌<◌}
use native.Mathlib.Omega.{arith}
use borrow.Author.Tests.{eq-eqb, ne_eqb, leb-true}
use lib.Dec.{leb}
use lib.ListN.{length, take, drop, replicate, take-append-drop}
use lib.Seq.{length-take-le}
use Rattle.fnv.specs.Fnv.{id_of_block}
use Rattle.protocol.specs.Nodes.{look}
use Rattle.protocol.specs.Receiver.{Settled, too_long, left, settle, output_with}
use Rattle.copying.specs.declared.Waiting.{Waiting}
use Rattle.copying.specs.declared.Copied.{Copied}
use Rattle.copying.specs.Copying.{pile_of, settled_from, Leaves}
use Rattle.refusal.specs.declared.Refusal.{Refusal}
use Rattle.refusal.specs.declared.Refusal.TheVariants.{Overflow, Id}
use Rattle.refusal.specs.Answer.{number_of}
use Rattle.refusal.proofs.Numbers.{number_positive, number_small}
use Rattle.handover.specs.Handover.{whole, answer_of, output_of, Concluded}

is_left : Settled → Bool
is_left too_long = false
is_left (left built pile) = true

-- While a node is pending the session goes on.
some_pending : (size root : ℕ) (built : List ℕ) (n : ℕ) (places : List Waiting) → 0 < n
    → (answer_of size root (left built (pile_of n places)) ≡ 0)
    × ((output : List ℕ) → output_of size root (left built (pile_of n places)) output ≡ output_with built output)
unfolding pile_of answer_of output_of
some_pending size root built zero places h = absurd (omega arith)
some_pending size root built (suc n) places h = (refl, λ output. refl)

module _ (string nodes : List ℕ) (size : ℕ) (before : List ℕ) (built waiting : ℕ) (places : List Waiting) where
  abbrev settled : Settled
  settled = settled_from string nodes size before built waiting places

  -- What is asked of the call, and the answer in numbers.
  abbrev Ends : (root : ℕ) (after : List ℕ) (number end remaining : ℕ) → Type 0
  Ends root after number end remaining = Concluded string nodes size root before after built waiting places number end remaining

  -- A no zeroes the output.
  refusing : {root : ℕ} {after : List ℕ} (question : Refusal) → answer_of size root settled ≡ number_of question
      → output_of size root settled before ≡ replicate (length before) 0 → after ≡ replicate (length before) 0
      → Ends root after (number_of question) 0 0
  refusing question answer output zeros =
      let some = number_positive question in
      let small = number_small question in
      record {
        answer = sym answer;
        output = zeros ∙ sym output;
        going = λ e. absurd (omega (arith, some, e));
        within = λ e. absurd (omega (arith, some, e));
        over = (λ h. refl, λ h k. refl, λ h. absurd (omega (arith, small, h)));
      }

  pub too_long_lem : {root : ℕ} {after : List ℕ} → settled ≡ too_long → after ≡ replicate (length before) 0
      → Ends root after (number_of Overflow) 0 0
  unfolding answer_of output_of
  too_long_lem {root} e zeros =
      refusing Overflow (ap (answer_of size root) e) (ap (λ (x : Settled). output_of size root x before) e) zeros

  module _ {mid : List ℕ} {copied : Copied} (c : Leaves string nodes size before mid built waiting places copied) where
    -- The output has room for the announced length.
    pub room : size ≤ length before
    unfolding settled_from is_left
    room = go (leb size (length before)) refl c.fits
      where
        go : (t : Bool) → leb size (length before) ≡ t
            → cond (t && (leb built size && leb waiting 128)) (settle (look string nodes) size (take built before) (pile_of waiting places)) too_long
            ≡ left (take copied.built mid) (pile_of copied.waiting places)
            → size ≤ length before
        go true e f = leb-true size _ e
        go false e f = absurd (false≢true (ap is_left f))

    module _ (long : length mid ≡ length before) where
      -- What copying left is the output with the bytes built in front.
      front : output_with (take copied.built mid) before ≡ mid
      unfolding output_with
      front =
          let few : copied.built ≤ length mid = omega (arith, c.within.0, room, long) in
          ap (λ (k : ℕ). take copied.built mid ++ drop k before) (length-take-le copied.built mid few)
          ∙ (ap (λ (t : List ℕ). take copied.built mid ++ t) (sym c.rest) ∙ take-append-drop copied.built mid)

      -- None is pending any more.
      all_built : copied.waiting ≤ 0 → settled ≡ left (take copied.built mid) []
      unfolding pile_of
      all_built none_left =
          let zero_left : copied.waiting ≡ 0 = omega (arith, none_left) in
          c.fits ∙ ap (λ (k : ℕ). left (take copied.built mid) (pile_of k places)) zero_left

      built_length : length (take copied.built mid) ≡ copied.built
      built_length = length-take-le copied.built mid (omega (arith, c.within.0, room, long))

      decided : (root : ℕ) → copied.waiting ≤ 0 → (t : Bool) → whole size root (take copied.built mid) ≡ t
          → (answer_of size root settled ≡ cond t (2 ^ 32 + size) 19) × (output_of size root settled before ≡ cond t mid (replicate (length before) 0))
      unfolding answer_of output_of
      decided root none_left t e = (
        ap (answer_of size root) (all_built none_left) ∙ rw e,
        ap (λ (x : Settled). output_of size root x before) (all_built none_left)
            ∙ rw e (ap (λ (x : List ℕ). cond t x (replicate (length before) 0)) front),
      )

      module _ {root : ℕ} where
        pub goes_on : 0 < copied.waiting → Ends root mid 0 copied.built copied.waiting
        goes_on some =
            let on = some_pending size root (take copied.built mid) copied.waiting places some in
            record {
              answer = sym (ap (answer_of size root) c.fits ∙ on.0);
              output = sym (ap (λ (x : Settled). output_of size root x before) c.fits ∙ (on.1 before ∙ front));
              going = λ e. c.fits;
              within = λ e. (c.within.0, some, c.within.1);
              over = (λ h. absurd (omega (arith, h)), (λ h k. absurd (omega (arith, h))), λ h. absurd (omega (arith, h)));
            }

        module _ (none_left : copied.waiting ≤ 0) where
          not_whole : {after : List ℕ} → whole size root (take copied.built mid) ≡ false → after ≡ replicate (length mid) 0
              → Ends root after (number_of Id) 0 0
          not_whole e zeros =
              refusing Id (decided root none_left false e).0 (decided root none_left false e).1 (zeros ∙ ap (λ (k : ℕ). replicate k 0) long)

          pub other_string : {after : List ℕ} → (copied.built ≡ size → ⊥) ⊎ ((copied.built ≡ size) × (id_of_block (take copied.built mid) ≡ root → ⊥))
              → after ≡ replicate (length mid) 0 → Ends root after (number_of Id) 0 0
          unfolding whole
          other_string (inl h) zeros = not_whole (rw (ne_eqb _ size (λ e. h (sym built_length ∙ e))) refl) zeros
          other_string (inr (e, h)) zeros = not_whole (rw (eq-eqb _ size (built_length ∙ e), ne_eqb _ root h) refl) zeros

          pub handing : copied.built ≡ size → id_of_block (take copied.built mid) ≡ root → Ends root mid (2 ^ 32 + copied.built) copied.built 0
          unfolding whole
          handing e h =
              let yes = decided root none_left true (rw (eq-eqb _ size (built_length ∙ e), eq-eqb _ root h) refl) in
              record {
                answer = ap (λ (k : ℕ). 2 ^ 32 + k) e ∙ sym yes.0;
                output = sym yes.1;
                going = λ z. absurd (omega (arith, z));
                within = λ z. absurd (omega (arith, z));
                over = (λ x. refl, (λ x y. absurd (omega (arith, y))), λ x. e);
              }
