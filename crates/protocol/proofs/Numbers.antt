-- Laws of carried and omitted trail numbers: what question 17 refuses of them, and that both ends decide alike.
use mathlib.Core.Bool.{Bool, true, false, not, and-false}
use mathlib.Core.List.{List}
use mathlib.Core.Option.{Option, none, some}
use mathlib.Core.Path.{◌≡◌, refl, sym, ap, ◌∙◌}
use Prim.Native.Nat.{ℕ, ◌+◌, ◌≤◌}
use native.Mathlib.Omega.{arith}
use lib.Dec.{leb, ltb}
use lib.ListN.{length}
use borrow.Author.Tests.{eq-eqb, ne_eqb}
use Rattle.tree.specs.declared.Settings.{Settings}
use Rattle.tree.specs.Questions.{within}
use Rattle.shingle.specs.declared.Shingle.{Shingle}
use Rattle.trail.specs.Trails.{pairs_from, pairs_of, total, trail_number, trails_over, only_trail, only_over}
use Rattle.trail.proofs.Only.{only_alike, only_first}
use Rattle.message.specs.Words.{Ref}
use Rattle.protocol.specs.Numbers.{stated, meant_by, rightly}
use Rattle.protocol.specs.Receiver.{previouses, owns, counts, all_named, composes}

-- Question 17, where a number is not carried or omitted rightly.
module _ (σ : Settings) (list : List Shingle) (l : ℕ) (refs : List Ref) (rest : ℕ) where
  abbrev trails : ℕ
  trails = length (trails_over (previouses list refs) (owns list refs) (counts refs))

  not_rightly : (trail : Option ℕ) → rightly trail (only_over (previouses list refs) (owns list refs) (counts refs)) ≡ false → composes σ list l trail refs rest ≡ false
  unfolding composes
  not_rightly trail wrong =
      rw (
        wrong,
        and-false (ltb (meant_by trail) trails),
        and-false (leb (meant_by trail) 4095),
        and-false (within 1 32 (total (counts refs))),
        and-false (all_named list (l + 1) refs),
        and-false (ltb l σ.levels),
      ) refl

  -- "A composition that omits the number where two trails exist .. fails question 17."
  pub omitted_refused : 2 ≤ trails → composes σ list l none refs rest ≡ false
  unfolding rightly only_over
  omitted_refused two = not_rightly none (rw (ne_eqb trails 1 (λ e. omega (arith, two, e))) refl)

  -- ".. or carries one where only one does": whichever it is.
  pub carried_refused : (x : ℕ) → trails ≡ 1 → composes σ list l (some x) refs rest ≡ false
  unfolding rightly only_over
  carried_refused x one = not_rightly (some x) (rw (eq-eqb trails 1 one) refl)

-- What the sender states.
pub stated_only : (ids : List ℕ) → only_trail ids ≡ true → stated ids ≡ none
unfolding stated
stated_only ids e = rw e refl

pub stated_others : (ids : List ℕ) → only_trail ids ≡ false → stated ids ≡ some (trail_number ids)
unfolding stated
stated_others ids e = rw e refl

-- The sender over an order's own pairs, the receiver over a table of the same pairs.
module _ (ps os cs : List ℕ) (long : (length ps ≡ length cs) × (length os ≡ length cs)) (ids : List ℕ) (pairs : pairs_from 0 ids ≡ pairs_of ps os cs) where
  pub meant_number : meant_by (stated ids) ≡ trail_number ids
  unfolding meant_by
  meant_number = go (only_trail ids) refl
    where
      go : (t : Bool) → only_trail ids ≡ t → meant_by (stated ids) ≡ trail_number ids
      go true e = ap meant_by (stated_only ids e) ∙ sym (only_first ps os cs long ids pairs e)
      go false e = ap meant_by (stated_others ids e)

  pub stated-rightly : rightly (stated ids) (only_over ps os cs) ≡ true
  unfolding rightly
  stated-rightly = go (only_trail ids) refl
    where
      alike : only_trail ids ≡ only_over ps os cs
      alike = only_alike ps os cs long ids pairs

      go : (t : Bool) → only_trail ids ≡ t → rightly (stated ids) (only_over ps os cs) ≡ true
      go true e = ap (λ (trail : Option ℕ). rightly trail (only_over ps os cs)) (stated_only ids e) ∙ (sym alike ∙ e)
      go false e = ap (λ (trail : Option ℕ). rightly trail (only_over ps os cs)) (stated_others ids e) ∙ ap not (sym alike ∙ e)
