-- What answered questions give: the bounds on the settings and on the string.
use mathlib.Core.Bool.{Bool, true, false, cond, ◌&&◌, false≢true}
use mathlib.Core.Logic.{◌≢◌}
use mathlib.Core.Path.{◌≡◌, refl, sym, ◌∙◌}
use Prim.Native.Nat.{ℕ, ◌^◌, ◌≤◌}
use native.Mathlib.Nat.{suc-ne-zero, zero-add}
use native.Mathlib.Omega.{arith}
use borrow.Author.Tests.{leb-true, eq-eqb, ne_eqb}
use lib.Dec.{leb, eqb}
use Rattle.tree.specs.declared.Settings.{Settings}
use Rattle.tree.specs.Questions.{within, ask, refusal}
use Rattle.tree.specs.Bounds.{Granted, Cutting, shape_refusal, size_refusal}

-- A question that is passed: its test held, and those after it are passed too.
pub passed : (test : Bool) (number next : ℕ) → number ≢ 0 → ask test number next ≡ 0 → (test ≡ true) × (next ≡ 0)
unfolding ask
passed true number next h e = (refl, e)
passed false number next h e = absurd (h e)

-- Questions 1 to 3 asked first, and the others only if those pass.
in_two_steps : (a b c : Bool) (next : ℕ)
    → ask a 1 (ask b 2 (ask c 3 next)) ≡ cond (eqb (ask a 1 (ask b 2 (ask c 3 0))) 0) next (ask a 1 (ask b 2 (ask c 3 0)))
unfolding ask
in_two_steps true true true next = refl
in_two_steps true true false next = refl
in_two_steps true false c next = refl
in_two_steps false b c next = refl

module _ (σ : Settings) (size first : ℕ) (asked : first ≡ shape_refusal σ.window σ.fan_out σ.levels 0) where
  two_steps : (least : ℕ) → least ≡ σ.fan_out ^ σ.levels
      → refusal σ size ≡ cond (eqb first 0) (size_refusal least σ.nominal σ.width size) first
  unfolding refusal
  two_steps least e = in_two_steps _ _ _ _ ∙ rw (← asked, ← e)

  pub refused_early : (first ≡ 0 → ⊥) → first ≡ refusal σ size
  refused_early fails = sym (two_steps _ refl ∙ rw (ne_eqb first 0 fails))

  pub refused_late : (least r : ℕ) → first ≡ 0 → least ≡ σ.fan_out ^ σ.levels → r ≡ size_refusal least σ.nominal σ.width size → r ≡ refusal σ size
  refused_late least r passes e s = s ∙ sym (two_steps least e ∙ rw (eq-eqb first 0 passes))

both : (a b : Bool) → a && b ≡ true → (a ≡ true) × (b ≡ true)
both true true e = (refl, refl)
both true false e = absurd (false≢true e)
both false b e = absurd (false≢true e)

between : (low high x : ℕ) → within low high x ≡ true → (low ≤ x) × (x ≤ high)
between low high x e =
    let tests = both (leb low x) (leb x high) e in
    (leb-true low x tests.0, leb-true x high tests.1)

-- Questions 1 to 3 passed: what the power that 4 asks for relies on.
pub shaped : (w p levels : ℕ) → shape_refusal w p levels 0 ≡ 0 → (2 ≤ p) × (p ≤ 8) × (levels ≤ 4)
shaped w p levels e =
    let one = passed _ 1 _ (suc-ne-zero 0) e in
    let two = passed _ 2 _ (suc-ne-zero 1) one.1 in
    let three = passed _ 3 _ (suc-ne-zero 2) two.1 in
    ((between _ _ _ two.0).0, (between _ _ _ two.0).1, (between _ _ _ three.0).1)

pub granted : (σ : Settings) (size : ℕ) → refusal σ size ≡ 0 → Granted σ × (size ≤ 65536)
unfolding refusal
granted σ size e =
    let one = passed _ 1 _ (suc-ne-zero 0) e in
    let two = passed _ 2 _ (suc-ne-zero 1) one.1 in
    let three = passed _ 3 _ (suc-ne-zero 2) two.1 in
    let four = passed _ 4 _ (suc-ne-zero 3) three.1 in
    let five = passed _ 5 _ (suc-ne-zero 4) four.1 in
    let six = passed _ 6 _ (suc-ne-zero 5) five.1 in (
      record {
        window_low = (between _ _ _ one.0).0;
        window_high = (between _ _ _ one.0).1;
        fan_out_low = (between _ _ _ two.0).0;
        fan_out_high = (between _ _ _ two.0).1;
        levels_low = (between _ _ _ three.0).0;
        levels_high = (between _ _ _ three.0).1;
        nominal_low = (between _ _ _ four.0).0;
        nominal_high = (between _ _ _ four.0).1;
      },
      leb-true _ _ six.0,
    )

-- A string that passes them is to be cut, from its first byte and into the whole table.
pub first_cutting : (σ : Settings) (size places : ℕ) → refusal σ size ≡ 0 → places ≡ 65536 → Cutting σ σ.levels 0 0 size places 0
first_cutting σ size places e room =
    let g = granted σ size e in
    record { settings = g.0; depth = zero-add _; inside = rw zero-add g.1; room = room; within = omega arith }
