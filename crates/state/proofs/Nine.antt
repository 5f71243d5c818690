-- Question 9: the levels of the pending nodes, and each way out.
use Rattle.std.proofs.Common.{Bool, true, false, ◌&&◌, List, [], ◌∷◌, ◌≡◌, refl, sym, ap, ◌∙◌, ℕ, zero, suc, ◌-◌, ◌≤◌, ◌<◌, arith, leb, eqb, length, get_or, take}
use Rattle.std.proofs.Math.Seq.{take-suc}
use Rattle.std.proofs.lemmas.List.Folds.{list_all-append}
use Rattle.std.specs.List.{list_all}
use borrow.Author.Tests.{le-leb, lt-leb}
use Rattle.copying.specs.declared.Waiting.{Waiting}
use Rattle.copying.specs.Copying.{pile_of}
use Rattle.protocol.specs.State.{live, shallow}
use Rattle.state.specs.Receivers.{phase_of, runs}

-- As many pending nodes as the count says.
pub length_pile : (n : ℕ) (places : List Waiting) → length (pile_of n places) ≡ n
unfolding pile_of
length_pile zero places = refl
length_pile (suc n) places = ap suc (length_pile n places)

last_first : (a b : Bool) → a && (b && true) ≡ b && a
last_first true true = refl
last_first true false = refl
last_first false true = refl
last_first false false = refl

-- Asked of each place from the bottom up.
pub shallow_each : (levels n : ℕ) (places : List Waiting) → n ≤ length places
    → list_all (λ (w : Waiting). leb w.level levels) (take n places) ≡ shallow levels (pile_of n places)
unfolding shallow pile_of
shallow_each levels zero places h = refl
shallow_each levels (suc n) places h =
    let none : Waiting = record { level = 0; id = 0 } in
    let test = λ (w : Waiting). leb w.level levels in
    let top = get_or places n none in
    ap (list_all test) (take-suc places n none (omega arith))
    ∙ (list_all-append test (take n places) (top ∷ [])
    ∙ (ap (λ (b : Bool). b && (leb top.level levels && true)) (shallow_each levels n places (omega arith))
    ∙ last_first (shallow levels (pile_of n places)) (leb top.level levels)))

second_false : (a b : Bool) → b ≡ false → a && b ≡ false
second_false true b e = e
second_false false b e = refl

none_pending : (levels : ℕ) (places : List Waiting) (phase : ℕ) → phase ≤ 1 → eqb phase 0 ≡ runs levels phase 0 places
unfolding runs phase_of live pile_of shallow
none_pending levels places zero h = refl
none_pending levels places (suc zero) h = refl
none_pending levels places (suc (suc more)) h = absurd (omega arith)

lively : (places : List Waiting) (phase waiting : ℕ) → phase ≤ 1 → (waiting ≡ 0 → ⊥) → live (phase_of phase) (pile_of waiting places) ≡ true
unfolding phase_of live pile_of
lively places zero waiting h some = refl
lively places (suc zero) zero h some = absurd (some refl)
lively places (suc zero) (suc k) h some = refl
lively places (suc (suc more)) waiting h some = absurd (omega arith)

module _ (levels phase waiting : ℕ) (places : List Waiting) where
  pub ended_stands : 1 < phase → false ≡ runs levels phase waiting places
  unfolding runs phase_of live
  ended_stands h = let more : phase ≡ suc (suc (phase - 2)) = omega arith in rw more

  pub many_stand : 128 < waiting → false ≡ runs levels phase waiting places
  unfolding runs
  many_stand h =
      let many : leb (length (pile_of waiting places)) 128 && shallow levels (pile_of waiting places) ≡ false =
      rw (length_pile waiting places, lt-leb waiting 128 h) in
      sym (second_false (live (phase_of phase) (pile_of waiting places)) _ many)

  pub none_stands : phase ≤ 1 → waiting ≡ 0 → eqb phase 0 ≡ runs levels phase waiting places
  unfolding runs
  none_stands h e = rw e (none_pending levels places phase h)

  pub some_stand : {r : Bool} → phase ≤ 1 → waiting ≤ 128 → (waiting ≡ 0 → ⊥) → r ≡ shallow levels (pile_of waiting places)
      → r ≡ runs levels phase waiting places
  unfolding runs
  some_stand h few some is = is ∙ sym (rw (lively places phase waiting h some, length_pile waiting places, le-leb waiting 128 few))
