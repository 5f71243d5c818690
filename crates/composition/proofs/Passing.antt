-- What question 17 asks of a composition, one by one.
use mathlib.Core.Bool.{Bool, true, ◌&&◌}
use mathlib.Core.List.{List}
use mathlib.Core.Option.{Option}
use mathlib.Core.Path.{◌≡◌}
use Prim.Native.Nat.{ℕ, ◌+◌, ◌≤◌, ◌<◌}
use borrow.Author.Tests.{lt-ltb, ltb-true, le-leb, leb-true}
use lib.Dec.{leb, ltb}
use lib.ListN.{length}
use Rattle.tree.specs.declared.Settings.{Settings}
use Rattle.shingle.specs.declared.Shingle.{Shingle}
use Rattle.trail.specs.Trails.{total, trails_over, only_over}
use Rattle.trail.proofs.Tally.{both_true}
use Rattle.message.specs.Words.{Ref}
use Rattle.protocol.specs.Numbers.{meant_by, rightly}
use Rattle.protocol.specs.Receiver.{all_named, previouses, owns, counts, composes}

pub record Passed (σ : Settings) (list : List Shingle) (l : ℕ) (trail : Option ℕ) (refs : List Ref) (rest : ℕ) : Type 0 where
  pub level : l < σ.levels
  pub named : all_named list (l + 1) refs ≡ true
  pub some : 1 ≤ total (counts refs)
  pub few : total (counts refs) ≤ 32
  pub small : meant_by trail ≤ 4095
  pub there : meant_by trail < length (trails_over (previouses list refs) (owns list refs) (counts refs))
  pub carried : rightly trail (only_over (previouses list refs) (owns list refs) (counts refs)) ≡ true
  pub room : rest + total (counts refs) ≤ 128

module _ (σ : Settings) (list : List Shingle) (l : ℕ) (trail : Option ℕ) (refs : List Ref) (rest : ℕ) where
  abbrev trails : ℕ
  trails = length (trails_over (previouses list refs) (owns list refs) (counts refs))

  abbrev only : Bool
  only = only_over (previouses list refs) (owns list refs) (counts refs)

  pub passed : composes σ list l trail refs rest ≡ true → Passed σ list l trail refs rest
  unfolding composes
  passed e =
      let e₁ = both_true (ltb l σ.levels) _ e in
      let e₂ = both_true (all_named list (l + 1) refs) _ e₁.1 in
      let e₃ = both_true (leb 1 (total (counts refs)) && leb (total (counts refs)) 32) _ e₂.1 in
      let e₄ = both_true (leb (meant_by trail) 4095) _ e₃.1 in
      let e₅ = both_true (ltb (meant_by trail) trails) _ e₄.1 in
      let e₆ = both_true (rightly trail only) _ e₅.1 in
      let sum = both_true (leb 1 (total (counts refs))) _ e₃.0 in
      record {
        level = ltb-true l σ.levels e₁.0;
        named = e₂.0;
        some = leb-true 1 (total (counts refs)) sum.0;
        few = leb-true (total (counts refs)) 32 sum.1;
        small = leb-true (meant_by trail) 4095 e₄.0;
        there = ltb-true (meant_by trail) trails e₅.0;
        carried = e₆.0;
        room = leb-true (rest + total (counts refs)) 128 e₆.1;
      }

  pub passes : Passed σ list l trail refs rest → composes σ list l trail refs rest ≡ true
  unfolding composes
  passes p =
      rw (
        lt-ltb l σ.levels p.level,
        p.named,
        le-leb 1 (total (counts refs)) p.some,
        le-leb (total (counts refs)) 32 p.few,
        le-leb (meant_by trail) 4095 p.small,
        lt-ltb (meant_by trail) trails p.there,
        p.carried,
        le-leb (rest + total (counts refs)) 128 p.room,
      )
