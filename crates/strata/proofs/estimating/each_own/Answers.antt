use mathlib.Core.Bool.{true, false, beq}
use mathlib.Core.Path.{◌≡◌, refl}
use Prim.Native.Nat.{ℕ}
use borrow.Author.Rules.{rules}
use Rattle.std.proofs.lemmas.Iterator.{cases_from_all, YieldsList-from_range}
use Rattle.shingle.specs.Table.{shingle_in_table, shingles_in, holds}
use Rattle.strata.specs.Strata.{of_stratum}
use Rattle.strata.proofs.Members.{own_asked}
use Rattle.strata.proofs.estimating.each_own.Goals as goal

pub returns : goal.returns
returns c =
    let test = λ (k : ℕ). beq (holds (shingle_in_table c.args.list.now k) (of_stratum c.args.i (shingles_in c.args.shingles.now))) c.args.own in
    own_asked _ _ _ _ c.size-n.ensures _
    (cases_from_all _ _ _ (λ k. test k ≡ true) (λ k. test k ≡ false) c.all.ensures.ran
    (YieldsList-from_range 0 _ _ refl refl) (λ x q k. search rules) (λ x q k. search rules))
