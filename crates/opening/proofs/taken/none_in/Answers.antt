use mathlib.Core.Bool.{true, false, not}
use mathlib.Core.Path.{◌≡◌, refl}
use Prim.Native.Nat.{ℕ}
use borrow.Author.Rules.{rules}
use Rattle.std.proofs.lemmas.Iterator.{cases_from_all, YieldsList-from_range}
use Rattle.shingle.specs.Table.{shingle_in_table, shingles_in, holds}
use Rattle.opening.proofs.Passing.{none_asked}
use Rattle.opening.proofs.taken.none_in.Goals as goal

pub returns : goal.returns
returns c =
    let test = λ (k : ℕ). not (holds (shingle_in_table c.args.list.now k) (shingles_in c.args.own.now)) in
    none_asked _ _ c.size-n.ensures _ _
    (cases_from_all _ _ _ (λ k. test k ≡ true) (λ k. test k ≡ false) c.all.ensures.ran
    (YieldsList-from_range 0 _ _ refl refl) (λ x q k. search rules) (λ x q k. search rules))
