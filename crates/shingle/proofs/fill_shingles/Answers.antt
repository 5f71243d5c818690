-- The table too short, or filled: the laws `filled_short` and `filled`.
use mathlib.Core.Path.{refl, sym}
use Prim.Native.Nat.{◌*◌}
use native.Mathlib.Omega.{arith}
use borrow.Author.Rules.{rules}
use lib.Seq.{length-take-le}
use Rattle.shingle.proofs.Outcome.{filled_short, filled, fits, few}
use Rattle.shingle.proofs.fill_shingles.Goals as goal

pub returns-then-shingles-lt-ROOM : goal.returns-then-shingles-lt-ROOM
returns-then-shingles-lt-ROOM c = filled_short _ _ (search rules)

pub slice_bounds-arrange-end-2 : goal.slice_bounds-arrange-end-2
slice_bounds-arrange-end-2 c = sym (length-take-le (c.write_pairs-n.result * 24) _ (fits _ _ _ _ c.write_pairs-n.ensures c.if-shingles-lt-ROOM.false))

pub overflow_mul-m : goal.overflow_mul-m
overflow_mul-m c = omega (arith, few _ _ _ _ _ _ c.write_pairs-n.ensures c.arrange-m.ensures, c.write_pairs-n.ensures.few)

pub returns : goal.returns
returns c =
    filled _ _ _ _ _ _ _ _ c.if-shingles-lt-ROOM.false c.write_pairs-n.ensures c.arrange-m.ensures
    (λ i. omega (arith, c.slice_known-3-1.given i)) c.clear.ensures refl
