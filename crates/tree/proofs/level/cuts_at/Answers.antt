-- The two powers are those of the definition, so the cuts found are the level's.
use Prim.Native.Nat.{◌*◌, ◌≤◌}
use native.Mathlib.Omega.{arith}
use borrow.Author.Rules.{rules}
use Rattle.tree.proofs.Powers.{product_small}
use Rattle.tree.proofs.level.cuts_at.Goals as goal

pub overflow_mul-s : goal.overflow_mul-s
overflow_mul-s c =
    let σ = c.args.settings in
    let small : σ.window * c.power-2.result ≤ 49152 = product_small (search rules) c.power-2.ensures.small in
    omega arith

pub returns : goal.returns
returns c =
    let h = c.power.ensures.is in
    let s = c.power-2.ensures.is in
    rw (h, s) at c.find_cuts.ensures
