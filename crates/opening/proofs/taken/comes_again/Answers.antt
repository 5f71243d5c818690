use mathlib.Core.Path.{ap₂, ◌∙◌}
use Prim.Native.Nat.{◌+◌}
use native.Mathlib.Omega.{arith}
use Rattle.shingle.specs.Table.{holds}
use Rattle.pairs.proofs.Reading.{list_long}
use Rattle.opening.proofs.Scanning.{list_part}
use Rattle.opening.proofs.taken.comes_again.Goals as goal

pub overflow_add-k : goal.overflow_add-k
overflow_add-k c = omega (arith, list_long c.args.list.now)

pub overflow_mul-k : goal.overflow_mul-k
overflow_mul-k c = omega (arith, list_long c.args.list.now)

pub slice_bounds-contains-count : goal.slice_bounds-contains-count
slice_bounds-contains-count c = omega (arith, list_long c.args.list.now)

pub slice_bounds-contains-start : goal.slice_bounds-contains-start
slice_bounds-contains-start c = omega (arith, list_long c.args.list.now)

pub returns : goal.returns
returns c =
    let rest = list_part c.args.list.now (c.args.k + 1) (omega (arith, c.requires)) in
    c.contains.ensures ∙ ap₂ holds c.shingle_at-s.ensures rest
