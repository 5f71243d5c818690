-- No room, or written: the laws `no_room` and `written`.
use mathlib.Core.Path.{refl, sym}
use Prim.Native.Nat.{◌+◌, ◌*◌}
use native.Mathlib.Omega.{arith}
use borrow.Author.Rules.{rules}
use lib.Seq.{length-take-le}
use Rattle.opening.proofs.Outcome.{number_fits, no_room, append_fits, sort_fits, written}
use Rattle.opening.proofs.list.renew.Goals as goal

pub overflow_add-n : goal.overflow_add-n
overflow_add-n c = record { fits = number_fits _ _ _ _ _ c.count-old.ensures c.size-more.ensures c.well_formed.0.0 (omega (arith, c.well_formed.1.1.0)) }

pub returns-then-table-n : goal.returns-then-table-n
returns-then-table-n c = no_room _ _ _ _ _ c.count-old.ensures c.size-more.ensures c.if-table-n.true

pub append-requires : goal.append-requires
append-requires c = append_fits _ _ _ _ _ c.count-old.ensures c.size-more.ensures _ (search rules) c.keep.ensures

pub slice_bounds-sort-end-2 : goal.slice_bounds-sort-end-2
slice_bounds-sort-end-2 c =
    sym (length-take-le ((c.count-old.result + c.size-more.result) * 24) _
    (sort_fits _ _ _ _ _ c.count-old.ensures c.size-more.ensures _ _ (search rules) c.keep.ensures c.append.ensures))

pub returns : goal.returns
returns c =
    written _ _ _ _ _ c.count-old.ensures c.size-more.ensures _ _ _ (search rules) c.keep.ensures c.append.ensures
    c.sort.ensures c.sort.auto.table _ _ (λ i. omega (arith, c.slice_known-4-1.given i))
    c.clear.ensures refl
