-- The references of the plan stand in its first places.
use mathlib.Core.Path.{sym}
use native.Mathlib.Omega.{arith}
use lib.Seq.{length-take-le}
use Rattle.reply.specs.Parts.{references_of, composed_by}
use Rattle.reply.proofs.node.write_references.Goals as goal

pub slice_bounds-indexes-end : goal.slice_bounds-indexes-end
slice_bounds-indexes-end c = omega (arith, c.requires.few, c.requires.indexes_room)

pub slice_bounds-write_composition-end : goal.slice_bounds-write_composition-end
slice_bounds-write_composition-end c = sym (length-take-le _ _ (omega (arith, c.requires.few, c.requires.indexes_room)))

pub slice_bounds-counts-end : goal.slice_bounds-counts-end
slice_bounds-counts-end c = omega (arith, c.requires.few, c.requires.counts_room)

pub slice_bounds-write_composition-end-2 : goal.slice_bounds-write_composition-end-2
slice_bounds-write_composition-end-2 c = sym (length-take-le _ _ (omega (arith, c.requires.few, c.requires.counts_room)))

pub returns : goal.returns
unfolding composed_by references_of
returns c = c.write_composition.ensures
