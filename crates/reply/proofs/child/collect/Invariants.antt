-- The ids collected and those still to come are all: the record `Collecting`.
use mathlib.Core.Path.{◌≡◌}
use Prim.Native.Nat.{◌/◌}
use lib.ListN.{length}
use Rattle.reply.proofs.Collecting.{ids_from, Collecting}
use Rattle.reply.proofs.child.collect.Given as goal

abbrev pub invariant-loop-k : goal.invariant-loop-k
invariant-loop-k l = (l.end ≡ length l.nodes / 16) × Collecting (ids_from l.nodes l.size l.level l.from) l.nodes l.size l.level l.k l.count l.ids
