-- The pairs counted and those still to come are all: the record `Counting`.
use Rattle.shingle.specs.Shingles.{pair_of}
use Rattle.reply.proofs.Referring.{Counting}
use Rattle.reply.proofs.reference.times.Given as goal

abbrev pub invariant-loop-own : goal.invariant-loop-own
invariant-loop-own l = Counting (pair_of l.s) l.level l.ids l.sum l.previous l.own-index
