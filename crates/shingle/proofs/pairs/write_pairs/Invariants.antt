-- The pairs written and those still to come are together all: the laws of `Listing`.
use Rattle.shingle.proofs.Listing.{Listing}
use Rattle.shingle.proofs.pairs.write_pairs.Given as goal

abbrev pub invariant-loop-i : goal.invariant-loop-i
invariant-loop-i l = Listing l.nodes l.initial.table l.table l.last l.i
