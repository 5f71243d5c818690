-- Listed and still to take are all that is taken: the record `Taking`.
use Rattle.rows.specs.Rows.{words_of}
use Rattle.single.proofs.Turns.{Taking}
use Rattle.single.proofs.taking.take_all.Given as goal

abbrev pub invariant-loop-turn : goal.invariant-loop-turn
invariant-loop-turn l = Taking l.width.q l.levels l.turn l.n (words_of l.initial.cells) (words_of l.cells) l.new l.gone
