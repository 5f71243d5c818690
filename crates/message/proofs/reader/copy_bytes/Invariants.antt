-- The first j bytes are copied, the others are as they came.
use Rattle.std.proofs.Common.{◌≡◌, drop}
use Rattle.std.proofs.Math.Seq.{paste}
use Rattle.message.specs.Words.{link_words}
use Rattle.message.specs.Parts.{three_each}
use Rattle.message.proofs.reader.copy_bytes.Given as goal

abbrev pub invariant-loop-j : goal.invariant-loop-j
invariant-loop-j l = l.part ≡ paste l.initial.part 0 (three_each (drop l.at (link_words l.message))) l.j
