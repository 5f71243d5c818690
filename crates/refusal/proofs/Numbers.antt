-- Every question has a number from 1 on, below 2^32: so an answer tells a refusal from a count.
use Rattle.std.proofs.Common.{◌≡◌, ◌≢◌, ℕ, ◌%◌, ◌^◌, ◌<◌, arith, lit<}
use Rattle.refusal.specs.declared.Refusal.{Refusal}
use Rattle.refusal.specs.declared.Refusal.TheVariants.{Window, FanOut, Levels, Nominal, Width, StringLength, Room, Nodes, Session, Form, Unexpected, OtherSettings, OutputLength, Sketch, Replies, NoNode, Order, Overflow, Id, Buffer, Range, Crossed, Cutting}
use Rattle.refusal.specs.Answer.{number_of}

pub number_positive : (q : Refusal) → 0 < number_of q
number_positive Window = lit< tt
number_positive FanOut = lit< tt
number_positive Levels = lit< tt
number_positive Nominal = lit< tt
number_positive Width = lit< tt
number_positive StringLength = lit< tt
number_positive Room = lit< tt
number_positive Nodes = lit< tt
number_positive Session = lit< tt
number_positive Form = lit< tt
number_positive Unexpected = lit< tt
number_positive OtherSettings = lit< tt
number_positive OutputLength = lit< tt
number_positive Sketch = lit< tt
number_positive Replies = lit< tt
number_positive NoNode = lit< tt
number_positive Order = lit< tt
number_positive Overflow = lit< tt
number_positive Id = lit< tt
number_positive Buffer = lit< tt
number_positive Range = lit< tt
number_positive Crossed = lit< tt
number_positive Cutting = lit< tt

pub number_nonzero : (q : Refusal) → number_of q ≢ 0
number_nonzero q h = let positive = number_positive q in absurd (omega (arith, h))

pub number_small : (q : Refusal) → number_of q < 2 ^ 32
number_small Window = lit< tt
number_small FanOut = lit< tt
number_small Levels = lit< tt
number_small Nominal = lit< tt
number_small Width = lit< tt
number_small StringLength = lit< tt
number_small Room = lit< tt
number_small Nodes = lit< tt
number_small Session = lit< tt
number_small Form = lit< tt
number_small Unexpected = lit< tt
number_small OtherSettings = lit< tt
number_small OutputLength = lit< tt
number_small Sketch = lit< tt
number_small Replies = lit< tt
number_small NoNode = lit< tt
number_small Order = lit< tt
number_small Overflow = lit< tt
number_small Id = lit< tt
number_small Buffer = lit< tt
number_small Range = lit< tt
number_small Crossed = lit< tt
number_small Cutting = lit< tt

-- An answer below 2^64 is what the call for C answers.
pub answered : {r n : ℕ} → r ≡ n % 2 ^ 64 → n < 2 ^ 64 → r ≡ n
answered e small = omega arith
