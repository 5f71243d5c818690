-- What a call answers in numbers: document 01, 'Answers and questions', and document 02.
use Rattle.std.specs.Prelude.{ℕ, ◌+◌, ◌^◌, ⊤, Result, Ok, Err}
use Rattle.refusal.specs.declared.Refusal.{Refusal}
use Rattle.refusal.specs.declared.Refusal.TheVariants.{Window, FanOut, Levels, Nominal, Width, StringLength, Room, Nodes, Session, Form, Unexpected, OtherSettings, OutputLength, Sketch, Replies, NoNode, Order, Overflow, Id, Buffer, Range, Crossed, Cutting}

-- The number of a question.
abbrev pub number_of : Refusal → ℕ
number_of Window = 1
number_of FanOut = 2
number_of Levels = 3
number_of Nominal = 4
number_of Width = 5
number_of StringLength = 6
number_of Room = 7
number_of Nodes = 8
number_of Session = 9
number_of Form = 10
number_of Unexpected = 11
number_of OtherSettings = 12
number_of OutputLength = 13
number_of Sketch = 14
number_of Replies = 15
number_of NoNode = 16
number_of Order = 17
number_of Overflow = 18
number_of Id = 19
number_of Buffer = 20
number_of Range = 21
number_of Crossed = 22
number_of Cutting = 24

-- The number of the question that refuses, or "2^32 and a count".
abbrev pub answer_of : Result ℕ Refusal → ℕ
answer_of (Ok count) = 2 ^ 32 + count
answer_of (Err question) = number_of question

-- 0 where no question refuses, or the number of the one that does.
abbrev pub refused_by : Result ⊤ Refusal → ℕ
refused_by (Ok _) = 0
refused_by (Err question) = number_of question
