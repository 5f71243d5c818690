-- The numbers of the six kinds of word and of the six types of message.
use Rattle.std.specs.Prelude.{ℕ}
use Rattle.message.specs.declared.kind.Kind.{Kind}
use Rattle.message.specs.declared.kind.Kind.TheVariants.{Head, Number, Part, Reference, Bytes, End}
use Rattle.message.specs.declared.kind.Form.{Form}
use Rattle.message.specs.declared.kind.Form.TheVariants.{OpeningQuery, NodeQuery, Opening, Composition, Literal, NoNode}

abbrev pub number_of_kind : Kind → ℕ
number_of_kind Head = 1
number_of_kind Number = 2
number_of_kind Part = 3
number_of_kind Reference = 4
number_of_kind Bytes = 5
number_of_kind End = 6

abbrev pub number_of_form : Form → ℕ
number_of_form OpeningQuery = 1
number_of_form NodeQuery = 2
number_of_form Opening = 3
number_of_form Composition = 4
number_of_form Literal = 5
number_of_form NoNode = 6
