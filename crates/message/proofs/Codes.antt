-- A kind's number and a type's are what the code has for them.
use Rattle.std.proofs.Common.{◌≡◌, ◌+◌, refl}
use denote.Enum.Declared.{tag_of}
use Rattle.message.specs.Kinds.{number_of_kind, number_of_form}
use Rattle.message.specs.contracts.kind.Kind.{the_type as the_kind}
use Rattle.message.specs.contracts.kind.Form.{the_type as the_form}
use Rattle.message.specs.declared.kind.Kind.{Kind}
use Rattle.message.specs.declared.kind.Kind.TheVariants.{Head, Number, Part, Reference, Bytes, End}
use Rattle.message.specs.declared.kind.Form.{Form}
use Rattle.message.specs.declared.kind.Form.TheVariants.{OpeningQuery, NodeQuery, Opening, Composition, Literal, NoNode}

pub kind_in_code : (kind : Kind) → tag_of the_kind kind + 1 ≡ number_of_kind kind
kind_in_code Head = refl
kind_in_code Number = refl
kind_in_code Part = refl
kind_in_code Reference = refl
kind_in_code Bytes = refl
kind_in_code End = refl

pub form_in_code : (form : Form) → tag_of the_form form + 1 ≡ number_of_form form
form_in_code OpeningQuery = refl
form_in_code NodeQuery = refl
form_in_code Opening = refl
form_in_code Composition = refl
form_in_code Literal = refl
form_in_code NoNode = refl
