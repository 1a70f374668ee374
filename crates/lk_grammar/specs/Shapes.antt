-- Shapes: the form that a shape of the code stands for.
use Rattle.lk_grammar.specs.Forms.{Form, nothing, empty, byte, seq, either, many, nested}
use Rattle.lk_grammar.specs.declared.form.Shape.{Shape}
use Rattle.lk_grammar.specs.declared.form.Shape.TheVariants.{Nothing, Empty, Byte, Seq, Either, Many, Nested}

-- the form of a shape, whose parts are seen as forms
abbrev pub form_of : Shape → Form
form_of Nothing = nothing
form_of Empty = empty
form_of (Byte low high) = byte low high
form_of (Seq first second) = seq first.value second.value
form_of (Either one other) = either one.value other.value
form_of (Many form) = many form.value
form_of (Nested rule) = nested rule
