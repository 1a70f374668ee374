-- The forms of the terminals: a token is a text of its terminal's form, and each text of the form begins such a token, unless it is a number that no table may hold.
use Rattle.std.specs.Prelude.{ℕ, List, [], ◌∷◌, codes, map, Option, Some, None}
use Rattle.lk_grammar.specs.Forms.{Form, byte, seq, either, many, choice}
use Rattle.lk_grammar.specs.Words.{one, exactly, letters}
use Rattle.lk_grammar.specs.Numbers.{unsigned_number}
use Rattle.lk_expr_token.specs.declared.terminal.Terminal.{Terminal}
use Rattle.lk_expr_token.specs.declared.terminal.Terminal.TheVariants as terminal
use Rattle.lk_expr_token.specs.Tokens.{letters_of, sign_text}

-- a letter or an underscore
abbrev pub letter : Form
letter = either (either (byte 97 122) (byte 65 90)) (one 95)

-- a byte of a name
abbrev pub name_byte : Form
name_byte = either letter (byte 48 57)

-- a name
abbrev pub name : Form
name = seq name_byte (many name_byte)

-- a bare name, which may be a keyword too
abbrev pub bare_name : Form
bare_name = seq letter (many name_byte)

-- the names of the functions of measures, in any case
abbrev pub measure_function : Form
measure_function = either (letters (codes "coalesce")) (letters (codes "nullif"))

-- the texts of the comparisons
abbrev pub comparison_texts : List (List ℕ)
comparison_texts = codes "=" ∷ codes "<>" ∷ codes "!=" ∷ codes "<" ∷ codes "<=" ∷ codes ">" ∷ codes ">=" ∷ []

-- one of them
abbrev pub comparison : Form
comparison = choice (map exactly comparison_texts)

-- a name between two bytes
abbrev pub quoted : ℕ → Form
quoted quote = seq (one quote) (seq name (one quote))

-- a column of the view's own table
abbrev pub column : Form
column = seq (exactly (codes "${TABLE}.")) (either name (either (quoted 34) (quoted 96)))

-- a field of the same view
abbrev pub field : Form
field = seq (exactly (codes "${")) (seq name (one 125))

-- a field of a view
abbrev pub field_of : Form
field_of = seq (exactly (codes "${")) (seq name (seq (one 46) (seq name (one 125))))

-- the form of a terminal; texts have none, since their characters are followed byte by byte
unfoldable pub terminal_form : Terminal → Option Form
terminal_form (terminal.Word k) = Some (letters (letters_of k))
terminal_form (terminal.Sign s) = Some (exactly (sign_text s))
terminal_form terminal.MeasureFunction = Some measure_function
terminal_form terminal.Name = Some bare_name
terminal_form terminal.Compare = Some comparison
terminal_form terminal.Number = Some unsigned_number
terminal_form terminal.Text = None
terminal_form terminal.Column = Some column
terminal_form terminal.Field = Some field
terminal_form terminal.FieldOf = Some field_of
