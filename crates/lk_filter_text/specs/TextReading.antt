-- How filters of texts are read: the items that tokens are, and the grammar as a form.
use Rattle.std.specs.Prelude.{Bool, true, false, List, [], ◌∷◌, Option, Some, None, option_map, codes, if◌then◌else◌}
use Rattle.std.specs.List.{list_all}
use Rattle.lk_grammar.specs.Forms.{Form, byte, seq, either, many}
use Rattle.lk_grammar.specs.Words.{letters}
use Rattle.lk_filter_text.specs.Characters.{letter_form}
use Rattle.lk_filter_text.specs.Texts.{Part, TextToken, is_comma, is_minus, is_space}

-- ---- how items are read from the tokens

abbrev pub without_front : List TextToken → List TextToken
without_front [] = []
without_front (t ∷ tokens) = if is_space t then without_front tokens else t ∷ tokens

-- a token before others, unless it is a space and there are none
abbrev pub with_front : TextToken → List TextToken → List TextToken
with_front t [] = if is_space t then [] else t ∷ []
with_front t (u ∷ tokens) = t ∷ u ∷ tokens

abbrev pub without_end : List TextToken → List TextToken
without_end [] = []
without_end (t ∷ tokens) = with_front t (without_end tokens)

-- a pattern, unless it has no character
abbrev pub pattern_of : Bool → List TextToken → Option Part
pattern_of excluded [] = None
pattern_of excluded (t ∷ tokens) = Some (excluded, t ∷ tokens)

-- the pattern of tokens without spaces around them
abbrev pub solid_part : List TextToken → Option Part
solid_part [] = None
solid_part (t ∷ tokens) = if is_minus t then pattern_of true (without_front tokens) else Some (false, t ∷ tokens)

abbrev pub read_part : List TextToken → Option Part
read_part tokens = solid_part (without_end (without_front tokens))

-- what is before the first comma, and what is behind it
abbrev pub before_comma : List TextToken → List TextToken
before_comma [] = []
before_comma (t ∷ tokens) = if is_comma t then [] else t ∷ before_comma tokens

abbrev pub behind_comma : List TextToken → Option (List TextToken)
behind_comma [] = None
behind_comma (t ∷ tokens) = if is_comma t then Some tokens else behind_comma tokens

-- what is between the commas
abbrev pub with_first : TextToken → List (List TextToken) → List (List TextToken)
with_first t [] = (t ∷ []) ∷ []
with_first t (tokens ∷ others) = (t ∷ tokens) ∷ others

abbrev pub between_commas : List TextToken → List (List TextToken)
between_commas [] = [] ∷ []
between_commas (t ∷ tokens) = if is_comma t then [] ∷ between_commas tokens else with_first t (between_commas tokens)

abbrev pub with_part : Option Part → Option (List Part) → Option (List Part)
with_part None parts = None
with_part (Some p) parts = option_map (λ more. p ∷ more) parts

abbrev pub read_parts : List (List TextToken) → Option (List Part)
read_parts [] = Some []
read_parts (tokens ∷ others) = with_part (read_part tokens) (read_parts others)

-- the patterns behind a comma, if there is one
abbrev pub parts_left : Option (List TextToken) → Option (List Part)
parts_left None = Some []
parts_left (Some tokens) = read_parts (between_commas tokens)

abbrev pub are_spaces : List TextToken → Bool
are_spaces tokens = list_all is_space tokens

abbrev pub read_all : List TextToken → Option (List Part)
read_all tokens = if are_spaces tokens then Some [] else parts_left (Some tokens)

-- ---- the grammar as a form

abbrev pub blanks : Form
blanks = many (byte 32 32)

-- `%`, or a quoted character
abbrev pub mark_form : Form
mark_form =
    either (letters (codes "%")) (either (letters (codes "^,")) (either (letters (codes "^ ")) (either (letters (codes "^%"))
    (either (letters (codes "^_")) (either (letters (94 ∷ 34 ∷ [])) (either (letters (codes "^-")) (letters (codes "^^"))))))))

-- what a pattern begins with
abbrev pub first_form : Form
first_form = either mark_form letter_form

-- what a pattern ends with
abbrev pub solid_form : Form
solid_form = either (byte 45 45) first_form

-- a pattern with spaces inside alone
abbrev pub pattern_form : Form → Form
pattern_form first = seq first (many (seq blanks solid_form))

abbrev pub item_form : Form
item_form = seq blanks (seq (either (seq (byte 45 45) (seq blanks (pattern_form solid_form))) (pattern_form first_form)) blanks)

abbrev pub further_form : Form
further_form = seq (letters (codes ",")) item_form

unfoldable pub text_form : Form
text_form = either blanks (seq item_form (many further_form))
