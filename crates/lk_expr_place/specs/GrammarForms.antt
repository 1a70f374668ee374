-- The grammars of expressions and of measures as forms over the terminals of tokens, each of which is a byte.
use Rattle.std.specs.Prelude.{ℕ, List, [], ◌∷◌}
use Rattle.lk_grammar.specs.Forms.{Form, nothing, byte, seq, either, many, nested, optional}
use Rattle.lk_expr_token.specs.declared.token.Keyword.{Keyword}
use Rattle.lk_expr_token.specs.declared.token.Keyword.TheVariants as keyword
use Rattle.lk_expr_token.specs.declared.token.Sign.{Sign}
use Rattle.lk_expr_token.specs.declared.token.Sign.TheVariants as sign
use Rattle.lk_expr_token.specs.declared.terminal.Terminal.{Terminal}
use Rattle.lk_expr_token.specs.declared.terminal.Terminal.TheVariants as terminal
use Rattle.lk_expr_token.specs.Terminals.{terminal_byte}

-- ---- parts of both grammars

-- a token of the terminal
abbrev pub terminal_form : Terminal → Form
terminal_form terminal = byte (terminal_byte terminal) (terminal_byte terminal)

-- the keyword
abbrev pub word : Keyword → Form
word k = terminal_form (terminal.Word k)

-- the sign
abbrev pub mark : Sign → Form
mark s = terminal_form (terminal.Sign s)

-- a token of one of the terminals
abbrev pub one_of : List Terminal → Form
one_of [] = nothing
one_of (terminal ∷ terminals) = either (terminal_form terminal) (one_of terminals)

-- one or more operands with a token of one of the terminals between each two
abbrev pub chained : List Terminal → Form → Form
chained joints operand = seq operand (many (seq (one_of joints) operand))

-- one or more items with commas between them
abbrev pub listed : Form → Form
listed item = chained (terminal.Sign sign.Comma ∷ []) item

-- what stands between brackets
abbrev pub bracketed : Form → Form
bracketed inside = seq (mark sign.Open) (seq inside (mark sign.Close))

-- a minus before what the rule has, or the other form
abbrev pub with_minus : ℕ → Form → Form
with_minus rule other = either (seq (mark sign.Minus) (nested rule)) other

-- the signs of products
abbrev pub product_signs : List Terminal
product_signs = terminal.Sign sign.Times ∷ terminal.Sign sign.Over ∷ []

-- ---- expressions: rule 0 is an expression, rule 1 what NOT denies, and rule 2 what a minus negates

-- the terminals that are an expression by themselves
abbrev pub literals : List Terminal
literals =
    terminal.Number ∷ terminal.Text ∷ terminal.Word keyword.True ∷ terminal.Word keyword.False ∷ terminal.Word keyword.Null ∷ terminal.Column ∷ terminal.Field ∷ terminal.FieldOf ∷ []

-- the terminals of names
abbrev pub names : List Terminal
names = terminal.Name ∷ terminal.MeasureFunction ∷ []

-- the signs of sums, and that which joins texts
abbrev pub sum_signs : List Terminal
sum_signs = terminal.Sign sign.Plus ∷ terminal.Sign sign.Minus ∷ terminal.Sign sign.Concat ∷ []

-- a name, or a call with its arguments
unfoldable pub named_form : Form
named_form = seq (one_of names) (optional (bracketed (listed (nested 0))))

-- a condition with its value
abbrev pub branch_form : Form
branch_form = seq (word keyword.When) (seq (nested 0) (seq (word keyword.Then) (nested 0)))

-- one or more conditions with their values
abbrev pub branches_form : Form
branches_form = seq branch_form (many branch_form)

-- the value where no condition holds
abbrev pub else_form : Form
else_form = seq (word keyword.Else) (nested 0)

-- a choice by conditions
unfoldable pub case_form : Form
case_form = seq (word keyword.Case) (seq branches_form (seq (optional else_form) (word keyword.End)))

-- what binds most tightly
unfoldable pub atom_form : Form
atom_form = either (one_of literals) (either named_form (either (bracketed (nested 0)) case_form))

-- an atom, or a minus before what it negates
unfoldable pub unary_form : Form
unary_form = with_minus 2 atom_form

-- products
unfoldable pub term_form : Form
term_form = chained product_signs unary_form

-- sums
unfoldable pub sum_form : Form
sum_form = chained sum_signs term_form

-- NOT, where it stands
abbrev pub optional_not : Form
optional_not = optional (word keyword.Not)

-- a comparison with a sum
abbrev pub compared_form : Form
compared_form = seq (terminal_form terminal.Compare) sum_form

-- a test for NULL
abbrev pub null_form : Form
null_form = seq (word keyword.Is) (seq optional_not (word keyword.Null))

-- a list of sums
abbrev pub in_form : Form
in_form = seq (word keyword.In) (bracketed (listed sum_form))

-- two bounds, each a sum
abbrev pub between_form : Form
between_form = seq (word keyword.Between) (seq sum_form (seq (word keyword.And) sum_form))

-- a pattern
abbrev pub like_form : Form
like_form = seq (word keyword.Like) (terminal_form terminal.Text)

-- a test that may be denied by NOT before it
abbrev pub choice_form : Form
choice_form = seq optional_not (either in_form (either between_form like_form))

-- what makes a test of the sum before it
unfoldable pub tail_form : Form
tail_form = either compared_form (either null_form choice_form)

-- a sum, or a test of it
unfoldable pub test_form : Form
test_form = seq sum_form (optional tail_form)

-- a test, or NOT before what it denies
unfoldable pub not_form : Form
not_form = either (seq (word keyword.Not) (nested 1)) test_form

-- what AND joins
unfoldable pub and_form : Form
and_form = chained (terminal.Word keyword.And ∷ []) not_form

-- what OR joins, which is a whole expression
unfoldable pub expr_form : Form
expr_form = chained (terminal.Word keyword.Or ∷ []) and_form

-- the rules of expressions
unfoldable pub expr_rules : List Form
expr_rules = expr_form ∷ not_form ∷ unary_form ∷ []

-- ---- measures: rule 0 is a measure, and rule 1 what a minus negates

-- the terminals that are a measure by themselves
abbrev pub measure_literals : List Terminal
measure_literals = terminal.Number ∷ terminal.Field ∷ terminal.FieldOf ∷ []

-- the signs of sums of measures
abbrev pub measure_signs : List Terminal
measure_signs = terminal.Sign sign.Plus ∷ terminal.Sign sign.Minus ∷ []

-- a call of NULLIF or COALESCE
abbrev pub measure_call : Form
measure_call = seq (terminal_form terminal.MeasureFunction) (bracketed (listed (nested 0)))

-- what binds most tightly in a measure
unfoldable pub measure_atom : Form
measure_atom = either (one_of measure_literals) (either (bracketed (nested 0)) measure_call)

-- an atom, or a minus before what it negates
unfoldable pub measure_unary : Form
measure_unary = with_minus 1 measure_atom

-- products of measures
unfoldable pub measure_term : Form
measure_term = chained product_signs measure_unary

-- sums of measures, which are whole measures
unfoldable pub measure_form : Form
measure_form = chained measure_signs measure_term

-- the rules of measures
unfoldable pub measure_rules : List Form
measure_rules = measure_form ∷ measure_unary ∷ []
