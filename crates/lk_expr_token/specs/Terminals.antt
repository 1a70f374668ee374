-- The terminals: what the grammars of expressions and of measures tell apart in tokens.
use Rattle.std.specs.Prelude.{ℕ, Bool, true, false, List, [], ◌∷◌, ◌++◌, map}
use Rattle.lk_expr_token.specs.declared.token.Keyword.{Keyword}
use Rattle.lk_expr_token.specs.declared.token.Keyword.TheVariants as keyword
use Rattle.lk_expr_token.specs.declared.token.Sign.{Sign}
use Rattle.lk_expr_token.specs.declared.token.Sign.TheVariants as sign
use Rattle.lk_expr_token.specs.declared.token.Token.{Token}
use Rattle.lk_expr_token.specs.declared.token.Token.TheVariants as token
use Rattle.lk_expr_token.specs.declared.terminal.Terminal.{Terminal}
use Rattle.lk_expr_token.specs.declared.terminal.Terminal.TheVariants as terminal
use Rattle.lk_expr_token.specs.Functions.{function_of, is_of_measures}

abbrev pub name_terminal : Bool → Terminal
name_terminal true = terminal.MeasureFunction
name_terminal false = terminal.Name

-- the terminal of a token
abbrev pub terminal_of : Token → Terminal
terminal_of (token.Word k) = terminal.Word k
terminal_of (token.Name name place) = name_terminal (is_of_measures (function_of name))
terminal_of (token.Compare c) = terminal.Compare
terminal_of (token.Sign s) = terminal.Sign s
terminal_of (token.Number number) = terminal.Number
terminal_of (token.Text characters) = terminal.Text
terminal_of (token.Column name) = terminal.Column
terminal_of (token.Field name) = terminal.Field
terminal_of (token.FieldOf view name) = terminal.FieldOf

abbrev pub word_byte : Keyword → ℕ
word_byte keyword.And = 1
word_byte keyword.Or = 2
word_byte keyword.Not = 3
word_byte keyword.Is = 4
word_byte keyword.Null = 5
word_byte keyword.In = 6
word_byte keyword.Between = 7
word_byte keyword.Like = 8
word_byte keyword.True = 9
word_byte keyword.False = 10
word_byte keyword.Case = 11
word_byte keyword.When = 12
word_byte keyword.Then = 13
word_byte keyword.Else = 14
word_byte keyword.End = 15

abbrev pub sign_byte : Sign → ℕ
sign_byte sign.Plus = 16
sign_byte sign.Minus = 17
sign_byte sign.Concat = 18
sign_byte sign.Times = 19
sign_byte sign.Over = 20
sign_byte sign.Open = 21
sign_byte sign.Close = 22
sign_byte sign.Comma = 23

-- the byte that stands for a terminal in the forms of the grammars
abbrev pub terminal_byte : Terminal → ℕ
terminal_byte (terminal.Word k) = word_byte k
terminal_byte (terminal.Sign s) = sign_byte s
terminal_byte terminal.MeasureFunction = 24
terminal_byte terminal.Name = 25
terminal_byte terminal.Compare = 26
terminal_byte terminal.Number = 27
terminal_byte terminal.Text = 28
terminal_byte terminal.Column = 29
terminal_byte terminal.Field = 30
terminal_byte terminal.FieldOf = 31

abbrev pub token_byte : Token → ℕ
token_byte t = terminal_byte (terminal_of t)

-- every terminal
abbrev pub every_terminal : List Terminal
every_terminal =
    map terminal.Word (keyword.And ∷ keyword.Or ∷ keyword.Not ∷ keyword.Is ∷ keyword.Null ∷ keyword.In ∷ keyword.Between ∷ keyword.Like ∷ keyword.True ∷ keyword.False ∷ keyword.Case ∷ keyword.When ∷ keyword.Then ∷ keyword.Else ∷ keyword.End ∷ [])
    ++ (map terminal.Sign (sign.Plus ∷ sign.Minus ∷ sign.Concat ∷ sign.Times ∷ sign.Over ∷ sign.Open ∷ sign.Close ∷ sign.Comma ∷ [])
    ++ (terminal.MeasureFunction ∷ terminal.Name ∷ terminal.Compare ∷ terminal.Number ∷ terminal.Text ∷ terminal.Column ∷ terminal.Field ∷ terminal.FieldOf ∷ []))
