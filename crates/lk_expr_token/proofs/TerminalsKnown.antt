-- No two terminals have one byte, and the list of terminals has each.
use Rattle.std.proofs.Common.{◌≡◌, ℕ, ◌-◌, nat_eq, if◌then◌else◌, List, [], ◌∷◌, Option, Some, None, refl, sym, ap, ◌∙◌}
use Rattle.std.specs.Prelude.{slice_get}
use Rattle.std.proofs.lemmas.Option.{same_Some}
use Rattle.lk_expr_token.specs.declared.token.Keyword.TheVariants as keyword
use Rattle.lk_expr_token.specs.declared.token.Sign.TheVariants as sign
use Rattle.lk_expr_token.specs.declared.terminal.Terminal.{Terminal}
use Rattle.lk_expr_token.specs.declared.terminal.Terminal.TheVariants as terminal
use Rattle.lk_expr_token.specs.Terminals.{terminal_byte, every_terminal}

-- ---- a terminal is known by its byte

-- the first terminal of a list with the byte
abbrev terminal_among : List Terminal → ℕ → Option Terminal
terminal_among [] b = None
terminal_among (k ∷ ks) b = if nat_eq (terminal_byte k) b then Some k else terminal_among ks b

known : (k : Terminal) → terminal_among every_terminal (terminal_byte k) ≡ Some k
known (terminal.Word keyword.And) = refl
known (terminal.Word keyword.Or) = refl
known (terminal.Word keyword.Not) = refl
known (terminal.Word keyword.Is) = refl
known (terminal.Word keyword.Null) = refl
known (terminal.Word keyword.In) = refl
known (terminal.Word keyword.Between) = refl
known (terminal.Word keyword.Like) = refl
known (terminal.Word keyword.True) = refl
known (terminal.Word keyword.False) = refl
known (terminal.Word keyword.Case) = refl
known (terminal.Word keyword.When) = refl
known (terminal.Word keyword.Then) = refl
known (terminal.Word keyword.Else) = refl
known (terminal.Word keyword.End) = refl
known (terminal.Sign sign.Plus) = refl
known (terminal.Sign sign.Minus) = refl
known (terminal.Sign sign.Concat) = refl
known (terminal.Sign sign.Times) = refl
known (terminal.Sign sign.Over) = refl
known (terminal.Sign sign.Open) = refl
known (terminal.Sign sign.Close) = refl
known (terminal.Sign sign.Comma) = refl
known terminal.MeasureFunction = refl
known terminal.Name = refl
known terminal.Compare = refl
known terminal.Number = refl
known terminal.Text = refl
known terminal.Column = refl
known terminal.Field = refl
known terminal.FieldOf = refl

-- terminals with one byte are one terminal
pub same_terminal : (j k : Terminal) → terminal_byte j ≡ terminal_byte k → j ≡ k
same_terminal j k e = same_Some j k (sym (known j) ∙ ap (terminal_among every_terminal) e ∙ known k)

-- ---- each terminal is in the list

pub terminal_there : (k : Terminal) → slice_get every_terminal (terminal_byte k - 1) ≡ Some k
terminal_there (terminal.Word keyword.And) = refl
terminal_there (terminal.Word keyword.Or) = refl
terminal_there (terminal.Word keyword.Not) = refl
terminal_there (terminal.Word keyword.Is) = refl
terminal_there (terminal.Word keyword.Null) = refl
terminal_there (terminal.Word keyword.In) = refl
terminal_there (terminal.Word keyword.Between) = refl
terminal_there (terminal.Word keyword.Like) = refl
terminal_there (terminal.Word keyword.True) = refl
terminal_there (terminal.Word keyword.False) = refl
terminal_there (terminal.Word keyword.Case) = refl
terminal_there (terminal.Word keyword.When) = refl
terminal_there (terminal.Word keyword.Then) = refl
terminal_there (terminal.Word keyword.Else) = refl
terminal_there (terminal.Word keyword.End) = refl
terminal_there (terminal.Sign sign.Plus) = refl
terminal_there (terminal.Sign sign.Minus) = refl
terminal_there (terminal.Sign sign.Concat) = refl
terminal_there (terminal.Sign sign.Times) = refl
terminal_there (terminal.Sign sign.Over) = refl
terminal_there (terminal.Sign sign.Open) = refl
terminal_there (terminal.Sign sign.Close) = refl
terminal_there (terminal.Sign sign.Comma) = refl
terminal_there terminal.MeasureFunction = refl
terminal_there terminal.Name = refl
terminal_there terminal.Compare = refl
terminal_there terminal.Number = refl
terminal_there terminal.Text = refl
terminal_there terminal.Column = refl
terminal_there terminal.Field = refl
terminal_there terminal.FieldOf = refl
