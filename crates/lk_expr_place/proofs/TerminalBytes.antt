-- What a token of a terminal is, and that each terminal has a token.
use Rattle.std.proofs.Common.{◌≡◌, ℕ, Bool, true, false, nat_eq, List, [], ◌∷◌, codes, refl, subst, ◌∙◌}
use Rattle.std.specs.List.{list_any}
use Rattle.std.proofs.lemmas.Bool.{false≢true}
use Rattle.std.proofs.lemmas.Bool.Decides.{Decides-eqb}
use Rattle.lk_types.specs.declared.expr.Comparison.{Comparison}
use Rattle.lk_types.specs.declared.expr.Comparison.TheVariants as comparison
use Rattle.lk_expr_token.specs.declared.token.Token.{Token}
use Rattle.lk_expr_token.specs.declared.token.Token.TheVariants as token
use Rattle.lk_expr_token.specs.declared.terminal.Terminal.{Terminal}
use Rattle.lk_expr_token.specs.declared.terminal.Terminal.TheVariants as terminal
use Rattle.lk_expr_token.specs.Functions.{function_of, is_of_measures}
use Rattle.lk_expr_token.specs.Terminals.{name_terminal, terminal_of, terminal_byte, token_byte}
use Rattle.lk_expr_token.proofs.TerminalsKnown.{same_terminal}

-- ---- what a token of a terminal is

-- a name that is, or is not, of a function of measures
pub record IsNamed (of_measures : Bool) (t : Token) : Type 0 where
  pub name : List ℕ
  pub place : ℕ
  pub is : t ≡ token.Name name place
  pub of : is_of_measures (function_of name) ≡ of_measures

-- the token is one of the terminal
abbrev pub IsLike : Terminal → Token → Type 0
IsLike (terminal.Word k) t = t ≡ token.Word k
IsLike (terminal.Sign s) t = t ≡ token.Sign s
IsLike terminal.MeasureFunction t = IsNamed true t
IsLike terminal.Name t = IsNamed false t
IsLike terminal.Compare t = (c : Comparison) × (t ≡ token.Compare c)
IsLike terminal.Number t = (number : List ℕ) × (t ≡ token.Number number)
IsLike terminal.Text t = (text : List ℕ) × (t ≡ token.Text text)
IsLike terminal.Column t = (name : List ℕ) × (t ≡ token.Column name)
IsLike terminal.Field t = (name : List ℕ) × (t ≡ token.Field name)
IsLike terminal.FieldOf t = (view : List ℕ) × ((name : List ℕ) × (t ≡ token.FieldOf view name))

name_like : (name : List ℕ) (place : ℕ) (b : Bool) → is_of_measures (function_of name) ≡ b → IsLike (name_terminal b) (token.Name name place)
name_like name place true h = record { name = name; place = place; is = refl; of = h }
name_like name place false h = record { name = name; place = place; is = refl; of = h }

like_itself : (t : Token) → IsLike (terminal_of t) t
like_itself (token.Word k) = refl
like_itself (token.Name name place) = name_like name place (is_of_measures (function_of name)) refl
like_itself (token.Compare c) = (c, refl)
like_itself (token.Sign s) = refl
like_itself (token.Number number) = (number, refl)
like_itself (token.Text text) = (text, refl)
like_itself (token.Column name) = (name, refl)
like_itself (token.Field name) = (name, refl)
like_itself (token.FieldOf view name) = (view, (name, refl))

-- a token with the byte of a terminal is one of the terminal
pub like : (k : Terminal) (t : Token) → token_byte t ≡ terminal_byte k → IsLike k t
like k t e = subst (λ z. IsLike z t) (same_terminal (terminal_of t) k e) (like_itself t)

-- ---- a token for each terminal

abbrev sample : Terminal → Token
sample (terminal.Word k) = token.Word k
sample (terminal.Sign s) = token.Sign s
sample terminal.MeasureFunction = token.Name (codes "nullif") 0
sample terminal.Name = token.Name [] 0
sample terminal.Compare = token.Compare comparison.Equal
sample terminal.Number = token.Number []
sample terminal.Text = token.Text []
sample terminal.Column = token.Column []
sample terminal.Field = token.Field []
sample terminal.FieldOf = token.FieldOf [] []

sampled : (k : Terminal) → token_byte (sample k) ≡ terminal_byte k
unfolding function_of
sampled (terminal.Word k) = refl
sampled (terminal.Sign s) = refl
sampled terminal.MeasureFunction = refl
sampled terminal.Name = refl
sampled terminal.Compare = refl
sampled terminal.Number = refl
sampled terminal.Text = refl
sampled terminal.Column = refl
sampled terminal.Field = refl
sampled terminal.FieldOf = refl

-- the byte is that of a terminal
abbrev pub is_terminal : List Terminal → ℕ → Bool
is_terminal terminals b = list_any (λ k. nat_eq (terminal_byte k) b) terminals

pub token_of : (terminals : List Terminal) (b : ℕ) → is_terminal terminals b ≡ true → (t : Token) × (token_byte t ≡ b)
token_of [] b h = absurd (false≢true h)
token_of (k ∷ terminals) b h =
    elim (nat_eq (terminal_byte k) b) as (λ e. nat_eq (terminal_byte k) b ≡ e → (t : Token) × (token_byte t ≡ b)) [
      | true ↦ λ e. (sample k, sampled k ∙ (Decides-eqb (terminal_byte k) b).0 e)
      | false ↦ λ e. token_of terminals b (rw e at h)
    ] refl
