-- Tokens of a terminal: before which other rests a token stands, how its text begins, and that each terminal has one.
use Rattle.std.proofs.Common.{◌≡◌, inl, inr, ℕ, ◌-◌, Bool, true, false, not, nat_eq, List, [], ◌∷◌, ◌++◌, length, Some, refl, sym, ap, subst, ◌∙◌, arith}
use Rattle.std.specs.Prelude.{codes}
use Rattle.std.specs.Str.{is_utf8, chars}
use Rattle.std.proofs.lemmas.Bool.Decides.{nat_tests}
use Rattle.lk_val.specs.Numbers.{num_of}
use Rattle.lk_types.specs.declared.expr.Comparison.{Comparison}
use Rattle.lk_types.specs.declared.expr.Comparison.TheVariants as comparison
use Rattle.lk_grammar.specs.Forms.{IsText}
use Rattle.lk_grammar.specs.Numbers.{is_of_number, unsigned_number}
use Rattle.lk_grammar.specs.Literals.{is_ended}
use Rattle.lk_grammar.proofs.NumberLaws.{unsigned_reader}
use Rattle.lk_expr_token.specs.declared.token.Keyword.{Keyword}
use Rattle.lk_expr_token.specs.declared.token.Keyword.TheVariants as keyword
use Rattle.lk_expr_token.specs.declared.token.Token.{Token}
use Rattle.lk_expr_token.specs.declared.token.Token.TheVariants as token
use Rattle.lk_expr_token.specs.declared.terminal.Terminal.{Terminal}
use Rattle.lk_expr_token.specs.declared.terminal.Terminal.TheVariants as terminal
use Rattle.lk_expr_token.specs.Tokens.{is_space, is_name_byte, is_number, is_bare, keyword_of, letters_of, goes_on, sign_text, IsColumnText, IsTokenAt}
use Rattle.lk_expr_token.specs.Terminals.{terminal_of}
use Rattle.lk_expr_token.specs.TokenFronts.{IsOfTerminal, behind_spaces}
use Rattle.lk_expr_token.specs.Functions.{function_of}
use Rattle.lk_expr_token.proofs.LexSteps.{no_some}
use Rattle.lk_expr_token.proofs.LexLaws.{token_found}
use Rattle.lk_expr_token.proofs.TextLaws.{no_space, token_some}

-- ---- a token before another rest

-- no space goes on with a token of the test
abbrev StopsAtSpace : (ℕ → Bool) → Type 0
StopsAtSpace test = (b : ℕ) → is_space b ≡ true → test b ≡ false

-- what ends before the one rest ends before the other
abbrev pub EndsSo : List ℕ → List ℕ → Type 0
EndsSo rest other = (test : ℕ → Bool) → StopsAtSpace test → is_ended test rest ≡ true → is_ended test other ≡ true

names_stop : StopsAtSpace is_name_byte
names_stop b h = grind (arith, nat_tests)

numbers_stop : StopsAtSpace is_of_number
numbers_stop b h = grind (arith, nat_tests)

quotes_stop : StopsAtSpace (nat_eq 39)
quotes_stop b h = grind (arith, nat_tests)

dots_stop : StopsAtSpace (nat_eq 46)
dots_stop b h = grind (arith, nat_tests)

comparisons_stop : (c : Comparison) → StopsAtSpace (goes_on c)
comparisons_stop comparison.Equal b h = refl
comparisons_stop comparison.NotEqual b h = refl
comparisons_stop comparison.Less b h = grind (arith, nat_tests)
comparisons_stop comparison.AtMost b h = refl
comparisons_stop comparison.Greater b h = grind (arith, nat_tests)
comparisons_stop comparison.AtLeast b h = refl

column_before : (rest other name text : List ℕ) → EndsSo rest other → IsColumnText name text rest → IsColumnText name text other
column_before rest other name text so h = elim h [ inl p ↦ inl (p.0, so is_name_byte names_stop p.1) | inr q ↦ inr q ]

-- a token of the terminal that the text spells before the rest, where it stands in a text of so many bytes
abbrev pub IsTerminalAt : Terminal → ℕ → List ℕ → List ℕ → Type 0
IsTerminalAt terminal whole text rest = (t : Token) × (terminal_of t ≡ terminal) × IsTokenAt whole t text rest

-- the text spells a token of the terminal before the other rest too; a name gets its place anew
pub token_before : (whole other_whole : ℕ) (t : Token) (text rest other : List ℕ) → EndsSo rest other → IsTokenAt whole t text rest → IsTerminalAt (terminal_of t) other_whole text other
token_before whole n (token.Word k) text rest other so h = (token.Word k, refl, (h.0, h.1, so is_name_byte names_stop h.2))
token_before whole n (token.Name name place) text rest other so h = (token.Name name (n - length (text ++ other)), refl, (h.0, h.1, h.2, so is_name_byte names_stop h.3, refl))
token_before whole n (token.Compare c) text rest other so h = (token.Compare c, refl, (h.0, so (goes_on c) (comparisons_stop c) h.1))
token_before whole n (token.Sign s) text rest other so h = (token.Sign s, refl, h)
token_before whole n (token.Number number) text rest other so h = (token.Number number, refl, (h.0, h.1, h.2, so is_of_number numbers_stop h.3))
token_before whole n (token.Text characters) text rest other so h = (token.Text characters, refl, (h.0, h.1, so (nat_eq 39) quotes_stop h.2))
token_before whole n (token.Column name) text rest other so h = (token.Column name, refl, (h.0, column_before rest other name text so h.1))
token_before whole n (token.Field name) text rest other so h = (token.Field name, refl, (h.0, h.1, so (nat_eq 46) dots_stop h.2))
token_before whole n (token.FieldOf view name) text rest other so h = (token.FieldOf view name, refl, h)

-- the two rests are empty, or begin with the same byte
pub same_head : (b : ℕ) (text other : List ℕ) → EndsSo (b ∷ text) (b ∷ other)
same_head b text other test stops h = h

-- nothing more ends whatever a rest ends
pub at_end : (rest : List ℕ) → EndsSo rest []
at_end rest test stops h = refl

-- and so do spaces
pub at_space : (rest : List ℕ) (b : ℕ) (more : List ℕ) → is_space b ≡ true → EndsSo rest (b ∷ more)
at_space rest b more is test stops h = ap not (stops b is)

-- what a text spells before a rest is a token of its terminal
pub of_terminal : (whole : ℕ) (t : Token) (text rest : List ℕ) → IsTokenAt whole t text rest → IsOfTerminal (terminal_of t) text
of_terminal whole t text rest h = let k = token_before whole whole t text rest [] (at_end rest) h in (whole, k.0, k.1, k.2)

-- a token of a terminal stands at the end of a text
pub terminal_at_end : (terminal : Terminal) (text : List ℕ) → IsOfTerminal terminal text → (whole : ℕ) → IsTerminalAt terminal whole text []
terminal_at_end terminal text h whole =
    subst (λ k. IsTerminalAt k whole text []) h.2 (token_before h.0 whole h.1 text [] [] (at_end []) h.3)

-- and before spaces
pub terminal_at_space : (terminal : Terminal) (text : List ℕ) → IsOfTerminal terminal text → (whole b : ℕ) (more : List ℕ) → is_space b ≡ true → IsTerminalAt terminal whole text (b ∷ more)
terminal_at_space terminal text h whole b more is =
    subst (λ k. IsTerminalAt k whole text (b ∷ more)) h.2 (token_before h.0 whole h.1 text [] (b ∷ more) (at_space [] b more is) h.3)

-- ---- how a text of a terminal begins

-- a text that begins with a byte that is no space
pub record IsSolid (text : List ℕ) : Type 0 where
  pub head : ℕ
  pub tail : List ℕ
  pub is : text ≡ head ∷ tail
  pub no_space : is_space head ≡ false

pub token_solid : (whole : ℕ) (t : Token) (text rest : List ℕ) → IsTokenAt whole t text rest → IsSolid text
token_solid whole t [] rest h = absurd (token_some whole t rest h)
token_solid whole t (b ∷ text) rest h =
    elim (is_space b) as (λ d. is_space b ≡ d → IsSolid (b ∷ text)) [
      | true ↦ λ d. absurd (no_some (t, rest) (sym (no_space whole b (text ++ rest) d) ∙ token_found whole t (b ∷ text) rest h))
      | false ↦ λ d. record { head = b; tail = text; is = refl; no_space = d }
    ] refl

pub terminal_solid : (terminal : Terminal) (text : List ℕ) → IsOfTerminal terminal text → IsSolid text
terminal_solid terminal text h = token_solid h.0 h.1 text [] h.3

-- nothing is skipped before it
pub solid_stays : (text : List ℕ) → IsSolid text → behind_spaces text ≡ text
solid_stays text s = rw (s.is, s.no_space) refl

-- ---- each terminal has a text

pub keyword_bare : (k : Keyword) → is_bare (letters_of k) ≡ true
keyword_bare keyword.And = refl
keyword_bare keyword.Or = refl
keyword_bare keyword.Not = refl
keyword_bare keyword.Is = refl
keyword_bare keyword.Null = refl
keyword_bare keyword.In = refl
keyword_bare keyword.Between = refl
keyword_bare keyword.Like = refl
keyword_bare keyword.True = refl
keyword_bare keyword.False = refl
keyword_bare keyword.Case = refl
keyword_bare keyword.When = refl
keyword_bare keyword.Then = refl
keyword_bare keyword.Else = refl
keyword_bare keyword.End = refl

pub keyword_is : (k : Keyword) → keyword_of (letters_of k) ≡ Some k
unfolding keyword_of
keyword_is keyword.And = refl
keyword_is keyword.Or = refl
keyword_is keyword.Not = refl
keyword_is keyword.Is = refl
keyword_is keyword.Null = refl
keyword_is keyword.In = refl
keyword_is keyword.Between = refl
keyword_is keyword.Like = refl
keyword_is keyword.True = refl
keyword_is keyword.False = refl
keyword_is keyword.Case = refl
keyword_is keyword.When = refl
keyword_is keyword.Then = refl
keyword_is keyword.Else = refl
keyword_is keyword.End = refl

pub zero_is : is_number (codes "0") ≡ true
unfolding num_of
zero_is = refl

zero_text : IsText unsigned_number (codes "0")
zero_text = (unsigned_reader [] refl).before (codes "0") refl

pub terminal_text : (terminal : Terminal) → (text : List ℕ) × IsOfTerminal terminal text
unfolding keyword_of function_of is_utf8 chars
terminal_text (terminal.Word k) = (letters_of k, (0, token.Word k, refl, (keyword_bare k, keyword_is k, refl)))
terminal_text (terminal.Sign s) = (sign_text s, (0, token.Sign s, refl, refl))
terminal_text terminal.MeasureFunction = (codes "nullif", (0, token.Name (codes "nullif") 0, refl, (refl, refl, refl, refl, refl)))
terminal_text terminal.Name = (codes "x", (0, token.Name (codes "x") 0, refl, (refl, refl, refl, refl, refl)))
terminal_text terminal.Compare = (codes "=", (0, token.Compare comparison.Equal, refl, (refl, refl)))
terminal_text terminal.Number = (codes "0", (0, token.Number (codes "0"), refl, (refl, zero_text, zero_is, refl)))
terminal_text terminal.Text = (codes "''", (0, token.Text [], refl, (refl, refl, refl)))
terminal_text terminal.Column = (codes "${TABLE}.x", (0, token.Column (codes "x"), refl, (refl, inl (refl, refl))))
terminal_text terminal.Field = (codes "${x}", (0, token.Field (codes "x"), refl, (refl, refl, refl)))
terminal_text terminal.FieldOf = (codes "${x.x}", (0, token.FieldOf (codes "x") (codes "x"), refl, (refl, refl, refl)))
