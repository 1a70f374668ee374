-- The tokens in front of a text that spells no expression, and what begins a token of a terminal.
use Rattle.std.specs.Prelude.{◌≡◌, ℕ, ◌+◌, Bool, true, false, not, ◌&&◌, nat_eq, if◌then◌else◌, List, [], ◌∷◌, ◌++◌, length, take, Option, Some, None, option_map}
use Rattle.std.specs.List.{list_all}
use Rattle.lk_grammar.specs.Numbers.{unsigned_length}
use Rattle.lk_expr_token.specs.declared.token.Token.{Token}
use Rattle.lk_expr_token.specs.declared.terminal.Terminal.{Terminal}
use Rattle.lk_expr_token.specs.Tokens.{is_number, is_space, IsTokenAt, IsLed}
use Rattle.lk_expr_token.specs.Lexing.{first_token}
use Rattle.lk_expr_token.specs.Terminals.{terminal_of, token_byte}

-- a number comes first that no table may hold: it is out of range, or has a digit other than 0 past the fourth place
abbrev pub is_unread : List ℕ → Bool
is_unread text = not (nat_eq (unsigned_length text) 0) && not (is_number (take (unsigned_length text) text))

-- the text is one token of the terminal
abbrev pub IsOfTerminal : Terminal → List ℕ → Type 0
IsOfTerminal terminal text = (whole : ℕ) × (t : Token) × (terminal_of t ≡ terminal) × IsTokenAt whole t text []

-- the text is free spaces, and what is behind them is as given
pub record IsSpaced (Behind : List ℕ → Type 0) (text : List ℕ) : Type 0 where
  pub gap : List ℕ
  pub rest : List ℕ
  pub joined : text ≡ gap ++ rest
  pub spaces : list_all is_space gap ≡ true
  pub behind : Behind rest

-- the text is the tokens, with free spaces before each and behind the last, and what is behind these is as given; it ends a text of so many bytes
abbrev pub IsSpelledThen : ℕ → (List ℕ → Type 0) → List Token → List ℕ → Type 0
IsSpelledThen whole Behind [] text = IsSpaced Behind text
IsSpelledThen whole Behind (t ∷ ts) text = IsLed whole (IsSpelledThen whole Behind ts) t text

-- a number that no table may hold begins at the byte of the text: tokens are before it
abbrev pub IsUnreadAt : List ℕ → ℕ → Type 0
IsUnreadAt text n = (ts : List Token) × IsSpelledThen (length text) (λ rest. (is_unread rest ≡ true) × (n + length rest ≡ length text)) ts text

-- the text begins with no space
abbrev pub IsUnspaced : List ℕ → Type 0
IsUnspaced text = (b : ℕ) (more : List ℕ) → text ≡ b ∷ more → is_space b ≡ false

-- no space and no token begins the text, which ends one of so many bytes
pub record IsStuck (whole : ℕ) (text : List ℕ) : Type 0 where
  pub no_space : IsUnspaced text
  pub no_token : (t : Token) (front rest : List ℕ) → text ≡ front ++ rest → IsTokenAt whole t front rest → ⊥

-- ---- how they are found

-- the text behind its first spaces
abbrev pub behind_spaces : List ℕ → List ℕ
behind_spaces [] = []
behind_spaces (b ∷ text) = if is_space b then behind_spaces text else b ∷ text

-- the terminal of the token behind the first spaces, as its byte, and what is behind the token; the text ends one of so many bytes
abbrev pub first_terminal : ℕ → List ℕ → Option (ℕ × List ℕ)
first_terminal whole text = option_map (λ first. (token_byte first.0, first.1)) (first_token whole (behind_spaces text))

abbrev pub then_bytes : Option (ℕ × List ℕ) → (List ℕ → List ℕ) → List ℕ
then_bytes None more = []
then_bytes (Some first) more = first.0 ∷ more first.1

-- the terminals of the tokens in front of a text, as far as they are read, with fuel for each
abbrev pub terminals_from : ℕ → List ℕ → List ℕ → List ℕ
terminals_from whole [] text = []
terminals_from whole (f ∷ fuel) text = then_bytes (first_terminal whole text) (terminals_from whole fuel)

abbrev pub terminals_in : List ℕ → List ℕ
terminals_in text = terminals_from (length text) text text

abbrev pub then_rest : Option (ℕ × List ℕ) → (List ℕ → List ℕ) → List ℕ → List ℕ
then_rest None more text = text
then_rest (Some first) more text = more first.1

-- what is behind as many tokens in front of a text as there are terminals, and behind the spaces that follow them
abbrev pub behind_tokens : ℕ → List ℕ → List ℕ → List ℕ
behind_tokens whole [] text = behind_spaces text
behind_tokens whole (k ∷ terminals) text = then_rest (first_terminal whole text) (behind_tokens whole terminals) (behind_spaces text)
