-- The byte that a fault of syntax names.
use Rattle.std.specs.Prelude.{◌≡◌, ◌⊎◌, ℕ, ◌<◌, ◌≤◌, List, [], ◌∷◌, ◌++◌, length, take, map}
use Rattle.std.specs.List.{AllByRecursion}
use Rattle.lk_grammar.specs.Places.{IsViable}
use Rattle.lk_expr_token.specs.declared.token.Token.{Token}
use Rattle.lk_expr_token.specs.declared.terminal.Terminal.{Terminal}
use Rattle.lk_expr_token.specs.Tokens.{IsSpelled}
use Rattle.lk_expr_token.specs.Terminals.{terminal_byte, token_byte}
use Rattle.lk_expr_token.specs.TokenFronts.{IsUnreadAt, IsOfTerminal}

-- all before the byte begins some text of the grammar, and no number before it that no table may hold; it is the first byte of such a number, or no longer front begins a text of the grammar
pub record IsSyntaxPlace (Grammar : List ℕ → Type 0) (text : List ℕ) (place : ℕ) : Type 0 where
  pub within : place ≤ length text
  pub begins : IsViable Grammar (take place text)
  pub none : (m : ℕ) → m < place → IsUnreadAt text m → ⊥
  pub reached : IsUnreadAt text place ⊎ ((m : ℕ) → m ≤ length text → IsViable Grammar (take m text) → m ≤ place)

-- ---- how it is found

-- the text spells tokens whose terminals are of the grammar
abbrev pub IsTerminalText : (List ℕ → Type 0) → List ℕ → Type 0
IsTerminalText Terminals text = (ts : List Token) × IsSpelled (length text) ts text × Terminals (map token_byte ts)

-- a token of the terminal may stand behind the terminals
abbrev pub MayFollow : (List ℕ → Type 0) → List ℕ → Terminal → Type 0
MayFollow Terminals terminals terminal = IsViable Terminals (terminals ++ terminal_byte terminal ∷ [])

-- no front of the rest that is longer begins a token of the terminal
abbrev pub IsLongest : List ℕ → ℕ → Terminal → Type 0
IsLongest rest n terminal = (m : ℕ) → m ≤ length rest → IsViable (IsOfTerminal terminal) (take m rest) → m ≤ n

-- the length of the longest front of the rest that begins a token of one of the terminals that may follow, or 0
pub record IsStart (Terminals : List ℕ → Type 0) (terminals rest : List ℕ) (among : List Terminal) (n : ℕ) : Type 0 where
  pub within : n ≤ length rest
  pub begins : (n ≡ 0) ⊎ ((terminal : Terminal) × MayFollow Terminals terminals terminal × IsViable (IsOfTerminal terminal) (take n rest))
  pub longest : AllByRecursion (λ terminal. MayFollow Terminals terminals terminal → IsLongest rest n terminal) among
