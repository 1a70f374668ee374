-- Literals: texts of a form of their own, as numbers are, that stand beside the words of a table.
use Rattle.std.specs.Prelude.{◌≡◌, ℕ, Bool, true, false, not, nat_eq, List, [], ◌∷◌, ◌++◌, length, take, drop, Option, Some, option_map, if◌then◌else◌}
use Rattle.std.specs.List.{AllByRecursion}
use Rattle.lk_grammar.specs.Forms.{Form, IsText}
use Rattle.lk_grammar.specs.Words.{exactly, letters, is_word, letter_starts, each_alone, first_word, IsFirst}
use Rattle.lk_grammar.specs.Tokens.{IsBegun}
use Rattle.lk_grammar.specs.declared.literals.Token.{Token}
use Rattle.lk_grammar.specs.declared.literals.Token.TheVariants.{Word, Literal}

-- no byte that goes on with a literal comes first
abbrev pub is_ended : (ℕ → Bool) → List ℕ → Bool
is_ended goes_on [] = true
is_ended goes_on (b ∷ text) = not (goes_on b)

-- a function that tells the length of the literal in front of a text, and 0 where there is none
pub record IsLiteralReader (white : List ℕ) (form : Form) (goes_on : ℕ → Bool) (is_clear : List ℕ → Bool) (length_of : List ℕ → ℕ) : Type 0 where
  pub before : (text : List ℕ) → nat_eq (length_of text) 0 ≡ false → IsText form (take (length_of text) text)
  pub found : (literal rest : List ℕ) → IsText form literal → is_ended goes_on rest ≡ true → length_of (literal ++ rest) ≡ length literal
  pub begun : (literal : List ℕ) → IsText form literal → IsBegun white literal
  pub clear : (small front rest : List ℕ) → is_clear small ≡ true → IsText (letters small) front → length_of (front ++ rest) ≡ 0

-- a word by its letters, and a literal by its bytes
abbrev pub token_form : {W : Type 0} → (W → List ℕ) → Token W → Form
token_form letters_of (Word word) = letters (letters_of word)
token_form letters_of (Literal text) = exactly text

-- the literal in front of the text, or the first word of the table, and what is behind it
abbrev pub first_of : {W : Type 0} → (W → List ℕ) → (List ℕ → ℕ) → List W → List ℕ → Option (Token W × List ℕ)
first_of letters_of length_of table text =
    if nat_eq (length_of text) 0
    then option_map (λ first. (Word first.0, first.1)) (first_word letters_of table text)
    else Some (Literal (take (length_of text) text), drop (length_of text) text)

-- the first byte of a literal
abbrev pub literal_starts : List ℕ → List (List ℕ)
literal_starts [] = []
literal_starts (b ∷ text) = (b ∷ []) ∷ []

-- the first bytes that a token may begin with
abbrev pub token_starts : {W : Type 0} → (W → List ℕ) → Token W → List (List ℕ)
token_starts letters_of (Word word) = letter_starts (letters_of word)
token_starts letters_of (Literal text) = literal_starts text

-- the first bytes that the tokens and the spaces around them may begin with
abbrev pub next_starts : {W : Type 0} → List ℕ → (W → List ℕ) → List (Token W) → List (List ℕ)
next_starts white letters_of [] = [] ∷ each_alone white
next_starts white letters_of (token ∷ tokens) = token_starts letters_of token ++ each_alone white

-- a token that has bytes, of which the first is no space
abbrev pub is_token : {W : Type 0} → List ℕ → (W → List ℕ) → Token W → Bool
is_token white letters_of (Word word) = is_word white (letters_of word)
is_token white letters_of (Literal []) = false
is_token white letters_of (Literal (b ∷ text)) = is_word white (b ∷ [])

-- the next token, if there is one, has bytes
abbrev pub is_next_token : {W : Type 0} → List ℕ → (W → List ℕ) → List (Token W) → Bool
is_next_token white letters_of [] = true
is_next_token white letters_of (token ∷ tokens) = is_token white letters_of token

-- the word has letters with which no literal begins, and is read as itself, whatever of the next tokens comes behind it
pub record IsClearLetters {W : Type 0} (white : List ℕ) (letters_of : W → List ℕ) (is_clear : List ℕ → Bool) (table : List W) (word : W) (tokens : List (Token W)) : Type 0 where
  pub is_one : is_word white (letters_of word) ≡ true
  pub is_next : is_next_token white letters_of tokens ≡ true
  pub no_literal : is_clear (letters_of word) ≡ true
  pub first : AllByRecursion (IsFirst letters_of table word) (next_starts white letters_of tokens)

-- the literal is one, and nothing of the next tokens goes on with it
pub record IsClearLiteral {W : Type 0} (white : List ℕ) (letters_of : W → List ℕ) (form : Form) (goes_on : ℕ → Bool) (text : List ℕ) (tokens : List (Token W)) : Type 0 where
  pub is_one : IsText form text
  pub is_next : is_next_token white letters_of tokens ≡ true
  pub ended : AllByRecursion (λ start. is_ended goes_on start ≡ true) (next_starts white letters_of tokens)

abbrev pub IsClearToken : {W : Type 0} → List ℕ → (W → List ℕ) → Form → (ℕ → Bool) → (List ℕ → Bool) → List W → Token W → List (Token W) → Type 0
IsClearToken white letters_of form goes_on is_clear table (Word word) tokens = IsClearLetters white letters_of is_clear table word tokens
IsClearToken white letters_of form goes_on is_clear table (Literal text) tokens = IsClearLiteral white letters_of form goes_on text tokens

-- a literal among the tokens is one
abbrev pub IsLiteralOf : {W : Type 0} → Form → Token W → Type 0
IsLiteralOf form (Word word) = Unit {0}
IsLiteralOf form (Literal text) = IsText form text
