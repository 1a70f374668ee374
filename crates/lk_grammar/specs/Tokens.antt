-- Tokens: texts that are written one behind the other with free spaces, and how they are taken off a text.
use Rattle.std.specs.Prelude.{◌≡◌, ℕ, false, List, [], ◌∷◌, ◌++◌, Option, Some, None, option_map, if◌then◌else◌}
use Rattle.lk_grammar.specs.Forms.{Form, seq, IsText, IsJoined}
use Rattle.lk_grammar.specs.Words.{spaces, free, is_white}

-- the tokens one behind the other, with free spaces before each and behind the last
abbrev pub tokens_form : {T : Type 0} → List ℕ → (T → Form) → List T → Form
tokens_form white form_of [] = spaces white
tokens_form white form_of (token ∷ tokens) = seq (free white (form_of token)) (tokens_form white form_of tokens)

-- the text without its spaces in front
abbrev pub skip_spaces : List ℕ → List ℕ → List ℕ
skip_spaces white [] = []
skip_spaces white (b ∷ text) = if is_white white b then skip_spaces white text else b ∷ text

-- the token and what more is read behind it
abbrev pub then_tokens : {T : Type 0} → Option (T × List ℕ) → (List ℕ → Option (List T)) → Option (List T)
then_tokens None more = None
then_tokens (Some first) more = option_map (λ tokens. first.0 ∷ tokens) (more first.1)

-- the tokens that a function takes off the text one by one, with the fuel of a byte for each
abbrev pub tokens_from : {T : Type 0} → List ℕ → (List ℕ → Option (T × List ℕ)) → List ℕ → List ℕ → Option (List T)
tokens_from white first_token [] [] = Some []
tokens_from white first_token [] (b ∷ text) = None
tokens_from white first_token (f ∷ fuel) [] = Some []
tokens_from white first_token (f ∷ fuel) (b ∷ text) =
    then_tokens (first_token (b ∷ text)) (λ rest. tokens_from white first_token fuel (skip_spaces white rest))

-- the tokens of the text, where it has any
abbrev pub tokens_of : {T : Type 0} → List ℕ → (List ℕ → Option (T × List ℕ)) → List ℕ → Option (List T)
tokens_of white first_token text = tokens_from white first_token text (skip_spaces white text)

-- each token stands clear of those behind it
abbrev pub AreClear : {T : Type 0} → (T → List T → Type 0) → List T → Type 0
AreClear IsClear [] = Unit {0}
AreClear IsClear (token ∷ tokens) = IsClear token tokens × AreClear IsClear tokens

-- what a token's text begins with, which is not a space
pub record IsBegun (white text : List ℕ) : Type 0 where
  pub head : ℕ
  pub tail : List ℕ
  pub is : text ≡ head ∷ tail
  pub no_space : is_white white head ≡ false

-- the function takes off what the text spells, and finds each token that stands clear of those behind it
pub record IsLexer {T : Type 0} (white : List ℕ) (form_of : T → Form) (IsClear : T → List T → Type 0) (first_token : List ℕ → Option (T × List ℕ)) : Type 0 where
  pub before : (text rest : List ℕ) (token : T) → first_token text ≡ Some (token, rest) → IsJoined (IsText (form_of token)) (λ back. back ≡ rest) text
  pub found : (token : T) (tokens : List T) (front rest : List ℕ) → IsClear token tokens → IsText (form_of token) front → IsText (tokens_form white form_of tokens) rest → first_token (front ++ rest) ≡ Some (token, rest)
  pub begun : (token : T) (tokens : List T) (front : List ℕ) → IsClear token tokens → IsText (form_of token) front → IsBegun white front
