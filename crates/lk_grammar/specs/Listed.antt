-- Lists of items with something between them, as forms.
use Rattle.std.specs.Prelude.{ℕ, List, [], ◌∷◌, ◌++◌, Option, Some, None, option_map}
use Rattle.std.specs.Option.{option_and_then}
use Rattle.lk_grammar.specs.Forms.{Form, empty, seq, either, many}
use Rattle.lk_grammar.specs.Words.{spaces, free}

-- the tokens one behind the other, with free spaces before each and none behind the last
abbrev pub run_form : {T : Type 0} → List ℕ → (T → Form) → List T → Form
run_form white form_of [] = empty
run_form white form_of (token ∷ tokens) = seq (free white (form_of token)) (run_form white form_of tokens)

-- the tokens of the further items, one behind the other
abbrev pub further_tokens : {T Y : Type 0} → (Y → List T) → List Y → List T
further_tokens tokens_of [] = []
further_tokens tokens_of (y ∷ ys) = tokens_of y ++ further_tokens tokens_of ys

-- nothing but spaces, or an item with any number of further ones, and spaces
abbrev pub listed : List ℕ → Form → Form → Form
listed white item further = either (spaces white) (seq item (seq (many further) (spaces white)))

-- a thing before others, if there is one
abbrev pub before_others : {T : Type 0} → Option T → List T → List T
before_others None others = others
before_others (Some t) others = t ∷ others

-- what an item gives before what the further ones give; nothing where an item gives no answer
abbrev pub with_own : {T : Type 0} → Option (Option T) → Option (List T) → Option (List T)
with_own own others = option_and_then (λ t. option_map (before_others t) others) own
