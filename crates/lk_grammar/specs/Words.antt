-- Words: letters in any case, and free spaces before a word.
use Rattle.std.specs.Prelude.{◌≡◌, ◌⊎◌, ℕ, ◌-◌, ◌&&◌, ◌||◌, not, Bool, true, false, nat_eq, nat_le, List, [], ◌∷◌, ◌++◌, map, Option, Some, None, option_map, if◌then◌else◌}
use Rattle.std.specs.Option.{option_or}
use Rattle.std.specs.List.{list_any, AllByRecursion}
use Rattle.lk_grammar.specs.Forms.{Form, nothing, empty, byte, seq, either, many}

-- one byte
abbrev pub one : ℕ → Form
one b = byte b b

-- the bytes as they are written
abbrev pub exactly : List ℕ → Form
exactly [] = empty
exactly (b ∷ bs) = seq (one b) (exactly bs)

-- a small letter of ASCII
abbrev pub is_small : ℕ → Bool
is_small b = nat_le 97 b && nat_le b 122

-- a small letter in any case, and any other byte as it is
abbrev pub char : ℕ → Form
char b = if is_small b then either (one b) (one (b - 32)) else one b

-- letters in any case
abbrev pub letters : List ℕ → Form
letters [] = empty
letters (b ∷ bs) = seq (char b) (letters bs)

-- one of the bytes
abbrev pub any_of : List ℕ → Form
any_of [] = nothing
any_of (b ∷ bs) = either (one b) (any_of bs)

-- any number of spaces, which are the white bytes
abbrev pub spaces : List ℕ → Form
spaces white = many (any_of white)

-- the form with free spaces before it
abbrev pub free : List ℕ → Form → Form
free white form = seq (spaces white) form

-- a word: letters in any case with free spaces before them
abbrev pub word : List ℕ → List ℕ → Form
word white bs = free white (letters bs)

-- the byte is a space
abbrev pub is_white : List ℕ → ℕ → Bool
is_white white b = list_any (nat_eq b) white

-- a byte is the letter, in any case
abbrev pub is_char : ℕ → ℕ → Bool
is_char letter b = nat_eq b letter || (is_small letter && nat_eq b (letter - 32))

-- what is behind the letters, where the text begins with them
abbrev pub after_letters : List ℕ → List ℕ → Option (List ℕ)
after_letters [] text = Some text
after_letters (letter ∷ rest) [] = None
after_letters (letter ∷ rest) (b ∷ text) = if is_char letter b then after_letters rest text else None

-- the first word of the table that the text begins with, and what is behind it
abbrev pub first_word : {W : Type 0} → (W → List ℕ) → List W → List ℕ → Option (W × List ℕ)
first_word letters_of [] text = None
first_word letters_of (w ∷ ws) text =
    option_or (option_map (λ rest. (w, rest)) (after_letters (letters_of w) text)) (first_word letters_of ws text)

-- no byte is both letters, in any case
abbrev pub do_differ : ℕ → ℕ → Bool
do_differ a b = not (nat_eq a b || (is_small a && nat_eq b (a - 32)) || (is_small b && nat_eq a (b - 32)))

-- no text that begins with the one, in any case, begins with the other and then the rest
abbrev pub is_apart : List ℕ → List ℕ → List ℕ → Bool
is_apart [] other rest = false
is_apart (a ∷ front) [] [] = true
is_apart (a ∷ front) [] (b ∷ rest) = not (is_char a b)
is_apart (a ∷ front) (b ∷ other) rest = do_differ a b || is_apart front other rest

-- the word stands in the table, and no word before it can be read where it is spelled before the rest
abbrev pub IsFirst : {W : Type 0} → (W → List ℕ) → List W → W → List ℕ → Type 0
IsFirst letters_of [] word rest = ⊥
IsFirst letters_of (w ∷ ws) word rest =
    (word ≡ w) ⊎ ((is_apart (letters_of w) (letters_of word) rest ≡ true) × IsFirst letters_of ws word rest)

-- letters that a word may have: there are some, and the first is no space in either case
abbrev pub is_word : List ℕ → List ℕ → Bool
is_word white [] = false
is_word white (letter ∷ rest) = not (is_white white letter) && not (is_small letter && is_white white (letter - 32))

-- the first byte of the letters, in each case
abbrev pub letter_starts : List ℕ → List (List ℕ)
letter_starts [] = []
letter_starts (letter ∷ rest) = (letter ∷ []) ∷ (if is_small letter then ((letter - 32) ∷ []) ∷ [] else [])

-- the bytes one by one
abbrev pub each_alone : List ℕ → List (List ℕ)
each_alone bytes = map (λ b. b ∷ []) bytes

-- the first bytes that the words and the spaces around them may begin with
abbrev pub starts : {W : Type 0} → List ℕ → (W → List ℕ) → List W → List (List ℕ)
starts white letters_of [] = [] ∷ each_alone white
starts white letters_of (word ∷ words) = letter_starts (letters_of word) ++ each_alone white

-- the next word, if there is one, has letters
abbrev pub is_next_word : {W : Type 0} → List ℕ → (W → List ℕ) → List W → Bool
is_next_word white letters_of [] = true
is_next_word white letters_of (word ∷ words) = is_word white (letters_of word)

-- the word has letters and is read as itself, whatever of the next words comes behind it
pub record IsClearWord {W : Type 0} (white : List ℕ) (letters_of : W → List ℕ) (table : List W) (word : W) (words : List W) : Type 0 where
  pub is_one : is_word white (letters_of word) ≡ true
  pub is_next : is_next_word white letters_of words ≡ true
  pub first : AllByRecursion (IsFirst letters_of table word) (starts white letters_of words)

-- a word of a table, by its letters
abbrev pub word_form : {W : Type 0} → (W → List ℕ) → W → Form
word_form letters_of word = letters (letters_of word)
