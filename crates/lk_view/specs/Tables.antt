-- The table that a view reads, by `sql_table_name`. (Looker, LookML reference: sql_table_name)
use Rattle.std.specs.Prelude.{ℕ, ◌==◌, Bool, ◌||◌, ◌&&◌, nat_le, if◌then◌else◌, List, [], ◌∷◌, Option, Some, None}
use Rattle.std.specs.List.{list_all, slice_split}
use Rattle.std.specs.Option.{option_and_then, option_or}

-- ---- one name

-- a letter, a digit or an underscore
abbrev pub is_name_byte : ℕ → Bool
is_name_byte c = (nat_le 97 c && nat_le c 122) || (nat_le 65 c && nat_le c 90) || (nat_le 48 c && nat_le c 57) || c == 95

abbrev pub unless_empty : List ℕ → Option (List ℕ)
unless_empty [] = None
unless_empty (c ∷ cs) = Some (c ∷ cs)

-- a name without quotes
abbrev pub plain_name : List ℕ → Option (List ℕ)
plain_name text = if list_all is_name_byte text then unless_empty text else None

-- the text between a mark at the beginning and one at the end, where there is no third
abbrev pub in_pair : ℕ → List ℕ → Option (List ℕ)
in_pair mark text = between (slice_split (λ c. c == mark) text) where
  between : List (List ℕ) → Option (List ℕ)
  between ([] ∷ inner ∷ [] ∷ []) = Some inner
  between pieces = None

-- a name, plain or in double quotes or in backquotes
abbrev pub any_name : List ℕ → Option (List ℕ)
any_name text =
    option_or (plain_name text)
    (option_or (option_and_then unless_empty (in_pair 34 text)) (option_and_then unless_empty (in_pair 96 text)))

-- ---- names separated by dots

-- the last of some names, where each text is one
abbrev pub last_name : (List ℕ → Option (List ℕ)) → List (List ℕ) → Option (List ℕ)
last_name name_in [] = None
last_name name_in (text ∷ []) = name_in text
last_name name_in (text ∷ next ∷ texts) = option_and_then (λ name. last_name name_in (next ∷ texts)) (name_in text)

abbrev pub between_dots : List ℕ → List (List ℕ)
between_dots text = slice_split (λ c. c == 46) text

-- the name of the table: the last of names that have quotes of their own, or of names in one pair of backquotes
abbrev pub table_named : List ℕ → Option (List ℕ)
table_named text =
    option_or (last_name any_name (between_dots text))
    (option_and_then (λ inner. last_name unless_empty (between_dots inner)) (in_pair 96 text))
