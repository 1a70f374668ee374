-- Which bytes stand in names and words, and which words are names of a kind. (Looker, LookML reference; lookd)
use Rattle.std.specs.Prelude.{ℕ, Bool, false, not, ◌&&◌, ◌||◌, ◌==◌, nat_le, List, [], ◌∷◌, Option, Some, None, length, take, drop, codes, ◌+◌, if◌then◌else◌}
use Rattle.std.specs.List.{list_all, position}
use Rattle.lk_val.specs.Texts.{is_same_text}

-- white space: a space, a tab, a carriage return or a line feed
abbrev pub is_space : ℕ → Bool
is_space b = b == 32 || b == 9 || b == 13 || b == 10

-- a letter, a digit or `_`
abbrev pub is_name_byte : ℕ → Bool
is_name_byte b = (nat_le 97 b && nat_le b 122) || (nat_le 65 b && nat_le b 90) || (nat_le 48 b && nat_le b 57) || b == 95

-- one of those, or `.`, `*`, `+` or `-`
abbrev pub is_word_byte : ℕ → Bool
is_word_byte b = is_name_byte b || b == 46 || b == 42 || b == 43 || b == 45

-- one byte of a name or more
abbrev pub is_name : List ℕ → Bool
is_name text = not (length text == 0) && list_all is_name_byte text

-- a block's name: a name, which may have a `+` before it
abbrev pub is_title : List ℕ → Bool
is_title [] = false
is_title (b ∷ text) = if b == 43 then is_name text else is_name (b ∷ text)

abbrev pub is_dot : ℕ → Bool
is_dot b = b == 46

-- two names with a dot between them
abbrev pub is_key_at : List ℕ → Option ℕ → Bool
is_key_at text None = is_name text
is_key_at text (Some dot) = is_name (take dot text) && is_name (drop (dot + 1) text)

-- the name of a pair: a name, or two with a dot between them
abbrev pub is_key : List ℕ → Bool
is_key text = is_key_at text (position is_dot text)

-- a parameter of this name has code for its value
abbrev pub is_code_name : List ℕ → Bool
is_code_name name = is_same_text name (codes "sql") || is_same_text name (codes "html")
    || is_same_text name (codes "expression") || is_same_text (take 4 name) (codes "sql_")
