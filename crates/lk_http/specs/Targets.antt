-- The first line of bytes, and whether a prefix of a head ends within its target, as the code finds them.
use Rattle.std.specs.Prelude.{ℕ, ◌==◌, Bool, true, false, ◌&&◌, nat_lt, if◌then◌else◌, List, [], ◌∷◌, Option, Some, None, length}
use Rattle.std.specs.List.{list_all, position_or_len, before_first, after_first}
use Rattle.std.specs.Option.{option_map}
use Rattle.httparse.specs.Ascii.{line_feed, carriage_return, space}
use Rattle.httparse.specs.Grammar.{is_token_byte, is_uri_byte}

-- where the first line feed is
abbrev pub find_feed : List ℕ → Option ℕ
find_feed bytes =
    if nat_lt (position_or_len (λ b. b == line_feed) bytes) (length bytes)
    then Some (position_or_len (λ b. b == line_feed) bytes) else None

-- the first line, and what follows its line feed
abbrev pub cut_line : List ℕ → Option (List ℕ × List ℕ)
cut_line bytes =
    option_map (λ _. (before_first (λ b. b == line_feed) bytes, after_first (λ b. b == line_feed) bytes)) (find_feed bytes)

-- the bytes after the empty lines at the front
abbrev pub skip_empty : List ℕ → List ℕ
skip_empty [] = []
skip_empty (b ∷ []) = if b == line_feed then [] else b ∷ []
skip_empty (b ∷ c ∷ bytes) =
    if b == line_feed then skip_empty (c ∷ bytes)
    else if b == carriage_return && c == line_feed then skip_empty bytes
    else b ∷ c ∷ bytes

-- the rest of a method, a space, and bytes of a target, where the method has begun or not
abbrev pub is_before_target_end : Bool → List ℕ → Bool
is_before_target_end begun [] = false
is_before_target_end begun (b ∷ line) =
    if b == space then begun && list_all is_uri_byte line
    else is_token_byte b && is_before_target_end true line

-- empty lines, a method, a space, and bytes of a target
abbrev pub ends_in_target : List ℕ → Bool
ends_in_target bytes = is_before_target_end false (skip_empty bytes)
