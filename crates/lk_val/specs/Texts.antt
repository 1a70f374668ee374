-- Texts as lists of bytes: which bytes are text, and whether two are the same.
use Rattle.std.specs.Prelude.{ℕ, Bool, nat_eq, List, Option, Some, None, if◌then◌else◌}
use Rattle.std.specs.Cmp.Lexicographic.{pointwise}
use Rattle.std.specs.Str.{is_utf8}
use Rattle.lk_val.specs.Distinct.{do_differ}

-- two texts have the same bytes
abbrev pub is_same_text : List ℕ → List ℕ → Bool
is_same_text = pointwise nat_eq

-- the text that bytes are, where they are UTF-8 (RFC 3629)
abbrev pub text_of : List ℕ → Option (List ℕ)
text_of bytes = if is_utf8 bytes then Some bytes else None

-- none of the texts stands twice
abbrev pub are_different : List (List ℕ) → Bool
are_different texts = do_differ is_same_text texts
