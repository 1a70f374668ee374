-- Texts between quotes, in which a quote stands twice, and the pieces of a pattern.
use Rattle.std.specs.Prelude.{ℕ, ◌==◌, Bool, true, false, if◌then◌else◌, List, [], ◌∷◌, ◌++◌, Option, Some, None}
use Rattle.std.specs.Str.{is_utf8}
use Rattle.lk_types.specs.declared.expr.Piece.{Piece}
use Rattle.lk_types.specs.declared.expr.Piece.TheVariants as piece

-- more characters before the others
abbrev pub with_bytes : List ℕ → Option (List ℕ × List ℕ) → Option (List ℕ × List ℕ)
with_bytes front None = None
with_bytes front (Some (text, rest)) = Some (front ++ text, rest)

-- the characters up to the quote that no quote follows, and what is behind it
abbrev pub first_characters : ℕ → List ℕ → Option (List ℕ × List ℕ)
first_characters quote [] = None
first_characters quote (b ∷ []) = if b == quote then Some ([], []) else None
first_characters quote (b ∷ c ∷ text) =
    if b == quote then (if c == quote then with_bytes (quote ∷ []) (first_characters quote text) else Some ([], c ∷ text))
    else with_bytes (b ∷ []) (first_characters quote (c ∷ text))

-- the same, where a quote comes first
abbrev pub first_quoted : ℕ → List ℕ → Option (List ℕ × List ℕ)
first_quoted quote [] = None
first_quoted quote (b ∷ text) = if b == quote then first_characters quote text else None

-- the same, where the characters are UTF-8
abbrev pub if_utf8 : Option (List ℕ × List ℕ) → Option (List ℕ × List ℕ)
if_utf8 None = None
if_utf8 (Some found) = if is_utf8 found.0 then Some found else None

abbrev pub first_text : ℕ → List ℕ → Option (List ℕ × List ℕ)
first_text quote text = if_utf8 (first_quoted quote text)

-- a byte of a pattern with no `^` before it (SQL, LIKE)
abbrev pub plain_piece : ℕ → Piece
plain_piece b = if b == 37 then piece.Any else if b == 95 then piece.One else piece.Byte b

-- the pieces of a pattern, given whether a `^` stands before it (lookd)
abbrev pub pieces_from : Bool → List ℕ → List Piece
pieces_from escaped [] = []
pieces_from true (b ∷ text) = piece.Byte b ∷ pieces_from false text
pieces_from false (b ∷ text) = if b == 94 then pieces_from true text else plain_piece b ∷ pieces_from false text
