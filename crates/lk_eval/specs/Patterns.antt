-- What a pattern of LIKE stands for.
use Rattle.std.specs.Prelude.{ℕ, ◌==◌, List, [], ◌∷◌, if◌then◌else◌}
use Rattle.lk_types.specs.declared.expr.Piece.{Piece}
use Rattle.lk_types.specs.declared.expr.Piece.TheVariants.{Any, One, Byte}

abbrev mutual
  -- `%` stands for any characters, `_` for one, `^` quotes what is behind it, and every other byte stands for itself
  pub pattern_of : List ℕ → List Piece
  pattern_of [] = []
  pattern_of (b ∷ text) =
      if b == 37 then Any ∷ pattern_of text else
      if b == 95 then One ∷ pattern_of text else
      if b == 94 then quoted text else
      Byte b ∷ pattern_of text

  -- the byte behind a `^` stands for itself, and so does a `^` with nothing behind it
  pub quoted : List ℕ → List Piece
  quoted [] = Byte 94 ∷ []
  quoted (b ∷ text) = Byte b ∷ pattern_of text

-- a text of the pattern, with each byte quoted
abbrev pub pattern_text : List Piece → List ℕ
pattern_text [] = []
pattern_text (Any ∷ pieces) = 37 ∷ pattern_text pieces
pattern_text (One ∷ pieces) = 95 ∷ pattern_text pieces
pattern_text (Byte b ∷ pieces) = 94 ∷ b ∷ pattern_text pieces
