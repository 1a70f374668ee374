-- Patterns of LIKE and their texts.
use Rattle.std.proofs.Common.{◌≡◌, ◌∷◌, [], List, refl, ap}
use Rattle.lk_types.specs.declared.expr.Piece.{Piece}
use Rattle.lk_types.specs.declared.expr.Piece.TheVariants.{Any, One, Byte}
use Rattle.lk_eval.specs.Patterns.{pattern_of, pattern_text}

pub text_read : (pieces : List Piece) → pattern_of (pattern_text pieces) ≡ pieces
text_read [] = refl
text_read (Any ∷ pieces) = ap (λ more. Any ∷ more) (text_read pieces)
text_read (One ∷ pieces) = ap (λ more. One ∷ more) (text_read pieces)
text_read (Byte b ∷ pieces) = ap (λ more. Byte b ∷ more) (text_read pieces)
