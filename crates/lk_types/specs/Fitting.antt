-- How far a pattern fits a text from its front. It is how the program finds whether a pattern covers a text, and no part of what that means.
use Rattle.std.specs.Prelude.{ℕ, ◌==◌, if◌then◌else◌, List, [], ◌∷◌}
use Rattle.lk_types.specs.Expressions.{after_character}
use Rattle.lk_types.specs.declared.expr.Piece.{Piece}
use Rattle.lk_types.specs.declared.expr.Piece.TheVariants.{Any, One, Byte}
use Rattle.lk_types.specs.declared.pattern.Fit as code
use Rattle.lk_types.specs.declared.pattern.Fit.TheVariants.{Whole, Not, UpTo}

pub data Fit : Type 0 where
  -- all of the pattern fits all of the text
  whole : Fit
  -- it does not fit
  no : Fit
  -- it fits up to its first piece for any characters: what is behind that piece, and the text that is left
  up_to : List Piece → List ℕ → Fit

abbrev pub fit_front : List Piece → List ℕ → Fit
fit_front [] [] = whole
fit_front [] (c ∷ cs) = no
fit_front (Any ∷ pieces) text = up_to pieces text
fit_front (One ∷ pieces) [] = no
fit_front (One ∷ pieces) (c ∷ cs) = fit_front pieces (after_character cs)
fit_front (Byte b ∷ pieces) [] = no
fit_front (Byte b ∷ pieces) (c ∷ cs) = if b == c then fit_front pieces cs else no

abbrev pub fit_of : code.Fit → Fit
fit_of Whole = whole
fit_of Not = no
fit_of (UpTo pieces text) = up_to pieces.now text.now
