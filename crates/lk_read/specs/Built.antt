-- The part of a tree that is read: its lines so far, and the places of the braces that are open.
use Rattle.std.specs.Prelude.{ℕ, List, [], ◌∷◌, ◌++◌, Option, Some, None}
use Rattle.lk_read.specs.Lines.{Line, block, closing}

-- the lines so far, and the places of the open braces, the innermost first
pub record Built : Type 0 where
  pub lines : List Line
  pub open_braces : List ℕ

abbrev pub nothing_built : Built
nothing_built = record { lines = []; open_braces = [] }

-- with further lines, which open and close nothing
abbrev pub with_lines : Built → List Line → Built
with_lines built more = record { lines = built.lines ++ more; open_braces = built.open_braces }

-- with the line that opens a block, whose brace is at this place
abbrev pub with_block : Built → List ℕ → ℕ → Option (List ℕ) → ℕ → Built
with_block built name place title brace =
    record { lines = built.lines ++ block name place title ∷ []; open_braces = brace ∷ built.open_braces }

-- with the line that closes the innermost block; these braces stay open
abbrev pub with_closing : Built → List ℕ → Built
with_closing built outer = record { lines = built.lines ++ closing ∷ []; open_braces = outer }

abbrev pub first_of : List ℕ → Option ℕ
first_of [] = None
first_of (x ∷ xs) = Some x

-- with the innermost of the open blocks closed, if there is one
abbrev pub closed_of : Built → List ℕ → Option Built
closed_of built [] = None
closed_of built (brace ∷ outer) = Some (with_closing built outer)
