-- Which expressions are read, and before what.
use Rattle.std.specs.Prelude.{ℕ, ◌≡◌, ◌==◌, ◌||◌, ⊤, Bool, true, List, [], ◌∷◌}
use Rattle.std.specs.Str.{is_utf8}
use Rattle.lk_sql_tree.specs.Trees.{Sql, Column, Literal, Framed, Not, And, Or, Compare, IsNull, In, Like, Number, Negate, Concat, Lower, Upper, Case, Coalesce, NullIf, CountRows, Folded, ByKey, Sqls, no_more, more, Branches, no_else, otherwise, when}
use Rattle.lk_sql_tree.specs.Forms.{is_literal}

-- nothing comes first, or a bracket, a comma, a space or the end of a line
abbrev pub ends_operand : ℕ → Bool
ends_operand b = b == 41 || b == 44 || b == 32 || b == 10

abbrev pub is_clear : List ℕ → Bool
is_clear [] = true
is_clear (b ∷ rest) = ends_operand b

abbrev mutual
  -- the names, texts and values that stand in an expression are those that are printed
  pub IsRead : Sql → Type 0
  IsRead (Column part name) = (is_utf8 part ≡ true) × (is_utf8 name ≡ true)
  IsRead (Literal v) = is_literal v ≡ true
  IsRead (Framed f a) = IsRead a
  IsRead (Not a) = IsRead a
  IsRead (And a b) = IsRead a × IsRead b
  IsRead (Or a b) = IsRead a × IsRead b
  IsRead (Compare c a b) = IsRead a × IsRead b
  IsRead (IsNull a) = IsRead a
  IsRead (In a b xs) = IsRead a × (IsRead b × AreRead xs)
  IsRead (Like a pieces) = IsRead a
  IsRead (Number op a b) = IsRead a × IsRead b
  IsRead (Negate a) = IsRead a
  IsRead (Concat a b) = IsRead a × IsRead b
  IsRead (Lower a) = IsRead a
  IsRead (Upper a) = IsRead a
  IsRead (Case c a bs) = IsRead c × (IsRead a × AreBranchesRead bs)
  IsRead (Coalesce a xs) = IsRead a × AreRead xs
  IsRead (NullIf a b) = IsRead a × IsRead b
  IsRead CountRows = ⊤
  IsRead (Folded f a) = IsRead a
  IsRead (ByKey f k a) = IsRead k × IsRead a

  pub AreRead : Sqls → Type 0
  AreRead no_more = ⊤
  AreRead (more a xs) = IsRead a × AreRead xs

  pub AreBranchesRead : Branches → Type 0
  AreBranchesRead no_else = ⊤
  AreBranchesRead (otherwise e) = IsRead e
  AreBranchesRead (when c a bs) = IsRead c × (IsRead a × AreBranchesRead bs)
