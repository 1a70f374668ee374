-- Rows and expressions whose days and moments are of the years 1 to 9999.
use Rattle.std.specs.Prelude.{Bool, true, ◌&&◌, List, Option, Some, None}
use Rattle.std.specs.List.{list_all}
use Rattle.lk_val.specs.declared.value.Value.{Value}
use Rattle.lk_val.specs.declared.value.Value.TheVariants.{Day, Moment}
use Rattle.lk_val.specs.Years.{is_day_in_years, is_moment_in_years}
use Rattle.lk_types.specs.Formula.{Formula, Column, Literal, Framed, Not, And, Or, Compare, IsNull, In, Between, Like, Number, Negate, Concat, Lower, Upper, Case, Coalesce, NullIf, Formulas, no_more, more, Cases, without_else, otherwise, when}
use Rattle.lk_types.specs.declared.rows.Joined.{Joined}

-- a day is one of the years 1 to 9999, and a moment one of their seconds
abbrev pub is_dated : Value → Bool
is_dated (Day d) = is_day_in_years d
is_dated (Moment m) = is_moment_in_years m
is_dated v = true

-- the cells of a part are so
abbrev pub is_part_dated : Option (List Value) → Bool
is_part_dated None = true
is_part_dated (Some cells) = list_all is_dated cells

-- the cells of a joined row are so
abbrev pub is_row_dated : Joined → Bool
is_row_dated row = list_all is_part_dated row.parts

abbrev mutual
  -- the literals of an expression are so
  pub are_literals_dated : Formula → Bool
  are_literals_dated (Column part column) = true
  are_literals_dated (Literal v) = is_dated v
  are_literals_dated (Framed f a) = are_literals_dated a
  are_literals_dated (Not a) = are_literals_dated a
  are_literals_dated (And a b) = are_literals_dated a && are_literals_dated b
  are_literals_dated (Or a b) = are_literals_dated a && are_literals_dated b
  are_literals_dated (Compare c a b) = are_literals_dated a && are_literals_dated b
  are_literals_dated (IsNull a) = are_literals_dated a
  are_literals_dated (In a xs) = are_literals_dated a && are_all_dated xs
  are_literals_dated (Between a low high) = are_literals_dated a && (are_literals_dated low && are_literals_dated high)
  are_literals_dated (Like a pieces) = are_literals_dated a
  are_literals_dated (Number op a b) = are_literals_dated a && are_literals_dated b
  are_literals_dated (Negate a) = are_literals_dated a
  are_literals_dated (Concat a b) = are_literals_dated a && are_literals_dated b
  are_literals_dated (Lower a) = are_literals_dated a
  are_literals_dated (Upper a) = are_literals_dated a
  are_literals_dated (Case cases) = are_cases_dated cases
  are_literals_dated (Coalesce xs) = are_all_dated xs
  are_literals_dated (NullIf a b) = are_literals_dated a && are_literals_dated b

  pub are_all_dated : Formulas → Bool
  are_all_dated no_more = true
  are_all_dated (more a xs) = are_literals_dated a && are_all_dated xs

  pub are_cases_dated : Cases → Bool
  are_cases_dated without_else = true
  are_cases_dated (otherwise a) = are_literals_dated a
  are_cases_dated (when c a rest) = are_literals_dated c && (are_literals_dated a && are_cases_dated rest)
