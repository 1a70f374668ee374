-- Expressions of which each part is there that the grammar wants: a list has an item, a call an argument, a CASE a branch.
use Rattle.std.specs.Prelude.{Bool, true, false, ◌&&◌}
use Rattle.lk_types.specs.Formula.{Formula, Column, Literal, Framed, Not, And, Or, Compare, IsNull, In, Between, Like, Number, Negate, Concat, Lower, Upper, Case, Coalesce, NullIf, Formulas, no_more, more, Cases, without_else, otherwise, when}
use Rattle.lk_types.specs.Calculation as calculation
use Rattle.lk_types.specs.Calculation.{Calculation, Calculations}

-- there is some expression
abbrev pub has_item : Formulas → Bool
has_item no_more = false
has_item (more a xs) = true

-- there is some branch
abbrev pub has_branch : Cases → Bool
has_branch without_else = false
has_branch (otherwise e) = false
has_branch (when c a cases) = true

abbrev mutual
  -- each part of the expression is there
  pub is_whole_form : Formula → Bool
  is_whole_form (Column part column) = true
  is_whole_form (Literal v) = true
  is_whole_form (Framed f a) = is_whole_form a
  is_whole_form (Not a) = is_whole_form a
  is_whole_form (And a b) = is_whole_form a && is_whole_form b
  is_whole_form (Or a b) = is_whole_form a && is_whole_form b
  is_whole_form (Compare c a b) = is_whole_form a && is_whole_form b
  is_whole_form (IsNull a) = is_whole_form a
  is_whole_form (In a xs) = is_whole_form a && has_item xs && are_whole_forms xs
  is_whole_form (Between a low high) = is_whole_form a && is_whole_form low && is_whole_form high
  is_whole_form (Like a pieces) = is_whole_form a
  is_whole_form (Number o a b) = is_whole_form a && is_whole_form b
  is_whole_form (Negate a) = is_whole_form a
  is_whole_form (Concat a b) = is_whole_form a && is_whole_form b
  is_whole_form (Lower a) = is_whole_form a
  is_whole_form (Upper a) = is_whole_form a
  is_whole_form (Case cases) = has_branch cases && are_whole_branches cases
  is_whole_form (Coalesce xs) = has_item xs && are_whole_forms xs
  is_whole_form (NullIf a b) = is_whole_form a && is_whole_form b

  are_whole_forms : Formulas → Bool
  are_whole_forms no_more = true
  are_whole_forms (more a xs) = is_whole_form a && are_whole_forms xs

  are_whole_branches : Cases → Bool
  are_whole_branches without_else = true
  are_whole_branches (otherwise e) = is_whole_form e
  are_whole_branches (when c a cases) = is_whole_form c && is_whole_form a && are_whole_branches cases

-- there is some calculation
abbrev pub has_argument : Calculations → Bool
has_argument calculation.no_more = false
has_argument (calculation.more a xs) = true

abbrev mutual
  -- each part of the calculation is there
  pub is_whole_calculation : Calculation → Bool
  is_whole_calculation (calculation.OfMeasure m) = true
  is_whole_calculation (calculation.Number n) = true
  is_whole_calculation (calculation.Apply o a b) = is_whole_calculation a && is_whole_calculation b
  is_whole_calculation (calculation.Negate a) = is_whole_calculation a
  is_whole_calculation (calculation.Coalesce xs) = has_argument xs && are_whole_calculations xs
  is_whole_calculation (calculation.NullIf a b) = is_whole_calculation a && is_whole_calculation b

  are_whole_calculations : Calculations → Bool
  are_whole_calculations calculation.no_more = true
  are_whole_calculations (calculation.more a xs) = is_whole_calculation a && are_whole_calculations xs
