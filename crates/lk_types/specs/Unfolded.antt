-- IN, BETWEEN and NULLIF as the comparisons that they stand for, each with two sides of its own: where a text literal among their parts is a day or a moment beside one part, it is so in that comparison alone. Only what is compared with several others can be something else beside each of them, so they are written out only where that is a text literal: its copies are small, and no other part stands twice.
use Rattle.std.specs.Prelude.{Bool, true, false, if◌then◌else◌, List, [], ◌∷◌, map}
use Rattle.lk_val.specs.declared.value.Value.{Value}
use Rattle.lk_val.specs.declared.value.Value.TheVariants as value
use Rattle.lk_types.specs.Formula.{Formula, Literal, And, Or, Compare, In, Between, NullIf, Case, Formulas, no_more, more, otherwise, when}
use Rattle.lk_types.specs.declared.expr.Comparison.TheVariants as comparison

-- the two sides of an equation
abbrev pub Sides : Type 0
Sides = Formula × Formula

abbrev pub equation : Sides → Formula
equation sides = Compare comparison.Equal sides.0 sides.1

-- a condition and further equations, joined by OR to the left
abbrev pub or_equal : Formula → List Sides → Formula
or_equal e [] = e
or_equal e (sides ∷ more_sides) = or_equal (Or e (equation sides)) more_sides

-- x IN (a, b ..) as FALSE OR x = a OR x' = b ..: with one item too it is no equation, as IN is none
abbrev pub any_equal : List Sides → Formula
any_equal all = or_equal (Literal (value.Truth false)) all

-- one side beside each of some
abbrev pub beside_each : Formula → Formulas → List Sides
beside_each x no_more = []
beside_each x (more a xs) = (x, a) ∷ beside_each x xs

-- x BETWEEN low AND high as x >= low AND x' <= high
abbrev pub from_to : Sides → Sides → Formula
from_to low high = And (Compare comparison.AtLeast low.0 low.1) (Compare comparison.AtMost high.0 high.1)

-- NULLIF(a, b) as CASE WHEN a' = b' THEN NULL ELSE a END, where a' and b' are the two as they are compared
abbrev pub null_where_equal : Formula → Sides → Formula
null_where_equal a sides = Case (when (equation sides) (Literal value.Null) (otherwise a))

-- a text literal
abbrev pub is_text_literal : Formula → Bool
is_text_literal (Literal v) = is_text v
  where
    is_text : Value → Bool
    is_text (value.Text text) = true
    is_text other = false
is_text_literal e = false

-- the others of some sides
abbrev pub others : List Sides → Formulas
others [] = no_more
others (sides ∷ more_sides) = more sides.1 (others more_sides)

-- given: two expressions as they are compared, where a text literal beside a day or a moment is one
module _ (compared : Formula → Formula → Sides) where
  -- one side beside each of some, as they are compared
  abbrev pub compared_each : Formula → Formulas → List Sides
  compared_each x xs = map (λ sides. compared sides.0 sides.1) (beside_each x xs)

  -- x IN (a, b ..)
  abbrev pub listed : Formula → Formulas → Formula
  listed x xs = if is_text_literal x then any_equal (compared_each x xs) else In x (others (compared_each x xs))

  -- x BETWEEN low AND high
  abbrev pub ranged : Formula → Formula → Formula → Formula
  ranged x low high =
      if is_text_literal x then from_to (compared x low) (compared x high) else Between x (compared x low).1 (compared x high).1

  -- NULLIF(a, b)
  abbrev pub null_if : Formula → Formula → Formula
  null_if a b = if is_text_literal a then null_where_equal a (compared a b) else NullIf a (compared a b).1
