-- What is filtered of a field, as an expression.
use Rattle.std.specs.Prelude.{◌^◌, ℤ, pos, neg_ℤ, ◌*ℤ◌, List, [], ◌∷◌}
use Rattle.lk_val.specs.declared.value.Value.TheVariants as value
use Rattle.lk_types.specs.Formula.{Formula, Literal, Framed, Compare, Case, Coalesce, no_more, more, Cases, without_else, when}
use Rattle.lk_types.specs.declared.expr.Comparison.TheVariants as comparison
use Rattle.lk_types.specs.declared.explore.Field.{Field}
use Rattle.lk_types.specs.declared.explore.Shape.{Shape}
use Rattle.lk_types.specs.declared.explore.Shape.TheVariants as shape
use Rattle.lk_types.specs.declared.schema.Kind.{Kind}
use Rattle.lk_types.specs.declared.schema.Kind.TheVariants as kind
use Rattle.lk_plan.specs.Joining.{no}

-- a plain expression; an unknown yes or no is no
abbrev pub plain_formula : Kind → Formula → Formula
plain_formula kind.Truth e = Coalesce (more e (more no no_more))
plain_formula kind.Text e = e
plain_formula kind.Number e = e
plain_formula kind.Day e = e
plain_formula kind.Moment e = e

-- a number of so many ten thousandths
abbrev pub number_literal : ℤ → Formula
number_literal n = Literal (value.Num (record { 0 = n }))

-- a number that is at or above a bound stands for that bound where it is below the next one, or where there is no next one
abbrev pub tier_cases : Formula → ℤ → List ℤ → Cases
tier_cases e low [] = when (Compare comparison.AtLeast e (number_literal low)) (number_literal low) without_else
tier_cases e low (b ∷ bounds) =
    when (Compare comparison.Less e (number_literal (b *ℤ pos 10000))) (number_literal low) (tier_cases e (b *ℤ pos 10000) bounds)

-- a tier by its lower bound; the least number below the first bound (Looker, LookML reference: tiers)
abbrev pub tier_formula : Formula → List ℤ → Formula
tier_formula e bounds = Case (tier_cases e (neg_ℤ (pos (2 ^ 63))) bounds)

-- an expression by the shape of its field
abbrev pub shaped_formula : Shape → Kind → Formula → Formula
shaped_formula shape.Plain k e = plain_formula k e
shaped_formula (shape.Tier bounds) k e = tier_formula e bounds
shaped_formula (shape.Frame group frame) k e = Framed frame e

-- what is filtered of a field
abbrev pub field_formula : Field → Formula
field_formula f = shaped_formula f.shape f.kind f.expr
