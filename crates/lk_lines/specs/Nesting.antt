-- The calculations of `number`s put into each other, so that one that is left is over components alone.
use Rattle.std.specs.Prelude.{ℕ, zero, suc, Option, Some, None, Bool, is_some}
use Rattle.lk_types.specs.Calculation.{Calculation, OfMeasure, Number, Apply, Negate, Coalesce, NullIf, Calculations, no_more, more}
use Rattle.lk_types.specs.declared.explore.Explore.{Explore}
use Rattle.lk_types.specs.declared.number.NumNode.{NumNode}
use Rattle.lk_types.specs.declared.number.NumNode.TheVariants as node
use Rattle.lk_semantics.specs.Answers.{measure_at}

-- the calculation of a `number`, and of any other measure the measure itself
abbrev pub or_itself : ℕ → Option Calculation → Calculation
or_itself m None = OfMeasure m
or_itself m (Some e) = e

abbrev mutual
  -- a calculation with that of each `number` in place of the `number`
  pub put_in : Explore → Calculation → Calculation
  put_in x (OfMeasure m) = or_itself m (measure_at x m).number
  put_in x (Number n) = Number n
  put_in x (Apply op a b) = Apply op (put_in x a) (put_in x b)
  put_in x (Negate a) = Negate (put_in x a)
  put_in x (Coalesce xs) = Coalesce (put_in_all x xs)
  put_in x (NullIf a b) = NullIf (put_in x a) (put_in x b)

  pub put_in_all : Explore → Calculations → Calculations
  put_in_all x no_more = no_more
  put_in_all x (more a xs) = more (put_in x a) (put_in_all x xs)

-- the same so many times
abbrev pub put_in_times : Explore → ℕ → Calculation → Calculation
put_in_times x zero e = e
put_in_times x (suc n) e = put_in_times x n (put_in x e)

-- the calculation of the `number` that a node is, if it is one
abbrev pub number_at : Explore → NumNode → Option Calculation
number_at x (node.Measure m) = (measure_at x m).number
number_at x other = None

-- the node is a `number`
abbrev pub is_number : Explore → NumNode → Bool
is_number x n = is_some (number_at x n)
