-- The expression of a measure of type number with numbers in place of its names: each name, counted from the left, is
-- the measure of that number. (Looker, LookML reference: measure types, number; lookd)
use Rattle.std.specs.Prelude.{ℕ, ◌+◌, List, [], ◌∷◌, ◌++◌, Option, Some, None, Result, Ok, Err}
use Rattle.lk_val.specs.Numbers.{num_of}
use Rattle.lk_val.specs.declared.num.Num.{Num}
use Rattle.lk_val.specs.declared.num.NumFault.{NumFault}
use Rattle.lk_types.specs.Calculation as calculation
use Rattle.lk_types.specs.Calculation.{Calculation}
use Rattle.lk_types.specs.CalculationNodes.{calculations_of}
use Rattle.lk_types.specs.declared.expr.Arithmetic.TheVariants as arithmetic
use Rattle.lk_expr_token.specs.declared.functions.Function.{Function}
use Rattle.lk_expr_token.specs.declared.functions.Function.TheVariants as function
use Rattle.lk_expr_token.specs.Functions.{function_of}
use Rattle.lk_expr_tree.specs.declared.raw.Joint.{Joint}
use Rattle.lk_expr_tree.specs.declared.raw.Joint.TheVariants as joint
use Rattle.lk_expr_tree.specs.Calls.{unknown_call}
use Rattle.lk_expr_tree.specs.Grammar.{Tree, Number, Field, FieldOf, Group, Call, Negate, Chain, Args, one, more}
use Rattle.lk_objects.specs.declared.code.WrittenNumber.{WrittenNumber}
use Rattle.lk_written.specs.References.{references_of, count, count_in}

-- null, which stands for what a measure of type number has not
abbrev pub nothing : Calculation
nothing = calculation.Coalesce calculation.no_more

-- the number of a text; a tree that a text spells has no other
abbrev pub number_of : Result Num NumFault → Calculation
number_of (Ok n) = calculation.Number n
number_of (Err e) = nothing

abbrev pub joined : Joint → Calculation → Calculation → Calculation
joined joint.Plus a b = calculation.Apply arithmetic.Plus a b
joined joint.Minus a b = calculation.Apply arithmetic.Minus a b
joined joint.Times a b = calculation.Apply arithmetic.Times a b
joined joint.Over a b = calculation.Apply arithmetic.Over a b
joined j a b = nothing

-- a function of its arguments. A call with a wrong number of them stands as COALESCE of all, which has as many nodes; a
-- measure has no call of another function
abbrev pub called : Option Function → List Calculation → Calculation
called None args = calculation.Coalesce (calculations_of args)
called (Some function.Coalesce) args = calculation.Coalesce (calculations_of args)
called (Some function.NullIf) (a ∷ b ∷ []) = calculation.NullIf a b
called f args = calculation.Coalesce (calculations_of args)

abbrev mutual
  -- the expression of a tree, whose first name has this number; brackets leave no trace
  pub measure_skeleton : ℕ → Tree → Calculation
  measure_skeleton n (Number text) = number_of (num_of text)
  measure_skeleton n (Field name) = calculation.OfMeasure n
  measure_skeleton n (FieldOf view name) = calculation.OfMeasure n
  measure_skeleton n (Group a) = measure_skeleton n a
  measure_skeleton n (Call name place args) = called (function_of name) (measure_skeletons n args)
  measure_skeleton n (Negate a) = calculation.Negate (measure_skeleton n a)
  measure_skeleton n (Chain j a b) = joined j (measure_skeleton n a) (measure_skeleton (n + count a) b)
  measure_skeleton n a = nothing

  -- the arguments, in order
  pub measure_skeletons : ℕ → Args → List Calculation
  measure_skeletons n (one a) = measure_skeleton n a ∷ []
  measure_skeletons n (more args a) = measure_skeletons n args ++ measure_skeleton (n + count_in args) a ∷ []

-- an expression as it is written: its names, the tree over their numbers, and where its first unknown call stands
abbrev pub written_number_of : Tree → WrittenNumber
written_number_of a = record { references = references_of a; expr = measure_skeleton 0 a; unknown_call = unknown_call a }
