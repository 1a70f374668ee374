-- An expression with numbers in place of its names: each name, counted from the left, is the column of that number.
-- (Looker, LookML reference: sql; lookd)
use Rattle.std.specs.Prelude.{ℕ, ◌+◌, Bool, true, false, List, [], ◌∷◌, ◌++◌, Option, Some, None, Result, Ok, Err}
use Rattle.lk_val.specs.Numbers.{num_of}
use Rattle.lk_val.specs.declared.num.Num.{Num}
use Rattle.lk_val.specs.declared.num.NumFault.{NumFault}
use Rattle.lk_val.specs.declared.value.Value.{Value}
use Rattle.lk_val.specs.declared.value.Value.TheVariants as value
use Rattle.lk_types.specs.Formula as formula
use Rattle.lk_types.specs.Formula.{Formula}
use Rattle.lk_types.specs.FormulaNodes.{cases_of, formulas_of}
use Rattle.lk_types.specs.declared.expr.Arithmetic.TheVariants as arithmetic
use Rattle.lk_eval.specs.Patterns.{pattern_of}
use Rattle.lk_expr_token.specs.declared.functions.Function.{Function}
use Rattle.lk_expr_token.specs.declared.functions.Function.TheVariants as function
use Rattle.lk_expr_token.specs.Functions.{function_of}
use Rattle.lk_expr_tree.specs.declared.raw.Joint.{Joint}
use Rattle.lk_expr_tree.specs.declared.raw.Joint.TheVariants as joint
use Rattle.lk_expr_tree.specs.Calls.{unknown_call}
use Rattle.lk_expr_tree.specs.Grammar.{Tree, Number, Text, Name, Column, Field, FieldOf, Truth, Null, Group, Call, Case, CaseElse, Negate, Chain, Compare, IsNull, In, Between, Like, Not, Args, one, more, Branches, when, then_when}
use Rattle.lk_objects.specs.declared.code.Written.{Written}
use Rattle.lk_written.specs.References.{references_of, count, count_in, count_among}

-- the number of a text; a tree that a text spells has no other
abbrev pub number_value : Result Num NumFault → Value
number_value (Ok n) = value.Num n
number_value (Err e) = value.Null

-- the test, or its opposite where NOT stands in it
abbrev pub unless : Bool → Formula → Formula
unless true a = formula.Not a
unless false a = a

abbrev pub joined : Joint → Formula → Formula → Formula
joined joint.Or a b = formula.Or a b
joined joint.And a b = formula.And a b
joined joint.Plus a b = formula.Number arithmetic.Plus a b
joined joint.Minus a b = formula.Number arithmetic.Minus a b
joined joint.Concat a b = formula.Concat a b
joined joint.Times a b = formula.Number arithmetic.Times a b
joined joint.Over a b = formula.Number arithmetic.Over a b

-- a function of its arguments. A call of no known function, or with a wrong number of arguments, stands as COALESCE of all
-- of them: so it has as many nodes as any call, and its arguments stay in the tree
abbrev pub called : Option Function → List Formula → Formula
called None args = formula.Coalesce (formulas_of args)
called (Some function.Coalesce) args = formula.Coalesce (formulas_of args)
called (Some function.NullIf) (a ∷ b ∷ []) = formula.NullIf a b
called (Some function.Lower) (a ∷ []) = formula.Lower a
called (Some function.Upper) (a ∷ []) = formula.Upper a
called f args = formula.Coalesce (formulas_of args)

abbrev mutual
  -- the expression of a tree, whose first name has this number; brackets leave no trace
  pub skeleton : ℕ → Tree → Formula
  skeleton n (Number text) = formula.Literal (number_value (num_of text))
  skeleton n (Text text) = formula.Literal (value.Text text)
  skeleton n (Column name) = formula.Column 0 n
  skeleton n (Name name place) = formula.Column 0 n
  skeleton n (Field name) = formula.Column 0 n
  skeleton n (FieldOf view name) = formula.Column 0 n
  skeleton n (Truth b) = formula.Literal (value.Truth b)
  skeleton n Null = formula.Literal value.Null
  skeleton n (Group a) = skeleton n a
  skeleton n (Call name place args) = called (function_of name) (skeletons n args)
  skeleton n (Case branches) = formula.Case (cases_of (branch_skeletons n branches))
  skeleton n (CaseElse branches a) =
      formula.Case (cases_of (branch_skeletons n branches ++ skeleton (n + count_among branches) a ∷ []))
  skeleton n (Negate a) = formula.Negate (skeleton n a)
  skeleton n (Chain j a b) = joined j (skeleton n a) (skeleton (n + count a) b)
  skeleton n (Compare c a b) = formula.Compare c (skeleton n a) (skeleton (n + count a) b)
  skeleton n (IsNull negated a) = unless negated (formula.IsNull (skeleton n a))
  skeleton n (In negated a args) = unless negated (formula.In (skeleton n a) (formulas_of (skeletons (n + count a) args)))
  skeleton n (Between negated a low high) =
      unless negated (formula.Between (skeleton n a) (skeleton (n + count a) low) (skeleton (n + count a + count low) high))
  skeleton n (Like negated a pattern) = unless negated (formula.Like (skeleton n a) (pattern_of pattern))
  skeleton n (Not a) = formula.Not (skeleton n a)

  -- the arguments, in order
  pub skeletons : ℕ → Args → List Formula
  skeletons n (one a) = skeleton n a ∷ []
  skeletons n (more args a) = skeletons n args ++ skeleton (n + count_in args) a ∷ []

  -- a condition and a value for each branch, in order
  pub branch_skeletons : ℕ → Branches → List Formula
  branch_skeletons n (when c a) = skeleton n c ∷ skeleton (n + count c) a ∷ []
  branch_skeletons n (then_when branches c a) =
      branch_skeletons n branches
      ++ skeleton (n + count_among branches) c ∷ skeleton (n + count_among branches + count c) a ∷ []

-- an expression as it is written: its names, the tree over their numbers, and where its first unknown call stands
abbrev pub written_of : Tree → Written
written_of a = record { references = references_of a; expr = skeleton 0 a; unknown_call = unknown_call a }
