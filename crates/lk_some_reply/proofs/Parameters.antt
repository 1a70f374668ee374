-- The text of code says something, and so do those of filters, given that each text is read or refused.
use Rattle.std.proofs.Common.{◌≡◌, ℕ, Bool, true, false, List, [], ◌∷◌, Option, Some, None, Result, Ok, Err, refl}
use Rattle.lk_types.specs.declared.filter.Filter.{Filter}
use Rattle.lk_filter.specs.declared.reading.FilterFault.{FilterFault}
use Rattle.lk_filter.specs.declared.reading.FilterFault.TheVariants as filter_fault
use Rattle.lk_filter.specs.declared.reading.FilterKind.{FilterKind}
use Rattle.lk_filter.specs.declared.reading.FilterKind.TheVariants as kind
use Rattle.lk_expr_tree.specs.Grammar.{Tree}
use Rattle.lk_expr_tree.specs.RawCode.{tree_of}
use Rattle.lk_expr_tree.specs.declared.expr.RawExpr.{RawExpr}
use Rattle.lk_expr_place.specs.ExprTexts.{IsTreeText}
use Rattle.lk_expr_place.specs.declared.judging.Grammar.{Grammar}
use Rattle.lk_expr_place.specs.declared.judging.Grammar.TheVariants.{Expressions, Measures}
use Rattle.lk_expr_place.specs.declared.reading.ExprFault.{ExprFault}
use Rattle.lk_expr_place.specs.declared.reading.ExprFault.TheVariants as expr_fault
use Rattle.lk_params.specs.Known.{holds_liquid}
use Rattle.lk_objects.specs.declared.code.Written.{Written}
use Rattle.lk_objects.specs.declared.code.WrittenNumber.{WrittenNumber}
use Rattle.lk_objects.specs.declared.code.Code.TheVariants as code
use Rattle.lk_objects.specs.declared.filter_text.ReadFilter.TheVariants as read
use Rattle.lk_written.specs.Calculations.{written_number_of}
use Rattle.lk_written.specs.Codes.{IsCode, IsLiquidOr, IsReading, IsSyntaxFault, grammar_of}
use Rattle.lk_written.specs.ReadFilters.{AreFilters, IsFilterText, IsReadAs}
use Rattle.lk_written.specs.Skeletons.{written_of}
use Rattle.lk_complete_laws.specs.Holding.{HoldsOfSome}
use Rattle.lk_complete_laws.specs.Readings.{IsExprRead, IsFilterRead}
use Rattle.lk_complete_laws.proofs.NotNot.{of_both, of_these, of_this}

-- each text is read or refused
abbrev pub ReadFilters : Type 0
ReadFilters = (k : FilterKind) (text : List ℕ) → HoldsOfSome (IsFilterRead k text)

abbrev pub ReadExprs : Type 0
ReadExprs = (g : Grammar) (text : List ℕ) → HoldsOfSome (IsExprRead g text)

-- each code says something, and so does each list of filters
abbrev pub SomeCode : Type 0
SomeCode = (over_measures : Bool) (text : Option (List ℕ)) → HoldsOfSome (IsCode over_measures text)

abbrev pub SomeFilters : Type 0
SomeFilters = (pairs : List (List ℕ × List ℕ)) → HoldsOfSome (AreFilters pairs)

-- what holds of something whatever stands for a value, holds of something
as_variable : {A B : Type 0} {Holds : B → Type 0} (a : A) → ((x : A) → x ≡ a → HoldsOfSome Holds) → HoldsOfSome Holds
as_variable a f = f a refl

-- ---- filters

module _ (filter_read : ReadFilters) where
  as_read : (k : FilterKind) (text : List ℕ) (r : Result Filter FilterFault) → IsFilterRead k text r → HoldsOfSome (IsReadAs k text)
  as_read k text (Ok f) is = of_this {Holds = IsReadAs k text} (read.Read f) is.0
  as_read k text (Err (filter_fault.Syntax place)) is = of_this {Holds = IsReadAs k text} (read.Syntax place) is
  as_read k text (Err filter_fault.NoMemory) is = absurd is

  read_as : (k : FilterKind) (text : List ℕ) → HoldsOfSome (IsReadAs k text)
  read_as k text = of_these {Holds = IsFilterRead k text} {Fits = IsReadAs k text} (filter_read k text) (as_read k text)

  one_filter : (pair : List ℕ × List ℕ) → HoldsOfSome (IsFilterText pair)
  one_filter pair =
      of_these {Holds = IsReadAs kind.Text pair.1} {Fits = IsFilterText pair} (read_as kind.Text pair.1) (λ text as_text.
      of_these {Holds = IsReadAs kind.Number pair.1} {Fits = IsFilterText pair} (read_as kind.Number pair.1) (λ number as_number.
      of_these {Holds = IsReadAs kind.Date pair.1} {Fits = IsFilterText pair} (read_as kind.Date pair.1) (λ date as_date.
      of_these {Holds = IsReadAs kind.Truth pair.1} {Fits = IsFilterText pair} (read_as kind.Truth pair.1) (λ truth as_truth.
      of_this {Holds = IsFilterText pair}
      (record { name = pair.0; text = pair.1; as_text = text; as_number = number; as_date = date; as_truth = truth })
      (record { name_is = refl; text_is = refl; text_read = as_text; number_read = as_number; date_read = as_date; truth_read = as_truth })))))

  pub some_filters : SomeFilters
  some_filters [] = of_this {Holds = AreFilters []} [] tt
  some_filters (pair ∷ pairs) = of_both {One = IsFilterText pair} {Other = AreFilters pairs} {Both = AreFilters (pair ∷ pairs)} (one_filter pair) (some_filters pairs) (λ f fs. f ∷ fs) (λ f fs is are. (is, are))

-- ---- codes

module _ (expr_read : ReadExprs) where
  -- the code of a tree as it is written
  expr_code : (text : List ℕ) (e : Tree) (written : Written) → IsTreeText Expressions e text → written ≡ written_of e → HoldsOfSome (IsReading Expressions text)
  expr_code text e written spelled is = of_this {Holds = IsReading Expressions text} (code.Expr written) (e, spelled, is)

  number_code : (text : List ℕ) (e : Tree) (written : WrittenNumber) → IsTreeText Measures e text → written ≡ written_number_of e → HoldsOfSome (IsReading Measures text)
  number_code text e written spelled is = of_this {Holds = IsReading Measures text} (code.Number written) (e, spelled, is)

  tree_code : (g : Grammar) (text : List ℕ) (e : Tree) → IsTreeText g e text → HoldsOfSome (IsReading g text)
  tree_code Expressions text e spelled = as_variable {Holds = IsReading Expressions text} (written_of e) (λ written is. expr_code text e written spelled is)
  tree_code Measures text e spelled = as_variable {Holds = IsReading Measures text} (written_number_of e) (λ written is. number_code text e written spelled is)

  syntax_code : (g : Grammar) (text : List ℕ) (place : ℕ) → IsSyntaxFault g text place → HoldsOfSome (IsReading g text)
  syntax_code Expressions text place is = of_this {Holds = IsReading Expressions text} (code.Syntax place) is
  syntax_code Measures text place is = of_this {Holds = IsReading Measures text} (code.Syntax place) is

  as_code : (g : Grammar) (text : List ℕ) (r : Result RawExpr ExprFault) → IsExprRead g text r → HoldsOfSome (IsReading g text)
  as_code g text (Ok e) is = tree_code g text (tree_of e) is.0.spelled
  as_code g text (Err (expr_fault.E1 place)) is = syntax_code g text place is
  as_code g text (Err (expr_fault.E2 place)) is = tree_code g text is.0 is.1
  as_code g text (Err expr_fault.NoMemory) is = absurd is

  or_liquid : (liquid : Bool) (g : Grammar) (text : List ℕ) → HoldsOfSome (IsLiquidOr liquid g text)
  or_liquid true g text = of_this {Holds = IsLiquidOr true g text} code.Liquid refl
  or_liquid false g text = of_these {Holds = IsExprRead g text} {Fits = IsReading g text} (expr_read g text) (as_code g text)

  pub some_code : SomeCode
  some_code over_measures None = of_this {Holds = IsCode over_measures None} code.Absent refl
  some_code over_measures (Some text) = or_liquid (holds_liquid text) (grammar_of over_measures) text
