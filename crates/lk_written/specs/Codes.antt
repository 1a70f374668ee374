-- What the text of code is read as. (Looker, LookML reference: sql, sql_distinct_key, sql_on, sql_always_where; lookd)
use Rattle.std.specs.Prelude.{◌≡◌, ℕ, Bool, true, false, List, Option, Some, None}
use Rattle.lk_params.specs.Known.{holds_liquid}
use Rattle.lk_expr_tree.specs.Grammar.{Tree}
use Rattle.lk_expr_place.specs.declared.judging.Grammar.{Grammar}
use Rattle.lk_expr_place.specs.declared.judging.Grammar.TheVariants.{Expressions, Measures}
use Rattle.lk_expr_place.specs.ExprTexts.{IsOfGrammar, IsTreeText}
use Rattle.lk_expr_place.specs.SyntaxPlaces.{IsSyntaxPlace}
use Rattle.lk_objects.specs.declared.code.Code.{Code}
use Rattle.lk_objects.specs.declared.code.Code.TheVariants as code
use Rattle.lk_written.specs.Skeletons.{written_of}
use Rattle.lk_written.specs.Calculations.{written_number_of}

-- the text spells no tree, and the fault is there
abbrev pub IsSyntaxFault : Grammar → List ℕ → ℕ → Type 0
IsSyntaxFault g text place = (IsOfGrammar g text → ⊥) × IsSyntaxPlace (IsOfGrammar g) text place

-- a text without Liquid: the expression that it spells, as it is written, whose calls may be unknown, or the fault of its
-- syntax
abbrev pub IsReading : Grammar → List ℕ → Code → Type 0
IsReading Expressions text (code.Expr written) = (e : Tree) × IsTreeText Expressions e text × (written ≡ written_of e)
IsReading Measures text (code.Number written) = (e : Tree) × IsTreeText Measures e text × (written ≡ written_number_of e)
IsReading g text (code.Syntax place) = IsSyntaxFault g text place
IsReading g text c = ⊥

-- a text that holds Liquid is not read
abbrev pub IsLiquidOr : Bool → Grammar → List ℕ → Code → Type 0
IsLiquidOr true g text c = c ≡ code.Liquid
IsLiquidOr false g text c = IsReading g text c

-- the `sql` of a measure of type number is over measures, all other code over columns and fields
abbrev pub grammar_of : Bool → Grammar
grammar_of true = Measures
grammar_of false = Expressions

-- what the text of a parameter says, over measures or not; where it has none, the parameter is missing
abbrev pub IsCode : Bool → Option (List ℕ) → Code → Type 0
IsCode over_measures None c = c ≡ code.Absent
IsCode over_measures (Some text) c = IsLiquidOr (holds_liquid text) (grammar_of over_measures) text c
