-- Which texts are expressions, and what a fault of one says.
use Rattle.std.specs.Prelude.{ℕ, List, Result, Ok, Err}
use Rattle.lk_expr_tree.specs.Grammar.{Tree, IsExprText}
use Rattle.lk_expr_tree.specs.Calls.{IsMeasureText}
use Rattle.lk_expr_place.specs.declared.judging.Grammar.{Grammar}
use Rattle.lk_expr_place.specs.declared.judging.Grammar.TheVariants.{Expressions, Measures}
use Rattle.lk_expr_place.specs.declared.reading.ExprFault.{ExprFault}
use Rattle.lk_expr_place.specs.declared.reading.ExprFault.TheVariants.{E1, E2, NoMemory}

-- the text spells the tree, in the grammar of expressions or the smaller one of measures
abbrev pub IsTreeText : Grammar → Tree → List ℕ → Type 0
IsTreeText Expressions e text = IsExprText e text
IsTreeText Measures e text = IsMeasureText e text

-- the text is of the grammar
abbrev pub IsOfGrammar : Grammar → List ℕ → Type 0
IsOfGrammar g text = (e : Tree) × IsTreeText g e text

-- what holds of the place of a fault of syntax
abbrev pub IfSyntax : {T : Type 0} → Result T ExprFault → (ℕ → Type 0) → Type 0
IfSyntax (Ok value) P = Unit {0}
IfSyntax (Err (E1 place)) P = P place
IfSyntax (Err (E2 place)) P = Unit {0}
IfSyntax (Err NoMemory) P = Unit {0}

-- and of that of a call of no function
abbrev pub IfCall : {T : Type 0} → Result T ExprFault → (ℕ → Type 0) → Type 0
IfCall (Ok value) P = Unit {0}
IfCall (Err (E1 place)) P = Unit {0}
IfCall (Err (E2 place)) P = P place
IfCall (Err NoMemory) P = Unit {0}
