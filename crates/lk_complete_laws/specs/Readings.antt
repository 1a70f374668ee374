-- What a text is read as, or where it is refused: all that the calls that read it promise. Want of memory is neither.
use Rattle.std.specs.Prelude.{◌≡◌, ℕ, List, Some, None, Result, Ok, Err}
use Rattle.lk_types.specs.declared.filter.Filter.{Filter}
use Rattle.lk_filter.specs.FilterTexts.{IsFaultPlace, IsFilterText}
use Rattle.lk_filter.specs.declared.reading.FilterKind.{FilterKind}
use Rattle.lk_filter.specs.declared.reading.FilterFault.{FilterFault}
use Rattle.lk_filter.specs.declared.reading.FilterFault.TheVariants as filter_fault
use Rattle.lk_expr_tree.specs.Calls.{unknown_call}
use Rattle.lk_expr_tree.specs.Grammar.{Tree}
use Rattle.lk_expr_tree.specs.RawCode.{tree_of}
use Rattle.lk_expr_tree.specs.declared.expr.RawExpr.{RawExpr}
use Rattle.lk_expr_place.specs.ExprTexts.{IsOfGrammar, IsTreeText}
use Rattle.lk_expr_place.specs.SyntaxPlaces.{IsSyntaxPlace}
use Rattle.lk_expr_place.specs.declared.judging.Grammar.{Grammar}
use Rattle.lk_expr_place.specs.declared.reading.ExprFault.{ExprFault}
use Rattle.lk_expr_place.specs.declared.reading.ExprFault.TheVariants as expr_fault

-- ---- filters

-- the text spells the filter and no other, or it spells none and its fault is at the place
abbrev pub IsFilterRead : FilterKind → List ℕ → Result Filter FilterFault → Type 0
IsFilterRead k text (Ok f) = IsFilterText k f text × ((g : Filter) → IsFilterText k g text → g ≡ f)
IsFilterRead k text (Err (filter_fault.Syntax place)) = ((f : Filter) → IsFilterText k f text → ⊥) × IsFaultPlace k text place
IsFilterRead k text (Err filter_fault.NoMemory) = ⊥

-- ---- expressions

-- the text spells the tree and no other
pub record IsOnlyTree (g : Grammar) (text : List ℕ) (e : Tree) : Type 0 where
  pub spelled : IsTreeText g e text
  pub only : (other : Tree) → IsTreeText g other text → other ≡ e

-- the text spells the expression and no other, and each of its calls is known; or it spells none, and its fault is at the place; or
-- it spells one whose first unknown call is there
abbrev pub IsExprRead : Grammar → List ℕ → Result RawExpr ExprFault → Type 0
IsExprRead g text (Ok e) = IsOnlyTree g text (tree_of e) × (unknown_call (tree_of e) ≡ None)
IsExprRead g text (Err (expr_fault.E1 place)) = (IsOfGrammar g text → ⊥) × IsSyntaxPlace (IsOfGrammar g) text place
IsExprRead g text (Err (expr_fault.E2 place)) = (e : Tree) × IsTreeText g e text × (unknown_call e ≡ Some place)
IsExprRead g text (Err expr_fault.NoMemory) = ⊥
