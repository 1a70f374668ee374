-- How an expression with others in place of its columns is found, and how nodes are counted: node by node of its list.
use Rattle.std.specs.Prelude.{◌≡◌, ℕ, nat_eq, Bool, false, List, [], ◌∷◌, ◌++◌, length, if◌then◌else◌, slice_index_or}
use Rattle.lk_postfix.specs.Postfix.{Builds}
use Rattle.lk_types.specs.Formula.{Formula}
use Rattle.lk_types.specs.FormulaNodes.{arity, made}
use Rattle.lk_types.specs.declared.expr.Node.{Node}
use Rattle.lk_types.specs.declared.expr.Node.TheVariants as node

-- what a node and its operands make, with what stands for its number in place of a column
abbrev pub made_with : (ℕ → Formula) → Node → List Formula → Formula
made_with s (node.Column part column) xs = s column
made_with s n xs = made n xs

-- the first nodes with more behind them: where they built the node's operands, all build what the node makes of them
abbrev pub IsAddedWith : (ℕ → Formula) → Node → List Node → List Node → Type 0
IsAddedWith s n before after =
    (low xs : List Formula) → length xs ≡ arity n → Builds arity made before (low ++ xs) → Builds arity made after (low ++ made_with s n xs ∷ [])

-- a search in a list without operands, whose tree searches for null
abbrev pub is_bare_list : Node → Bool
is_bare_list (node.In count) = nat_eq count 0
is_bare_list n = false

-- what a node adds to the number of nodes, given how many stand for the column of each number
abbrev pub count_with : List ℕ → Node → ℕ
count_with counts (node.Column part column) = slice_index_or counts column 1
count_with counts (node.In count) = if nat_eq count 0 then 2 else 1
count_with counts n = 1
