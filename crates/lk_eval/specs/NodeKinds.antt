-- The kinds of an expression, node by node: what kinds a node may have, given those of its operands.
use Rattle.std.specs.Prelude.{ℕ, not, ◌&&◌, List, [], ◌∷◌, drop, slice_index_or}
use Rattle.std.specs.List.{list_all}
use Rattle.lk_types.specs.Kinds.{every_kind, shared, kinds_if, comparable, do_compare, is_empty, kinds_of_value, kind_at, kinds_of_column, kinds_framed, truth_if, number_if, text_if}
use Rattle.lk_types.specs.declared.expr.Node.{Node}
use Rattle.lk_types.specs.declared.expr.Node.TheVariants as node
use Rattle.lk_types.specs.declared.kind_set.KindSet.{KindSet}
use Rattle.lk_types.specs.declared.kind_set.Leaves.{Leaves}

-- the kinds of an operand by its place; where there is none it is null, which has every kind
abbrev pub operand : List KindSet → ℕ → KindSet
operand kinds i = slice_index_or kinds i every_kind

-- the kinds that all have
abbrev pub all_shared : List KindSet → KindSet
all_shared [] = every_kind
all_shared (s ∷ kinds) = shared s (all_shared kinds)

-- the kinds that all branches have, where the conditions may be truth values
abbrev pub branches_shared : List KindSet → KindSet
branches_shared [] = every_kind
branches_shared (s ∷ []) = s
branches_shared (c ∷ s ∷ kinds) = kinds_if c.truth (shared s (branches_shared kinds))

-- the kinds that a node may have
abbrev pub kinds_made : Leaves → Node → List KindSet → KindSet
kinds_made leaves (node.Column part column) ks = kinds_of_column (kind_at leaves part column)
kinds_made leaves (node.Literal v) ks = kinds_of_value v
kinds_made leaves (node.Framed f) ks = kinds_framed f (operand ks 0)
kinds_made leaves node.Not ks = truth_if (operand ks 0).truth
kinds_made leaves node.And ks = truth_if ((operand ks 0).truth && (operand ks 1).truth)
kinds_made leaves node.Or ks = truth_if ((operand ks 0).truth && (operand ks 1).truth)
kinds_made leaves (node.Compare c) ks = truth_if (do_compare (operand ks 0) (operand ks 1))
kinds_made leaves node.IsNull ks = truth_if (not (is_empty (operand ks 0)))
kinds_made leaves (node.In count) ks = truth_if (not (is_empty (operand ks 0)) && list_all (do_compare (operand ks 0)) (drop 1 ks))
kinds_made leaves node.Between ks = truth_if (do_compare (operand ks 0) (operand ks 1) && do_compare (operand ks 0) (operand ks 2))
kinds_made leaves (node.Like pieces) ks = truth_if (operand ks 0).text
kinds_made leaves (node.Number op) ks = number_if ((operand ks 0).number && (operand ks 1).number)
kinds_made leaves node.Negate ks = number_if (operand ks 0).number
kinds_made leaves node.Concat ks = text_if ((operand ks 0).text && (operand ks 1).text)
kinds_made leaves (node.Case count) ks = branches_shared ks
kinds_made leaves (node.Coalesce count) ks = all_shared ks
kinds_made leaves node.NullIf ks = shared (operand ks 0) (comparable (operand ks 1))
kinds_made leaves node.Lower ks = text_if (operand ks 0).text
kinds_made leaves node.Upper ks = text_if (operand ks 0).text
