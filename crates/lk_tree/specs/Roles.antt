-- What an expression is, where the views that a key determines are looked for: node by node, without looking into it twice.
use Rattle.std.specs.Prelude.{ℕ, ◌==◌, Bool, true, false, ◌&&◌, ◌||◌, List, [], ◌∷◌, slice_index_or}
use Rattle.std.specs.List.{list_all, list_any}
use Rattle.lk_types.specs.Formula.{Formula}
use Rattle.lk_types.specs.Expressions.{conjuncts}
use Rattle.lk_types.specs.declared.expr.Comparison.{Comparison}
use Rattle.lk_types.specs.declared.expr.Comparison.TheVariants as comparison
use Rattle.lk_types.specs.declared.expr.Node.{Node}
use Rattle.lk_types.specs.declared.expr.Node.TheVariants as node
use Rattle.lk_types.specs.declared.explore.Explore.{Explore}
use Rattle.lk_semantics.specs.Joins.{part_at}
use Rattle.lk_semantics.specs.Rollups.{is_enforced_key, is_key_equation, is_number, mentions_only}
use Rattle.lk_tree.specs.declared.role.Role.{Role}

-- the view is one of those that are marked
abbrev pub is_marked : List Bool → ℕ → Bool
is_marked marks p = slice_index_or marks p false

-- the view is w, or is marked
abbrev pub is_or_marked : List Bool → ℕ → ℕ → Bool
is_or_marked marks w p = (p == w) || is_marked marks p

-- what an expression is, beside a view w and others that are marked
abbrev pub role_of : Explore → List Bool → ℕ → Formula → Role
role_of x marks w e = record {
  is_key = is_enforced_key x w e;
  is_marked = mentions_only (is_marked marks) e;
  is_near = mentions_only (is_or_marked marks w) e;
  finds = list_any (is_key_equation x (is_marked marks) w) (conjuncts e);
}

-- that of what mentions no view
abbrev pub no_role : Role
no_role = record { is_key = false; is_marked = true; is_near = true; finds = false }

-- the role of an operand by its place; where there is none it is null
abbrev pub operand : List Role → ℕ → Role
operand roles i = slice_index_or roles i no_role

abbrev pub role_of_column : Explore → List Bool → ℕ → ℕ → ℕ → Role
role_of_column x marks w part column = record {
  is_key = (part == w) && is_number (part_at x w).enforced column;
  is_marked = is_marked marks part;
  is_near = is_or_marked marks w part;
  finds = false;
}

-- what two expressions mention together
abbrev pub both : Role → Role → Role
both a b = record { is_key = false; is_marked = a.is_marked && b.is_marked; is_near = a.is_near && b.is_near; finds = false }

-- what one mentions
abbrev pub over : Role → Role
over a = record a { is_key = false; finds = false }

-- what some mention together
abbrev pub all_over : List Role → Role
all_over roles = record { is_key = false; is_marked = list_all (λ r. r.is_marked) roles; is_near = list_all (λ r. r.is_near) roles; finds = false }

-- the two sides of an equation, of which one is the key and the other mentions only marked views
abbrev pub does_find : Comparison → Role → Role → Bool
does_find comparison.Equal a b = (a.is_key && b.is_marked) || (b.is_key && a.is_marked)
does_find c a b = false

-- the role of a node, given those of its operands
abbrev pub role_made : Explore → List Bool → ℕ → Node → List Role → Role
role_made x marks w (node.Column part column) roles = role_of_column x marks w part column
role_made x marks w (node.Literal v) roles = no_role
role_made x marks w node.And roles = record (both (operand roles 0) (operand roles 1)) { finds = (operand roles 0).finds || (operand roles 1).finds }
role_made x marks w (node.Compare c) roles = record (both (operand roles 0) (operand roles 1)) { finds = does_find c (operand roles 0) (operand roles 1) }
role_made x marks w node.Or roles = both (operand roles 0) (operand roles 1)
role_made x marks w (node.Number op) roles = both (operand roles 0) (operand roles 1)
role_made x marks w node.Concat roles = both (operand roles 0) (operand roles 1)
role_made x marks w node.NullIf roles = both (operand roles 0) (operand roles 1)
role_made x marks w node.Between roles = both (both (operand roles 0) (operand roles 1)) (operand roles 2)
role_made x marks w (node.In count) roles = all_over roles
role_made x marks w (node.Case count) roles = all_over roles
role_made x marks w (node.Coalesce count) roles = all_over roles
role_made x marks w (node.Framed f) roles = over (operand roles 0)
role_made x marks w node.Not roles = over (operand roles 0)
role_made x marks w node.IsNull roles = over (operand roles 0)
role_made x marks w (node.Like pieces) roles = over (operand roles 0)
role_made x marks w node.Negate roles = over (operand roles 0)
role_made x marks w node.Lower roles = over (operand roles 0)
role_made x marks w node.Upper roles = over (operand roles 0)
