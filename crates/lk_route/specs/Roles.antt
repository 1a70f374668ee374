-- What an expression is beside the enforced key of a view: node by node, without looking into it twice.
use Rattle.std.specs.Prelude.{ℕ, ◌==◌, Bool, true, false, ◌&&◌, ◌||◌, List, slice_index_or}
use Rattle.std.specs.List.{list_all, list_any}
use Rattle.lk_types.specs.Formula.{Formula}
use Rattle.lk_types.specs.Expressions.{conjuncts, has_number}
use Rattle.lk_types.specs.declared.expr.Comparison.{Comparison}
use Rattle.lk_types.specs.declared.expr.Comparison.TheVariants as comparison
use Rattle.lk_types.specs.declared.expr.Node.{Node}
use Rattle.lk_types.specs.declared.expr.Node.TheVariants as node
use Rattle.lk_types.specs.declared.explore.Explore.{Explore}
use Rattle.lk_types.specs.declared.explore.Measure.{Measure}
use Rattle.lk_types.specs.declared.explore.Rollup.{Rollup}
use Rattle.lk_types.specs.declared.filter.Filter.{Filter}
use Rattle.lk_semantics.specs.Answers.{value_taken}
use Rattle.lk_semantics.specs.Joins.{mentions_of, part_at}
use Rattle.lk_semantics.specs.Rows.{field_at}
use Rattle.lk_semantics.specs.Rollups.{is_enforced_key, is_key_equation, is_number, mentions_only}
use Rattle.lk_route.specs.declared.role.Role.{Role}

-- the view is one of some
abbrev pub is_one_of : List ℕ → ℕ → Bool
is_one_of others p = has_number p others

-- what an expression is beside the enforced key of the view w, and some other views
abbrev pub role_of : Explore → List ℕ → ℕ → Formula → Role
role_of x others w e = record {
  is_key = is_enforced_key x w e;
  is_within = mentions_only (is_one_of others) e;
  finds = list_any (is_key_equation x (is_one_of others) w) (conjuncts e);
}

-- that of what mentions no view
abbrev pub no_role : Role
no_role = record { is_key = false; is_within = true; finds = false }

-- the role of an operand by its place; where there is none it is null
abbrev pub operand : List Role → ℕ → Role
operand roles i = slice_index_or roles i no_role

abbrev pub role_of_column : Explore → List ℕ → ℕ → ℕ → ℕ → Role
role_of_column x others w part column = record {
  is_key = (part == w) && is_number (part_at x w).enforced column;
  is_within = is_one_of others part;
  finds = false;
}

-- what two expressions mention together
abbrev pub both : Role → Role → Role
both a b = record { is_key = false; is_within = a.is_within && b.is_within; finds = false }

-- what one mentions
abbrev pub over : Role → Role
over a = record { is_key = false; is_within = a.is_within; finds = false }

-- what some mention together
abbrev pub all_over : List Role → Role
all_over roles = record { is_key = false; is_within = list_all (λ role. role.is_within) roles; finds = false }

-- the two sides of an equation, of which one is the key and the other mentions only the other views
abbrev pub does_find : Comparison → Role → Role → Bool
does_find comparison.Equal a b = (a.is_key && b.is_within) || (b.is_key && a.is_within)
does_find c a b = false

-- the role of a node, given those of its operands
abbrev pub role_made : Explore → List ℕ → ℕ → Node → List Role → Role
role_made x others w (node.Column part column) roles = role_of_column x others w part column
role_made x others w (node.Literal v) roles = no_role
role_made x others w node.And roles = record (both (operand roles 0) (operand roles 1)) { finds = (operand roles 0).finds || (operand roles 1).finds }
role_made x others w (node.Compare c) roles = record (both (operand roles 0) (operand roles 1)) { finds = does_find c (operand roles 0) (operand roles 1) }
role_made x others w node.Or roles = both (operand roles 0) (operand roles 1)
role_made x others w (node.Number op) roles = both (operand roles 0) (operand roles 1)
role_made x others w node.Concat roles = both (operand roles 0) (operand roles 1)
role_made x others w node.NullIf roles = both (operand roles 0) (operand roles 1)
role_made x others w node.Between roles = both (both (operand roles 0) (operand roles 1)) (operand roles 2)
role_made x others w (node.In count) roles = all_over roles
role_made x others w (node.Case count) roles = all_over roles
role_made x others w (node.Coalesce count) roles = all_over roles
role_made x others w (node.Framed f) roles = over (operand roles 0)
role_made x others w node.Not roles = over (operand roles 0)
role_made x others w node.IsNull roles = over (operand roles 0)
role_made x others w (node.Like pieces) roles = over (operand roles 0)
role_made x others w node.Negate roles = over (operand roles 0)
role_made x others w node.Lower roles = over (operand roles 0)
role_made x others w node.Upper roles = over (operand roles 0)

-- the expression of a field mentions only some views
abbrev pub is_field_within : Explore → List ℕ → ℕ → Bool
is_field_within x views f = mentions_only (is_one_of views) (field_at x f).expr

-- a filter is on such a field
abbrev pub is_filter_within : Explore → List ℕ → ℕ × Filter → Bool
is_filter_within x views f = is_field_within x views f.0

-- the dimensions of an aggregate table, and the value that a measure computes with and its filters, mention only some views
abbrev pub are_all_within : Explore → List ℕ → Rollup → Measure → Bool
are_all_within x views r m =
    list_all (is_field_within x views) r.dims && list_all (is_one_of views) (mentions_of (value_taken m)) && list_all (is_filter_within x views) m.filters
