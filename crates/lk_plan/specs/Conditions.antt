-- Which rows a query sees and counts, as conditions over the columns of a joined row.
use Rattle.std.specs.Prelude.{ℕ, Bool, List, ◌++◌, flat_map, Option}
use Rattle.std.specs.List.{list_all}
use Rattle.lk_types.specs.Formula.{Formula}
use Rattle.lk_types.specs.declared.bound.Bound.{Bound}
use Rattle.lk_types.specs.declared.explore.Explore.{Explore}
use Rattle.lk_types.specs.declared.filter.Filter.{Filter}
use Rattle.lk_semantics.specs.Rows.{field_at}
use Rattle.lk_semantics.specs.Resolved.{has_tiers}
use Rattle.lk_plan.specs.Joining.{all_of, listed}
use Rattle.lk_plan.specs.FieldFormulas.{field_formula}
use Rattle.lk_plan.specs.FilterConditions.{filter_condition}

-- the condition of a filter on a field, if it has one
abbrev pub condition_on : Explore → ℕ × Filter → Option Formula
condition_on x f = filter_condition (field_at x f.0).kind (field_formula (field_at x f.0)) f.1

-- the conditions of some filters, in their order
abbrev pub filter_conditions : Explore → List (ℕ × Filter) → List Formula
filter_conditions x filters = flat_map (λ f. listed (condition_on x f)) filters

-- the access filters in declared order
abbrev pub visible_conditions : Explore → Bound → List Formula
visible_conditions x b = filter_conditions x b.access

-- `sql_always_where`, and then the filters on dimensions in their order
abbrev pub passing_conditions : Explore → Bound → List Formula
passing_conditions x b = listed x.always_where ++ filter_conditions x b.rows

abbrev pub visible_condition : Explore → Bound → Formula
visible_condition x b = all_of (visible_conditions x b)

abbrev pub passing_condition : Explore → Bound → Formula
passing_condition x b = all_of (passing_conditions x b)

-- the tiers of all fields are such as a resolved model has
abbrev pub have_tiers : Explore → Bool
have_tiers x = list_all (λ f. has_tiers f.shape) x.fields
