-- Whether what a measure computes with is determined by the enforced key of its view.
use Rattle.std.specs.Prelude.{ℕ, Bool, true, ◌&&◌, List, ◌++◌, flat_map}
use Rattle.std.specs.List.{list_all}
use Rattle.lk_types.specs.Expressions.{has_number}
use Rattle.lk_types.specs.declared.explore.Explore.{Explore}
use Rattle.lk_types.specs.declared.explore.Measure.{Measure}
use Rattle.lk_types.specs.declared.expr.Node.{Node}
use Rattle.lk_types.specs.declared.expr.Node.TheVariants as node
use Rattle.lk_types.specs.declared.filter.Filter.{Filter}
use Rattle.lk_semantics.specs.Answers.{filtered, value_taken}
use Rattle.lk_semantics.specs.Derived.{field_parts}
use Rattle.lk_semantics.specs.Joins.{mentions_of, part_at}
use Rattle.lk_semantics.specs.Rollups.{determined_views, is_some_number}

-- the view has an enforced key, and it determines all that the measure's value and filters mention
abbrev pub is_value_determined : Explore → List ℕ → Measure → Bool
is_value_determined x joins m =
    is_some_number (part_at x m.part).enforced
    && list_all (λ p. has_number p (determined_views x joins m.part)) (mentions_of (value_taken m) ++ flat_map (field_parts x) (filtered m.filters))

-- a column is of one of some views
abbrev pub is_node_within : List ℕ → Node → Bool
is_node_within views (node.Column part column) = has_number part views
is_node_within views n = true

-- the fields of some filters mention only some views
abbrev pub are_filters_within : Explore → List ℕ → List (ℕ × Filter) → Bool
are_filters_within x views filters = list_all (λ f. list_all (λ p. has_number p views) (field_parts x f.0)) filters
