-- The groups of a query, gathered from the rows of an aggregate table one by one.
use Rattle.std.specs.Prelude.{if◌then◌else◌, List, [], ◌∷◌, ◌++◌, map, filter, Option}
use Rattle.std.specs.Ordering.{match_ordering}
use Rattle.lk_val.specs.Sets.{set_of}
use Rattle.lk_val.specs.Values.{is_same_tuple, tuple_cmp}
use Rattle.lk_val.specs.declared.value.Value.{Value}
use Rattle.lk_types.specs.declared.bound.Bound.{Bound}
use Rattle.lk_types.specs.declared.explore.Explore.{Explore}
use Rattle.lk_types.specs.declared.explore.Rollup.{Rollup}
use Rattle.lk_semantics.specs.Answers.{components_of, dims_of, query_components}
use Rattle.lk_regroup_laws.specs.Regroup.{RollupRow, all_merged}
use Rattle.lk_regroup.specs.declared.component.Component.{Component}
use Rattle.lk_regroup.specs.declared.component.ComponentParts.{ComponentParts}
use Rattle.lk_regroup.specs.declared.asked.Regrouping.{Regrouping}
use Rattle.lk_regroup.specs.declared.source.FieldSource.{FieldSource}
use Rattle.lk_regroup.specs.ComponentParts.{component_of, first_parts, no_parts, part_from, with_parts}
use Rattle.lk_regroup.specs.FieldSources.{passes_each, source_of, sourced, value_from}

-- how the rows of an aggregate table are regrouped for a query
abbrev pub regrouping_of : Explore → Rollup → Bound → Regrouping
regrouping_of x r b = record {
  filters = map (sourced x r.dims) (b.access ++ b.rows);
  fields = map (source_of x r.dims) (dims_of b.picks);
  components = map (component_of x (components_of x r.measures)) (query_components x b);
}

-- ---- one row after the other

-- a group of the query with what it has of each component
abbrev pub Entry : Type 0
Entry = List Value × List ComponentParts

-- the entries of a map after one more row: its group gets `first` where it is new, and else more than it had
abbrev pub with_row : List ComponentParts → (List ComponentParts → List ComponentParts) → List Entry → List Value → List Entry
with_row first more [] group = (group, first) ∷ []
with_row first more (e ∷ es) group =
    match_ordering (tuple_cmp group e.0) ((group, first) ∷ e ∷ es) ((e.0, more e.1) ∷ es) (e ∷ with_row first more es group)

-- the group of the query in which a row lies
abbrev pub group_of : Regrouping → RollupRow → List Value
group_of how row = map (value_from row.0) how.fields

-- the entries after a row, which counts where it passes the filters
abbrev pub after_row : Regrouping → RollupRow → List Entry → List Entry
after_row how row entries =
    if passes_each how.filters row.0 then with_row (map (first_parts row.1) how.components) (map (with_parts row.1)) entries (group_of how row) else entries

-- without fields the one empty group, also where no row counts
abbrev pub or_empty_group : List (Option FieldSource) → List Component → List Entry → List Entry
or_empty_group [] components [] = ([], map no_parts components) ∷ []
or_empty_group fields components entries = entries

abbrev pub with_empty_group : Regrouping → List Entry → List Entry
with_empty_group how entries = or_empty_group how.fields how.components entries

-- ---- all rows

-- the rows that count
abbrev pub counted : Regrouping → List RollupRow → List RollupRow
counted how rows = filter (λ row. passes_each how.filters row.0) rows

-- what some rows have of a component together
abbrev pub component_over : List RollupRow → Component → ComponentParts
component_over rows c = record { component = c; parts = all_merged (map (λ row. part_from row.1 c.place) rows) }

-- those of some rows that lie in a group
abbrev pub rows_within : Regrouping → List RollupRow → List Value → List RollupRow
rows_within how rows group = filter (λ row. is_same_tuple (group_of how row) group) rows

-- what a group has of each component
abbrev pub parts_over : Regrouping → List RollupRow → List Value → List ComponentParts
parts_over how rows group = map (component_over (rows_within how rows group)) how.components

-- the different groups of some rows, ascending, each with what it has
abbrev pub gathered : Regrouping → List RollupRow → List Entry
gathered how rows = map (λ group. (group, parts_over how rows group)) (set_of tuple_cmp (map (group_of how) rows))
