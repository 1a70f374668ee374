-- The resolved explore of a declared one. (Looker, LookML reference: explore, join, aggregate_table; lookd)
use Rattle.std.specs.Prelude.{ℕ, ◌+◌, ◌==◌, Bool, true, false, ◌&&◌, if◌then◌else◌, List, [], ◌∷◌, map, flat_map, take, Option, Some, None, slice_get}
use Rattle.std.specs.List.{count_by, enumerate_from, position}
use Rattle.std.specs.Option.{option_and_then, option_map}
use Rattle.lk_val.specs.Texts.{is_same_text}
use Rattle.lk_types.specs.Formula.{Formula, Column}
use Rattle.lk_types.specs.declared.expr.Comparison.TheVariants as comparison
use Rattle.lk_types.specs.declared.explore.Explore.{Explore}
use Rattle.lk_types.specs.declared.explore.Join.{Join}
use Rattle.lk_types.specs.declared.explore.JoinKind.{JoinKind}
use Rattle.lk_types.specs.declared.explore.JoinKind.TheVariants as join_kind
use Rattle.lk_types.specs.declared.explore.Origin.{Origin}
use Rattle.lk_types.specs.declared.explore.Origin.TheVariants as origin
use Rattle.lk_types.specs.declared.explore.Part.{Part}
use Rattle.lk_types.specs.declared.explore.Rollup.{Rollup}
use Rattle.lk_types.specs.declared.filter.Filter.{Filter}
use Rattle.lk_types.specs.declared.schema.Schema.{Schema}
use Rattle.lk_types.specs.declared.schema.TableDef.{TableDef}
use Rattle.lk_objects.specs.declared.code.Code.{Code}
use Rattle.lk_objects.specs.declared.code.Code.TheVariants as code
use Rattle.lk_objects.specs.declared.explore.AggregateTable.{AggregateTable}
use Rattle.lk_objects.specs.declared.explore.DeclaredExplore.{DeclaredExplore}
use Rattle.lk_objects.specs.declared.explore.DeclaredJoin.{DeclaredJoin}
use Rattle.lk_objects.specs.declared.explore.ExploreFilter.{ExploreFilter}
use Rattle.lk_objects.specs.declared.explore.ExploreFilter.TheVariants as explore_filter
use Rattle.lk_objects.specs.declared.view.DeclaredView.{DeclaredView}
use Rattle.lk_objects.specs.declared.view.Rows.{Rows}
use Rattle.lk_objects.specs.declared.view.Rows.TheVariants as rows
use Rattle.lk_dated.specs.Dated.{compare_sides, compared}
use Rattle.lk_fields.specs.declared.scope.Found.{Found}
use Rattle.lk_fields.specs.declared.scope.Place.{Place}
use Rattle.lk_fields.specs.declared.scope.Scope.{Scope}
use Rattle.lk_fields.specs.declared.scope.ScopePart.{ScopePart}
use Rattle.lk_fields.specs.declared.scope.Writer.TheVariants as writer
use Rattle.lk_formulas.specs.declared.columns.ColumnKinds.{ColumnKinds}
use Rattle.lk_formulas.specs.FormulaKinds.{kinds_in}
use Rattle.lk_formulas.specs.Formulas.{framed}
use Rattle.lk_scope.specs.ExploreNames.{dimension_named, full_name_of, measure_named}
use Rattle.lk_scope.specs.Keys.{key_of}
use Rattle.lk_resolved.specs.Fields.{all_measures, fields}
use Rattle.lk_resolved.specs.Filters.{dimension_numbers, filters_named, listed, numbers_of_dimensions}
use Rattle.lk_resolved.specs.Formulas.{code_formula, field_formula}
use Rattle.lk_resolved.specs.Names.{dimensions, measure_number, measures, or_zero}

-- ---- names of joins

-- the numbers of the joins of a name
abbrev pub joins_of_name : List DeclaredJoin → List ℕ → List ℕ
joins_of_name joins name = listed (position (λ join. is_same_text join.name name) joins)

abbrev pub joins_named : List DeclaredJoin → List (List ℕ) → List ℕ
joins_named joins names = flat_map (joins_of_name joins) names

-- the number of a datagroup's name, and 0 where there is none, which no project without a fault has
abbrev pub datagroup_number : List (List ℕ) → Option (List ℕ) → ℕ
datagroup_number datagroups None = 0
datagroup_number datagroups (Some name) = or_zero (position (λ datagroup. is_same_text datagroup name) datagroups)

-- ---- where the rows of a view come from

abbrev pub is_derived_rows : Rows → Bool
is_derived_rows (rows.Stored table) = false
is_derived_rows (rows.Derived derived) = true

abbrev pub is_derived : DeclaredView → Bool
is_derived view = is_derived_rows view.rows

-- the number of a derived table: how many stand before it
abbrev pub derived_number : List DeclaredView → ℕ → ℕ
derived_number views number = count_by is_derived (take number views)

abbrev pub origin_with : List DeclaredView → ℕ → Rows → Origin
origin_with views number (rows.Stored None) = origin.Stored 0
origin_with views number (rows.Stored (Some table)) = origin.Stored table
origin_with views number (rows.Derived derived) = origin.Derived (derived_number views number)

-- that of the view of a number; of none the first stored table, which no project without a fault has
abbrev pub origin_if : List DeclaredView → ℕ → Option DeclaredView → Origin
origin_if views number None = origin.Stored 0
origin_if views number (Some view) = origin_with views number view.rows

abbrev pub origin_of : List DeclaredView → Option ℕ → Origin
origin_of views None = origin.Stored 0
origin_of views (Some number) = origin_if views number (slice_get views number)

-- ---- the enforced key

abbrev pub key_of_table : Option TableDef → Option ℕ
key_of_table None = None
key_of_table (Some table) = table.key

-- the key column of the stored table
abbrev pub table_key_in : Schema → Rows → Option ℕ
table_key_in schema (rows.Stored None) = None
table_key_in schema (rows.Stored (Some table)) = key_of_table (slice_get schema.tables table)
table_key_in schema (rows.Derived derived) = None

abbrev pub table_key : Schema → Option DeclaredView → Option ℕ
table_key schema None = None
table_key schema (Some view) = table_key_in schema view.rows

abbrev pub key_if : Bool → ℕ → Option ℕ
key_if true key = Some key
key_if false key = None

-- the part and the column that an expression is, if it is a column
abbrev pub column_of : Formula → Option (ℕ × ℕ)
column_of (Column part column) = Some (part, column)
column_of e = None

abbrev pub column_in : Option Formula → Option (ℕ × ℕ)
column_in None = None
column_in (Some e) = column_of e

-- the key column of the part's table, where the primary key is that column
abbrev pub enforced_with : ℕ → Option (ℕ × ℕ) → Option ℕ → Option ℕ
enforced_with part (Some c) (Some key) = key_if ((c.0 == part) && (c.1 == key)) key
enforced_with part None key = None
enforced_with part (Some c) None = None

-- the code of the first `sql_always_where`; a project without a fault has no second one in an explore
abbrev pub first_where : List ExploreFilter → Option Code
first_where [] = None
first_where (explore_filter.Where c first ∷ filters) = Some c
first_where (explore_filter.Always always ∷ filters) = first_where filters
first_where (explore_filter.Access access ∷ filters) = first_where filters

-- a cross join has no condition
abbrev pub on_with : JoinKind → Option Formula → Option Formula
on_with join_kind.Cross on = None
on_with k on = on

-- ---- given all views

abbrev pub view_of_part : List DeclaredView → ScopePart → Option DeclaredView
view_of_part views part = option_and_then (slice_get views) part.view

module _ (views : List DeclaredView) (scope : Scope) where
  -- ---- filters

  abbrev pub always_in : ExploreFilter → List (ℕ × Filter)
  always_in (explore_filter.Always always) = filters_named views scope (dimensions views scope) always.filters
  always_in f = []

  abbrev pub access_with : Option (List ℕ) → Option (List ℕ) → List (ℕ × List ℕ)
  access_with (Some name) (Some attribute) = map (λ n. (n, attribute)) (dimension_numbers views scope (dimensions views scope) name)
  access_with name attribute = []

  abbrev pub access_in : ExploreFilter → List (ℕ × List ℕ)
  access_in (explore_filter.Access access) = access_with access.field access.attribute
  access_in f = []

  -- ---- aggregate tables, given the number of each datagroup

  abbrev pub measure_if : Option Found → List ℕ
  measure_if None = []
  measure_if (Some found) = measure_number (measures views scope) found.place ∷ []

  abbrev pub measure_numbers : List ℕ → List ℕ
  measure_numbers name = measure_if (measure_named views scope name)

  abbrev pub rollup_with : (Option (List ℕ) → ℕ) → AggregateTable → Rollup
  rollup_with datagroup rollup = record {
    name = rollup.name;
    dims = numbers_of_dimensions views scope (dimensions views scope) rollup.dimensions;
    measures = flat_map measure_numbers rollup.measures;
    filters = filters_named views scope (dimensions views scope) rollup.filters;
    datagroup = datagroup rollup.datagroup;
  }

module _ (schema : Schema) (views : List DeclaredView) (scope : Scope) (columns : ColumnKinds) where
  abbrev pub found_formula : Found → Formula
  found_formula found = framed found.frame (field_formula schema views scope columns found.place)

  -- ---- parts

  abbrev pub key_formula : ℕ → Option Formula
  key_formula part = option_map (field_formula schema views scope columns) (key_of views scope part)

  abbrev pub part_with : ℕ → ScopePart → Part
  part_with number part = record {
    name = part.name;
    origin = origin_of views part.view;
    key = key_formula number;
    enforced = enforced_with number (column_in (key_formula number)) (table_key schema (view_of_part views part));
  }

  abbrev pub parts_from : ℕ → List ScopePart → List Part
  parts_from number [] = []
  parts_from number (part ∷ parts) = part_with number part ∷ parts_from (number + 1) parts

  -- ---- joins

  -- the field that `foreign_key` names equals the joined view's primary key
  abbrev pub key_condition : Option Found → Option Place → Option Formula
  key_condition None key = None
  key_condition (Some found) None = None
  key_condition (Some found) (Some key) =
      Some (compare_sides comparison.Equal (compared (kinds_in columns) (found_formula found) (field_formula schema views scope columns key)))

  abbrev pub condition_by_key : ℕ → Option (List ℕ) → Option Formula
  condition_by_key part None = None
  condition_by_key part (Some name) = key_condition (dimension_named views scope name) (key_of views scope part)

  abbrev pub condition_with : ℕ → Option (List ℕ) → Code → Option Formula
  condition_with part key (code.Expr written) = Some (code_formula schema views scope columns writer.Explore (code.Expr written))
  condition_with part key c = condition_by_key part key

  -- the join that brings a part
  abbrev pub join_with : List DeclaredJoin → ℕ → DeclaredJoin → Join
  join_with joins part join = record {
    kind = join.kind;
    relation = join.relation;
    on = on_with join.kind (condition_with part join.foreign_key join.on);
    required = joins_named joins join.required;
  }

  abbrev pub joins_from : List DeclaredJoin → ℕ → List DeclaredJoin → List Join
  joins_from joins part [] = []
  joins_from joins part (join ∷ more) = join_with joins part join ∷ joins_from joins (part + 1) more

  abbrev pub where_with : Option Code → Option Formula
  where_with (Some (code.Expr written)) = Some (code_formula schema views scope columns writer.Explore (code.Expr written))
  where_with c = None

  -- ---- the explore

  abbrev pub explore_of : (Option (List ℕ) → ℕ) → DeclaredExplore → Explore
  explore_of datagroup x = record {
    name = x.name;
    parts = parts_from 0 scope.parts;
    joins = joins_from x.joins 1 x.joins;
    fields = fields schema views scope columns;
    measures = all_measures schema views scope columns;
    always_join = joins_named x.joins x.always_join;
    always = flat_map (always_in views scope) x.filters;
    always_where = where_with (first_where x.filters);
    access = flat_map (access_in views scope) x.filters;
    rollups = map (rollup_with views scope datagroup) x.rollups;
  }
