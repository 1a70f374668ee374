-- Small models and their first faults.
use Rattle.std.proofs.Common.{◌≡◌, ℕ, true, false, List, [], ◌∷◌, Option, Some, None, refl}
use Rattle.std.specs.Prelude.{codes}
use Rattle.lk_val.specs.declared.fault.FaultLine.{FaultLine}
use Rattle.lk_types.specs.Calculation.{Apply, OfMeasure}
use Rattle.lk_types.specs.Formula.{Column, Concat, IsNull}
use Rattle.lk_types.specs.declared.expr.Arithmetic.TheVariants as arithmetic
use Rattle.lk_types.specs.declared.explore.Op.TheVariants as op
use Rattle.lk_types.specs.declared.schema.Kind.TheVariants as kind
use Rattle.lk_types.specs.declared.schema.Schema.{Schema}
use Rattle.lk_types.specs.declared.schema.Frame.TheVariants as frame
use Rattle.lk_types.specs.declared.explore.JoinKind.TheVariants as join_kind
use Rattle.lk_types.specs.declared.explore.Relation.TheVariants as relation
use Rattle.lk_objects.specs.declared.code.Code.{Code}
use Rattle.lk_objects.specs.declared.code.Code.TheVariants as code
use Rattle.lk_objects.specs.declared.code.Reference.TheVariants as reference
use Rattle.lk_objects.specs.declared.field.DeclaredField.{DeclaredField}
use Rattle.lk_objects.specs.declared.field.DimensionType.TheVariants as type
use Rattle.lk_objects.specs.declared.field.FieldSort.TheVariants as field_sort
use Rattle.lk_objects.specs.declared.view.DeclaredView.{DeclaredView}
use Rattle.lk_objects.specs.declared.view.Entry.{Entry}
use Rattle.lk_objects.specs.declared.view.Entry.TheVariants as entry
use Rattle.lk_objects.specs.declared.filter_text.FilterText.{FilterText}
use Rattle.lk_objects.specs.declared.filter_text.ReadFilter.TheVariants.{Read, Syntax}
use Rattle.lk_objects.specs.declared.explore.AggregateTable.{AggregateTable}
use Rattle.lk_objects.specs.declared.view.Rows.TheVariants as rows
use Rattle.lk_objects.specs.declared.explore.DeclaredExplore.{DeclaredExplore}
use Rattle.lk_objects.specs.declared.explore.DeclaredJoin.{DeclaredJoin}
use Rattle.lk_params.specs.declared.number.Number.{Number}
use Rattle.lk_params.specs.declared.number.Number.TheVariants.{N1, N2, N3, N5, N6, N7, N8, N9, N13, N14, E3, F1}
use Rattle.lk_params.specs.declared.number.Order.TheVariants as order
use Rattle.lk_params.specs.Findings.{finding, named_line, placed_line}
use Rattle.lk_formulas.specs.declared.columns.ColumnKinds.{ColumnKinds}
use Rattle.lk_scope.specs.Scopes.{alone, scope_of}
use Rattle.lk_field_faults.specs.FieldFaults.{view_fields_fault}
use Rattle.lk_explore_faults.specs.ExploreFaults.{explore_fault}
use Rattle.lk_explore_faults.specs.ViewFaults.{view_fault}

-- a table `t` with the column `c`
abbrev schema : Schema
schema = record {
  tables = record {
    name = codes "t";
    columns = record { name = codes "c"; kind = kind.Text } ∷ [];
    key = None;
  } ∷ [];
}

abbrev kinds : ColumnKinds
kinds = record { parts = (Some kind.Text ∷ []) ∷ (Some kind.Text ∷ []) ∷ [] }

-- `${name}`, `${view.name}`, and a column
abbrev own : List ℕ → Code
own name = code.Expr (record { references = reference.Own name ∷ []; expr = Column 0 0; unknown_call = None })

abbrev of : List ℕ → List ℕ → Code
of view name = code.Expr (record { references = reference.Of view name ∷ []; expr = Column 0 0; unknown_call = None })

abbrev column : List ℕ → Code
column name = code.Expr (record { references = reference.Column name ∷ []; expr = Column 0 0; unknown_call = None })

abbrev is_null : List ℕ → Code
is_null name = code.Expr (record { references = reference.Own name ∷ []; expr = IsNull (Column 0 0); unknown_call = None })

abbrev dimension : List ℕ → Code → DeclaredField
dimension name sql = record {
  name = name;
  sort = field_sort.Dimension (Some type.Text);
  sql = sql;
  key = code.Absent;
  filters = [];
  frames = [];
  tiers = [];
  is_key = false;
  first = None;
}

abbrev key : List ℕ → DeclaredField
key name = record {
  name = name;
  sort = field_sort.Dimension (Some type.Text);
  sql = code.Expr (record { references = reference.Column (codes "c") ∷ []; expr = Column 0 0; unknown_call = None });
  key = code.Absent;
  filters = [];
  frames = [];
  tiers = [];
  is_key = true;
  first = None;
}

abbrev number : List ℕ → Code → DeclaredField
number name sql = record {
  name = name;
  sort = field_sort.Dimension (Some type.Number);
  sql = sql;
  key = code.Absent;
  filters = [];
  frames = [];
  tiers = [];
  is_key = false;
  first = None;
}

abbrev view : List ℕ → List DeclaredField → DeclaredView
view name fields = record { name = name; fields = fields; rows = rows.Stored (Some 0); first = None }

abbrev fields_of : DeclaredView → Option FaultLine
fields_of v = view_fields_fault schema (v ∷ []) (alone 0 v) kinds

abbrev line : Option FaultLine → Number → List ℕ → List ℕ → Type 0
line found n name other = found ≡ Some (named_line n name other)

-- `a` reaches the cycle of `b` and `c` and is not told; the least name on the cycle is
at_the_cycle : line (fields_of (view (codes "v") (dimension (codes "a") (own (codes "b")) ∷ dimension (codes "b") (own (codes "c"))
    ∷ dimension (codes "c") (own (codes "b")) ∷ []))) N7 (codes "v.b") []
at_the_cycle = refl

name_before_column : line (fields_of (view (codes "v") (dimension (codes "a")
    (code.Expr (record { references = reference.Column (codes "nope") ∷ reference.Own (codes "x") ∷ []; expr = Concat (Column 0 0) (Column 0 1); unknown_call = None })) ∷ [])))
    N3 (codes "v.a") (codes "x")
name_before_column = refl

clash : line (fields_of (view (codes "v") (number (codes "a") (column (codes "c")) ∷ []))) E3 (codes "v.a") []
clash = refl

fields_by_their_names : line (fields_of (view (codes "v") (dimension (codes "a") (column (codes "nope"))
    ∷ (record {
      name = codes "b";
      sort = field_sort.Dimension None;
      sql = column (codes "c");
      key = code.Absent;
      filters = [];
      frames = [];
      tiers = [];
      is_key = false;
      first = Some (finding order.Field N14 (codes "type") (named_line N14 (codes "v.b") (codes "type")));
    }) ∷ [])))
    N5 (codes "v.a") (codes "nope")
fields_by_their_names = refl

twice_before_fields : line (fields_of (view (codes "v") (dimension (codes "a") (column (codes "nope"))
    ∷ (record {
      name = codes "created";
      sort = field_sort.Group;
      sql = column (codes "c");
      key = code.Absent;
      filters = [];
      frames = frame.Raw ∷ frame.Date ∷ [];
      tiers = [];
      is_key = false;
      first = None;
    })
    ∷ dimension (codes "created_date") (column (codes "c")) ∷ [])))
    N1 (codes "v") (codes "created_date")
twice_before_fields = refl

other_views_are_open : fields_of (view (codes "v") (dimension (codes "a") (of (codes "w") (codes "x")) ∷ [])) ≡ None
other_views_are_open = refl

two_keys : line (view_fault (record { views = []; explores = []; datagroups = [] }) (view (codes "v") (key (codes "a") ∷ key (codes "b") ∷ []))) N9 (codes "v") []
two_keys = refl

-- ---- an explore

abbrev explore_over_v : List DeclaredJoin → DeclaredExplore
explore_over_v joins = record { name = codes "x"; base = Some (codes "v"); joins = joins; always_join = []; filters = []; rollups = []; first = None }

abbrev two_views : List DeclaredView
two_views = view (codes "v") (dimension (codes "a") (of (codes "w") (codes "k")) ∷ dimension (codes "b") (own (codes "a")) ∷ dimension (codes "c") (column (codes "c")) ∷ [])
    ∷ view (codes "w") (dimension (codes "k") (column (codes "c")) ∷ []) ∷ []

abbrev explored : List DeclaredJoin → Option FaultLine
explored joins = explore_fault schema two_views (scope_of two_views (explore_over_v joins)) kinds [] (explore_over_v joins)

abbrev join_w : Code → Option (List ℕ) → DeclaredJoin
join_w on foreign = record {
  name = codes "w";
  view = Some (codes "w");
  kind = join_kind.Left;
  relation = relation.ManyToOne;
  on = on;
  foreign_key = foreign;
  required = [];
  first = None;
}

no_fault : explored (join_w (is_null (codes "c")) None ∷ []) ≡ None
unfolding Rattle.lk_explore_faults.specs.Conditions.join_condition_line
no_fault = refl

unknown_in_condition : line (explored (join_w (of (codes "w") (codes "nope")) None ∷ [])) N3 (codes "w") (codes "w.nope")
unknown_in_condition = refl

-- a text is no condition
no_truth : line (explored (join_w (own (codes "c")) None ∷ [])) E3 (codes "w") []
unfolding Rattle.lk_explore_faults.specs.Conditions.join_condition_line
no_truth = refl

no_key : line (explored (join_w code.Absent (Some (codes "c")) ∷ [])) N8 (codes "w") []
no_key = refl

-- N3 goes before N8, and `foreign_key` before `sql_on`
key_before_condition : line (explored (join_w (of (codes "w") (codes "nope")) (Some (codes "zz")) ∷ [])) N3 (codes "w") (codes "zz")
key_before_condition = refl

unknown_view : line (explored ((record {
  name = codes "u";
  view = Some (codes "u");
  kind = join_kind.Left;
  relation = relation.ManyToOne;
  on = own (codes "nope");
  foreign_key = None;
  required = codes "q" ∷ [];
  first = None;
}) ∷ [])) N2 (codes "u") (codes "u")
unknown_view = refl

-- a join with the explore's name
twin : line (explored ((record {
  name = codes "x";
  view = Some (codes "w");
  kind = join_kind.Left;
  relation = relation.ManyToOne;
  on = is_null (codes "c");
  foreign_key = None;
  required = [];
  first = None;
}) ∷ [])) N1 (codes "x") (codes "x")
twin = refl

-- ---- filters and stored queries

-- a filter that reads as a relative date, and as no number from place 2 on
abbrev since : List ℕ → FilterText
since name = record {
  name = name;
  text = codes "3 days";
  as_text = Read (record { include = []; exclude = []; relative = false });
  as_number = Syntax 2;
  as_date = Read (record { include = []; exclude = []; relative = true });
  as_truth = Syntax 0;
}

abbrev group : List ℕ → DeclaredField
group name = record {
  name = name;
  sort = field_sort.Group;
  sql = column (codes "at");
  key = code.Absent;
  filters = [];
  frames = frame.Date ∷ frame.HourOfDay ∷ [];
  tiers = [];
  is_key = false;
  first = None;
}

abbrev counted : List ℕ → List FilterText → DeclaredField
counted name filters = record {
  name = name;
  sort = field_sort.Measure (Some op.Count);
  sql = code.Absent;
  key = code.Absent;
  filters = filters;
  frames = [];
  tiers = [];
  is_key = false;
  first = None;
}

-- a measure of type number over another and itself once more
abbrev over_twice : List ℕ → List ℕ → DeclaredField
over_twice name other = record {
  name = name;
  sort = field_sort.Measure (Some op.Number);
  sql = code.Number (record {
    references = reference.Own other ∷ reference.Own other ∷ [];
    expr = Apply arithmetic.Plus (OfMeasure 0) (OfMeasure 1);
    unknown_call = None;
  });
  key = code.Absent;
  filters = [];
  frames = [];
  tiers = [];
  is_key = false;
  first = None;
}

abbrev dated_schema : Schema
dated_schema = record {
  tables = record {
    name = codes "t";
    columns = record { name = codes "at"; kind = kind.Day } ∷ [];
    key = None;
  } ∷ [];
}

abbrev dated_kinds : ColumnKinds
dated_kinds = record { parts = (Some kind.Day ∷ []) ∷ [] }

abbrev dated_fields : List DeclaredField → Option FaultLine
dated_fields fields = view_fields_fault dated_schema (view (codes "v") fields ∷ []) (alone 0 (view (codes "v") fields)) dated_kinds

-- a filter on a name of no dimension; one on an hour, which is a number; and one on another view, which is open
no_dimension : line (dated_fields (group (codes "at") ∷ counted (codes "m") (since (codes "v.nope") ∷ []) ∷ [])) N3 (codes "v.m") (codes "v.nope")
no_dimension = refl

no_filter_of_an_hour : dated_fields (group (codes "at") ∷ counted (codes "m") (since (codes "at_hour_of_day") ∷ []) ∷ []) ≡ Some (placed_line F1 2 (codes "v.m"))
no_filter_of_an_hour = refl

another_view : dated_fields (group (codes "at") ∷ counted (codes "m") (since (codes "w.x") ∷ []) ∷ []) ≡ None
another_view = refl

abbrev dated_views : List DeclaredView
dated_views = view (codes "v") (group (codes "at") ∷ counted (codes "m") (since (codes "at_date") ∷ []) ∷ over_twice (codes "n") (codes "m")
    ∷ over_twice (codes "o") (codes "n") ∷ []) ∷ []

abbrev stored : List Entry → Option (List ℕ) → AggregateTable
stored entries datagroup = record {
  name = codes "r";
  dimensions = [];
  measures = [];
  filters = since (codes "at_hour_of_day") ∷ [];
  datagroup = datagroup;
  entries = entries;
  first = None;
}

abbrev dated_explore : AggregateTable → DeclaredExplore
dated_explore table = record { name = codes "x"; base = Some (codes "v"); joins = []; always_join = []; filters = []; rollups = table ∷ []; first = None }

abbrev stored_fault : AggregateTable → Option FaultLine
stored_fault table = explore_fault dated_schema dated_views (scope_of dated_views (dated_explore table)) dated_kinds [] (dated_explore table)

-- a relative date in the filter of a measure that a measure is over through another; the field by the part's name
relative_below : line (stored_fault (stored (entry.Measure (codes "o") ∷ []) None)) N13 (codes "r") (codes "x.at_date")
unfolding Rattle.lk_explore_faults.specs.FilterFaults.rollup_line Rattle.lk_explore_faults.specs.StoredQueries.query_findings
relative_below = refl

dimension_as_measure : line (stored_fault (stored (entry.Measure (codes "at_date") ∷ entry.Measure (codes "o") ∷ []) None)) N3 (codes "r") (codes "at_date")
unfolding Rattle.lk_explore_faults.specs.FilterFaults.rollup_line Rattle.lk_explore_faults.specs.StoredQueries.query_findings
dimension_as_measure = refl

-- N6 goes before F1
datagroup_before_filter : line (stored_fault (stored (entry.Filter 0 ∷ []) (Some (codes "g")))) N6 (codes "r") (codes "g")
unfolding Rattle.lk_explore_faults.specs.FilterFaults.rollup_line Rattle.lk_explore_faults.specs.StoredQueries.query_findings
datagroup_before_filter = refl

filter_of_the_table : stored_fault (stored (entry.Filter 0 ∷ []) None) ≡ Some (placed_line F1 2 (codes "x.at_hour_of_day"))
unfolding Rattle.lk_explore_faults.specs.FilterFaults.rollup_line Rattle.lk_explore_faults.specs.StoredQueries.query_findings
filter_of_the_table = refl

-- the source of a derived table
abbrev derived_from : List ℕ → List Entry → DeclaredView
derived_from source entries = record {
  name = codes "d";
  fields = [];
  rows = rows.Derived (record { explore = Some source; columns = []; filters = []; datagroup = None; entries = entries });
  first = None;
}

abbrev derived_fault : DeclaredView → Option FaultLine
derived_fault d = view_fault (record { views = dated_views; explores = dated_explore (stored [] None) ∷ []; datagroups = [] }) d

no_source : line (derived_fault (derived_from (codes "y") [])) N2 (codes "d") (codes "y")
no_source = refl

no_field : line (derived_fault (derived_from (codes "x") (entry.Column (codes "x.at_date") ∷ entry.Column (codes "at") ∷ []))) N3 (codes "d") (codes "at")
unfolding Rattle.lk_explore_faults.specs.StoredQueries.query_findings
no_field = refl

relative_column : line (derived_fault (derived_from (codes "x") (entry.Column (codes "n") ∷ []))) N13 (codes "d") (codes "x.at_date")
unfolding Rattle.lk_explore_faults.specs.StoredQueries.query_findings
relative_column = refl
