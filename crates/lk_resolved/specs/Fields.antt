-- The dimensions and measures of a resolved explore. (Looker, LookML reference: dimension, measure)
use Rattle.std.specs.Prelude.{ℕ, ℤ, List, [], ◌∷◌, map, flat_map, Option, Some, None, slice_get}
use Rattle.lk_types.specs.Formula.{Formula}
use Rattle.lk_types.specs.Calculation.{Calculation, OfMeasure, Number, Apply, Negate, Coalesce, NullIf, Calculations, no_more, more}
use Rattle.lk_types.specs.declared.explore.Field.{Field}
use Rattle.lk_types.specs.declared.explore.Measure.{Measure}
use Rattle.lk_types.specs.declared.explore.Op.{Op}
use Rattle.lk_types.specs.declared.explore.Op.TheVariants as op
use Rattle.lk_types.specs.declared.explore.Shape.{Shape}
use Rattle.lk_types.specs.declared.explore.Shape.TheVariants as shape
use Rattle.lk_types.specs.declared.schema.Frame.{Frame}
use Rattle.lk_types.specs.declared.schema.Kind.{Kind}
use Rattle.lk_types.specs.declared.schema.Kind.TheVariants as kind
use Rattle.lk_types.specs.declared.schema.Schema.{Schema}
use Rattle.lk_objects.specs.declared.code.Code.{Code}
use Rattle.lk_objects.specs.declared.code.Code.TheVariants as code
use Rattle.lk_objects.specs.declared.code.Reference.{Reference}
use Rattle.lk_objects.specs.declared.field.DeclaredField.{DeclaredField}
use Rattle.lk_objects.specs.declared.field.DimensionType.TheVariants as type
use Rattle.lk_objects.specs.declared.field.FieldSort.{FieldSort}
use Rattle.lk_objects.specs.declared.field.FieldSort.TheVariants as field_sort
use Rattle.lk_objects.specs.declared.view.DeclaredView.{DeclaredView}
use Rattle.lk_fields.specs.declared.scope.Found.{Found}
use Rattle.lk_fields.specs.declared.scope.Place.{Place}
use Rattle.lk_fields.specs.declared.scope.Scope.{Scope}
use Rattle.lk_fields.specs.declared.scope.Sort.TheVariants as sort
use Rattle.lk_fields.specs.declared.scope.Writer.TheVariants as writer
use Rattle.lk_fields.specs.Existing.{field_at}
use Rattle.lk_formulas.specs.declared.columns.ColumnKinds.{ColumnKinds}
use Rattle.lk_formulas.specs.declared.columns.UnknownColumn.TheVariants as unknown_column
use Rattle.lk_formulas.specs.FieldKinds.{field_kind, measure_kind, or_text}
use Rattle.lk_formulas.specs.Formulas.{field_named}
use Rattle.lk_resolved.specs.declared.names.NamedDimension.{NamedDimension}
use Rattle.lk_resolved.specs.declared.names.NamedMeasure.{NamedMeasure}
use Rattle.lk_resolved.specs.Filters.{filters_of_part}
use Rattle.lk_resolved.specs.Formulas.{code_formula, field_formula}
use Rattle.lk_resolved.specs.Names.{dimensions, group_number, groups, measure_number, measures}

-- ---- shapes

-- a tier has its bounds, and a timeframe the number of its group
abbrev pub shape_with : ℕ → Option Frame → FieldSort → List ℤ → Shape
shape_with group (Some f) s tiers = shape.Frame group f
shape_with group None (field_sort.Dimension (Some type.Tier)) tiers = shape.Tier tiers
shape_with group None s tiers = shape.Plain

abbrev pub shape_if : ℕ → Option Frame → Option DeclaredField → Shape
shape_if group f None = shape.Plain
shape_if group f (Some field) = shape_with group f field.sort field.tiers

-- ---- the expression of a measure of type number, with the numbers of the measures

abbrev mutual
  pub renumbered : (ℕ → ℕ) → Calculation → Calculation
  renumbered s (OfMeasure i) = OfMeasure (s i)
  renumbered s (Number n) = Number n
  renumbered s (Apply o a b) = Apply o (renumbered s a) (renumbered s b)
  renumbered s (Negate a) = Negate (renumbered s a)
  renumbered s (Coalesce xs) = Coalesce (renumbered_all s xs)
  renumbered s (NullIf a b) = NullIf (renumbered s a) (renumbered s b)

  pub renumbered_all : (ℕ → ℕ) → Calculations → Calculations
  renumbered_all s no_more = no_more
  renumbered_all s (more a xs) = more (renumbered s a) (renumbered_all s xs)

-- the type of a measure; one of unknown type stands for a count, which no project without a fault has
abbrev pub op_with : FieldSort → Op
op_with (field_sort.Measure (Some o)) = o
op_with s = op.Count

-- a count and a number have no value
abbrev pub value_if : Op → Formula → Option Formula
value_if op.Count e = None
value_if op.Number e = None
value_if o e = Some e

-- only the two distinct measures have a key of their own
abbrev pub key_if : Op → Formula → Option Formula
key_if op.SumDistinct e = Some e
key_if op.AverageDistinct e = Some e
key_if o e = None

-- the filters of a number have no effect
abbrev pub filters_if : {A : Type 0} → Op → List A → List A
filters_if op.Number filters = []
filters_if o filters = filters

abbrev pub or_number : Option Kind → Kind
or_number None = kind.Number
or_number (Some k) = k

module _ (views : List DeclaredView) (scope : Scope) where
  -- the number of the measure that a reference in the text of a part names, and 0 where it names none
  abbrev pub number_named : ℕ → Option Reference → ℕ
  number_named part None = 0
  number_named part (Some r) = number (field_named views scope (writer.Field part) sort.Measure r) where
    number : Option Found → ℕ
    number None = 0
    number (Some found) = measure_number (measures views scope) found.place

  abbrev pub number_with : ℕ → Code → Option Calculation
  number_with part (code.Number written) = Some (renumbered (λ i. number_named part (slice_get written.references i)) written.expr)
  number_with part c = None

module _ (schema : Schema) (views : List DeclaredView) (scope : Scope) (columns : ColumnKinds) where
  -- the expression of a timeframe is that of its group
  abbrev pub field_with : NamedDimension → Field
  field_with d = record {
    name = d.name;
    part = d.found.place.part;
    kind = or_text (field_kind schema views scope columns unknown_column.Kept d.found);
    expr = field_formula schema views scope columns d.found.place;
    shape = shape_if (group_number (groups views scope) d.found.place) d.found.frame (field_at views scope d.found.place);
  }

  abbrev pub fields : List Field
  fields = map field_with (dimensions views scope)

  -- ---- measures

  abbrev pub measure_with : NamedMeasure → DeclaredField → Measure
  measure_with m field = let o = op_with field.sort in record {
    name = m.name;
    part = m.place.part;
    op = o;
    kind = or_number (measure_kind schema views scope columns unknown_column.Kept m.place);
    value = value_if o (field_formula schema views scope columns m.place);
    key = key_if o (code_formula schema views scope columns (writer.Field m.place.part) field.key);
    filters = filters_if o (filters_of_part views scope (dimensions views scope) m.place.part field.filters);
    number = number_with views scope m.place.part field.sql;
  }

  abbrev pub measure_if : NamedMeasure → Option DeclaredField → List Measure
  measure_if m None = []
  measure_if m (Some field) = measure_with m field ∷ []

  abbrev pub measure_at : NamedMeasure → List Measure
  measure_at m = measure_if m (field_at views scope m.place)

  abbrev pub all_measures : List Measure
  all_measures = flat_map measure_at (measures views scope)
