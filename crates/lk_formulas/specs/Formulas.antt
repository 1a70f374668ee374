-- The formula of a field: its expression over columns, with the fields that it refers to put in; as it is written, by which its nodes are counted, and with its text literals read. An expression with an unknown call has nodes as any other, and read it is null: it has a fault of its own, and gives no further one. (Looker, LookML reference: substitution operators; lookd)
use Rattle.std.specs.Prelude.{ℕ, zero, suc, Bool, false, ◌&&◌, if◌then◌else◌, List, map, length, Option, Some, None, is_none, is_some}
use Rattle.std.specs.List.{list_all}
use Rattle.lk_val.specs.Least.{is_in}
use Rattle.lk_val.specs.declared.value.Value.TheVariants as value
use Rattle.lk_types.specs.Formula.{Formula, Column, Literal, Framed}
use Rattle.lk_types.specs.declared.schema.Frame.{Frame}
use Rattle.lk_types.specs.declared.schema.Kind.{Kind}
use Rattle.lk_types.specs.declared.schema.Schema.{Schema}
use Rattle.lk_objects.specs.declared.code.Code.{Code}
use Rattle.lk_objects.specs.declared.code.Code.TheVariants as code
use Rattle.lk_objects.specs.declared.code.Reference.{Reference}
use Rattle.lk_objects.specs.declared.code.Reference.TheVariants as reference
use Rattle.lk_objects.specs.declared.code.Written.{Written}
use Rattle.lk_objects.specs.declared.field.DeclaredField.{DeclaredField}
use Rattle.lk_objects.specs.declared.view.DeclaredView.{DeclaredView}
use Rattle.lk_fields.specs.declared.scope.Found.{Found}
use Rattle.lk_fields.specs.declared.scope.Place.{Place}
use Rattle.lk_fields.specs.declared.scope.Scope.{Scope}
use Rattle.lk_fields.specs.declared.scope.Sort.{Sort}
use Rattle.lk_fields.specs.declared.scope.Sort.TheVariants as sort
use Rattle.lk_fields.specs.declared.scope.Writer.{Writer}
use Rattle.lk_fields.specs.declared.scope.Writer.TheVariants as writer
use Rattle.lk_fields.specs.Existing.{all_places, ending, field_at, is_same_place}
use Rattle.lk_fields.specs.Scopes.{found_in}
use Rattle.lk_fields.specs.Substituted.{replacement, substituted}
use Rattle.lk_dated.specs.Dated.{dated_by, stands_at}
use Rattle.lk_formulas.specs.declared.columns.ColumnKinds.{ColumnKinds}
use Rattle.lk_formulas.specs.declared.columns.UnknownColumn.{UnknownColumn}
use Rattle.lk_formulas.specs.declared.columns.UnknownColumn.TheVariants as unknown_column
use Rattle.lk_formulas.specs.Columns.{column_named, known_kind}
use Rattle.lk_formulas.specs.FormulaKinds.{kinds_in}

-- what stands for something that isn't there: it has every kind, so that it gives no further fault
abbrev pub null : Formula
null = Literal value.Null

-- the references of a field come to an end: it reaches no cycle, and so it has a formula
abbrev pub ends : List DeclaredView → Scope → Place → Bool
ends views scope place = is_in is_same_place place (ending views scope)

-- the declared field that a reference names, where its place needs a field of this sort; a column is no field
abbrev pub field_named : List DeclaredView → Scope → Writer → Sort → Reference → Option Found
field_named views scope w s (reference.Own name) = found_in views scope w None name s
field_named views scope w s (reference.Of view name) = found_in views scope w (Some view) name s
field_named views scope w s (reference.Column name) = None

-- the part that the columns of a text are of: that of the field, and the base view's in the explore's own text
abbrev pub part_of : Writer → ℕ
part_of (writer.Field part) = part
part_of writer.Explore = 0

-- a column of a part, which may have a known kind
abbrev pub column_formula : UnknownColumn → Option Kind → ℕ → ℕ → Formula
column_formula unknown_column.Null None part column = null
column_formula u k part column = Column part column

abbrev pub framed : Option Frame → Formula → Formula
framed None e = e
framed (Some f) e = Framed f e

abbrev pub column_at : ColumnKinds → UnknownColumn → ℕ → Option ℕ → Formula
column_at columns u part None = null
column_at columns u part (Some column) = column_formula u (known_kind columns part column) part column

-- there is such a column, and its kind is known
abbrev pub is_known : ColumnKinds → ℕ → Option ℕ → Bool
is_known columns part None = false
is_known columns part (Some column) = is_some (known_kind columns part column)

-- an expression with what stands for each of its references, as it is written
abbrev pub put_in : List Formula → Formula → Formula
put_in by e = substituted (replacement by) e

-- and with its text literals read, given what stands for each reference with those read already
abbrev pub read_in : ColumnKinds → List Formula → Formula → Formula
read_in columns by e = dated_by (kinds_in columns) (stands_at by) e

-- what an expression means, and null where a call of it is unknown, whose place this is
abbrev pub where_known : Option ℕ → Formula → Formula
where_known None e = e
where_known (Some place) e = null

-- the formula of a text as it is written, and with its text literals read
abbrev pub as_written : List Formula → Written → Formula
as_written by written = put_in by written.expr

abbrev pub as_read : ColumnKinds → List Formula → Written → Formula
as_read columns by written = where_known written.unknown_call (read_in columns by written.expr)

module _ (schema : Schema) (views : List DeclaredView) (scope : Scope) (columns : ColumnKinds) (u : UnknownColumn) where
  -- the field that a name means, given the formulas of fields; one that reaches a cycle has none
  abbrev pub through : (Place → Formula) → Option Found → Formula
  through further None = null
  through further (Some found) = if ends views scope found.place then framed found.frame (further found.place) else null

  -- what stands for a reference
  abbrev pub meaning : (Place → Formula) → Writer → Reference → Formula
  meaning further w (reference.Column name) = column_at columns u (part_of w) (column_named schema views scope (part_of w) name)
  meaning further w r = through further (field_named views scope w sort.Dimension r)

  -- given how an expression and what stands for its references are put together
  module _ (join : List Formula → Written → Formula) where
    -- a code with the meanings of its references put in; what is no expression is null
    abbrev pub expanded : (Place → Formula) → Writer → Code → Formula
    expanded further w (code.Expr written) = join (map (meaning further w) written.references) written
    expanded further w c = null

    abbrev pub expanded_field : (Place → Formula) → ℕ → Option DeclaredField → Formula
    expanded_field further part None = null
    expanded_field further part (Some field) = expanded further (writer.Field part) field.sql

    -- the formula of the field at a place, of a dimension group without its timeframe, through references at most n deep
    abbrev pub formula_within : ℕ → Place → Formula
    formula_within zero place = null
    formula_within (suc n) place = expanded_field (formula_within n) place.part (field_at views scope place)

    -- as deep as there are fields: no field reaches further without a cycle
    abbrev pub formula_by : Place → Formula
    formula_by place = formula_within (length (all_places views scope)) place

  -- the formula of a field as it is written
  abbrev pub formula_of : Place → Formula
  formula_of place = formula_by as_written place

  -- the formula of a code that stands in the text of a field or in the explore's own, as it is written
  abbrev pub formula_in : Writer → Code → Formula
  formula_in w c = expanded as_written formula_of w c

  -- the same with text literals read: those in the field of a reference are read before its formula is put in, which is then itself a text literal that is compared, if it is one
  abbrev pub dated_of : Place → Formula
  dated_of place = formula_by (as_read columns) place

  abbrev pub dated_in : Writer → Code → Formula
  dated_in w c = expanded (as_read columns) dated_of w c

  -- ---- whether all that stands in a formula is known, its calls too

  abbrev pub knows_through : (Place → Bool) → Option Found → Bool
  knows_through further None = false
  knows_through further (Some found) = ends views scope found.place && further found.place

  abbrev pub knows : (Place → Bool) → Writer → Reference → Bool
  knows further w (reference.Column name) = is_known columns (part_of w) (column_named schema views scope (part_of w) name)
  knows further w r = knows_through further (field_named views scope w sort.Dimension r)

  abbrev pub knows_all : (Place → Bool) → Writer → Code → Bool
  knows_all further w (code.Expr written) = is_none written.unknown_call && list_all (knows further w) written.references
  knows_all further w c = false

  abbrev pub knows_field : (Place → Bool) → ℕ → Option DeclaredField → Bool
  knows_field further part None = false
  knows_field further part (Some field) = knows_all further (writer.Field part) field.sql

  abbrev pub certain_within : ℕ → Place → Bool
  certain_within zero place = false
  certain_within (suc n) place = knows_field (certain_within n) place.part (field_at views scope place)

  -- all that stands in the formula of a field is known
  abbrev pub is_certain : Place → Bool
  is_certain place = certain_within (length (all_places views scope)) place

  -- all that stands in the formula of a code is known
  abbrev pub is_certain_in : Writer → Code → Bool
  is_certain_in w c = knows_all is_certain w c
