-- How the formula of a code is found: what each of its references stands for, by numbers, and what is told of that.
use Rattle.std.specs.Prelude.{◌≡◌, ℕ, ◌+◌, ◌<◌, Bool, false, List, map, option_map, Option, Some, None, is_some, slice_index_or, ◌⊎◌}
use Rattle.std.specs.Option.{option_and_then}
use Rattle.lk_types.specs.Formula.{Formula}
use Rattle.lk_types.specs.Kinds.{every_kind, kinds_framed, kinds_of_column}
use Rattle.lk_types.specs.declared.kind_set.KindSet.{KindSet}
use Rattle.lk_types.specs.declared.schema.Frame.{Frame}
use Rattle.lk_types.specs.declared.schema.Kind.{Kind}
use Rattle.lk_types.specs.declared.schema.Schema.{Schema}
use Rattle.lk_objects.specs.declared.code.Reference.{Reference}
use Rattle.lk_objects.specs.declared.code.Reference.TheVariants as reference
use Rattle.lk_objects.specs.declared.view.DeclaredView.{DeclaredView}
use Rattle.lk_fields.specs.declared.scope.Found.{Found}
use Rattle.lk_fields.specs.declared.scope.Place.{Place}
use Rattle.lk_fields.specs.declared.scope.Scope.{Scope}
use Rattle.lk_fields.specs.declared.scope.Sort.{Sort}
use Rattle.lk_fields.specs.declared.scope.Writer.{Writer}
use Rattle.lk_fields.specs.Rows.{number_of}
use Rattle.lk_fields.specs.Substituted.{nodes_in, replacement, told_nodes}
use Rattle.lk_dated.specs.declared.side.Readings.{Readings}
use Rattle.lk_dated.specs.declared.side.Side.{Side}
use Rattle.lk_dated.specs.Sides.{no_literal, null_side, readings_of, side_of}
use Rattle.lk_formulas.specs.declared.columns.ColumnKinds.{ColumnKinds}
use Rattle.lk_formulas.specs.declared.columns.UnknownColumn.{UnknownColumn}
use Rattle.lk_formulas.specs.declared.columns.UnknownColumn.TheVariants as unknown_column
use Rattle.lk_formulas.specs.declared.referent.Referent.{Referent}
use Rattle.lk_formulas.specs.declared.referent.Referent.TheVariants as referent
use Rattle.lk_formulas.specs.declared.resolved.ResolvedCode.{ResolvedCode}
use Rattle.lk_formulas.specs.declared.resolved.ResolvedField.{ResolvedField}
use Rattle.lk_formulas.specs.Columns.{column_named, known_kind}
use Rattle.lk_formulas.specs.FormulaKinds.{kinds_at}
use Rattle.lk_formulas.specs.Formulas.{column_formula, field_named, framed, null, part_of}
use Rattle.lk_formulas.specs.NumberSizes.{told}
use Rattle.lk_formulas.specs.Resolved.{most_nodes}

-- ---- names looked up

abbrev pub column_referent : ℕ → Option ℕ → Referent
column_referent part None = referent.Nothing
column_referent part (Some column) = referent.Column part column

abbrev pub numbered_referent : Option Frame → Option ℕ → Referent
numbered_referent f None = referent.Nothing
numbered_referent f (Some number) = referent.Field number f

abbrev pub field_referent : List Place → Option Found → Referent
field_referent places None = referent.Nothing
field_referent places (Some found) = numbered_referent found.frame (number_of places found.place)

-- what a reference stands for, where its place needs a field of this sort
abbrev pub referent_of : Schema → List DeclaredView → Scope → List Place → Writer → Sort → Reference → Referent
referent_of schema views scope places w s (reference.Column name) =
    column_referent (part_of w) (column_named schema views scope (part_of w) name)
referent_of schema views scope places w s r = field_referent places (field_named views scope w s r)

-- ---- what is told of them

-- the field of a number, where it is there
abbrev pub field_numbered : List (Option ResolvedField) → ℕ → Option ResolvedField
field_numbered fields number = slice_index_or fields number None

abbrev pub code_numbered : List (Option ResolvedField) → ℕ → Option ResolvedCode
code_numbered fields number = option_map (λ f. f.code) (field_numbered fields number)

-- a timeframe is one node more
abbrev pub size_framed : Option Frame → ℕ → ℕ
size_framed None size = size
size_framed (Some f) size = told (size + 1)

abbrev pub size_through : Option Frame → Option ResolvedCode → ℕ
size_through f None = 1
size_through f (Some code) = size_framed f code.size

abbrev pub size_of : List (Option ResolvedField) → Referent → ℕ
size_of fields (referent.Field number f) = size_through f (code_numbered fields number)
size_of fields r = 1

-- the kinds of a formula, and what it writes where it is a text literal; one that is too large to be kept is none
abbrev pub readings_kept : Option Formula → Option Readings
readings_kept e = option_and_then readings_of e

abbrev pub side_of_code : ResolvedCode → Side
side_of_code code = record { kinds = code.kinds; literal = readings_kept code.expr }

abbrev pub side_framed : Option Frame → Side → Side
side_framed None side = side
side_framed (Some f) side = no_literal (kinds_framed f side.kinds)

abbrev pub side_through : Option Frame → Option ResolvedCode → Side
side_through f None = null_side
side_through f (Some code) = side_framed f (side_of_code code)

abbrev pub column_kinds : UnknownColumn → Option Kind → KindSet
column_kinds unknown_column.Null None = every_kind
column_kinds u k = kinds_of_column k

abbrev pub side_of_referent : ColumnKinds → UnknownColumn → List (Option ResolvedField) → Referent → Side
side_of_referent columns u fields referent.Nothing = null_side
side_of_referent columns u fields (referent.Column part column) = no_literal (column_kinds u (known_kind columns part column))
side_of_referent columns u fields (referent.Field number f) = side_through f (code_numbered fields number)

abbrev pub is_certain_through : Option ResolvedCode → Bool
is_certain_through None = false
is_certain_through (Some code) = code.is_certain

abbrev pub is_certain_referent : ColumnKinds → List (Option ResolvedField) → Referent → Bool
is_certain_referent columns fields referent.Nothing = false
is_certain_referent columns fields (referent.Column part column) = is_some (known_kind columns part column)
is_certain_referent columns fields (referent.Field number f) = is_certain_through (code_numbered fields number)

-- null stands for a formula that is too large to be kept
abbrev pub formula_framed : Option Frame → Option Formula → Formula
formula_framed f None = null
formula_framed f (Some e) = framed f e

abbrev pub formula_through : Option Frame → Option ResolvedCode → Formula
formula_through f None = null
formula_through f (Some code) = formula_framed f code.expr

abbrev pub formula_of_referent : ColumnKinds → UnknownColumn → List (Option ResolvedField) → Referent → Formula
formula_of_referent columns u fields referent.Nothing = null
formula_of_referent columns u fields (referent.Column part column) = column_formula u (known_kind columns part column) part column
formula_of_referent columns u fields (referent.Field number f) = formula_through f (code_numbered fields number)

-- what is told of it: of null, where that stands for a formula
abbrev pub side_if : Option Formula → Side → Side
side_if None side = null_side
side_if (Some e) side = side

abbrev pub kept_side_through : Option Frame → Option ResolvedCode → Side
kept_side_through f None = null_side
kept_side_through f (Some code) = side_if code.expr (side_framed f (side_of_code code))

abbrev pub kept_side_of : ColumnKinds → UnknownColumn → List (Option ResolvedField) → Referent → Side
kept_side_of columns u fields (referent.Field number f) = kept_side_through f (code_numbered fields number)
kept_side_of columns u fields r = side_of_referent columns u fields r

abbrev pub number_size_through : Option ResolvedField → ℕ
number_size_through None = 1
number_size_through (Some field) = field.number_size

-- the nodes of a measure of type number that a referent stands for
abbrev pub number_size_of : List (Option ResolvedField) → Referent → ℕ
number_size_of fields (referent.Field number f) = number_size_through (field_numbered fields number)
number_size_of fields r = 1

-- what is told of some referents is what is told of these formulas, as they are written and read; those that are too large may differ
pub record AreTold (columns : ColumnKinds) (u : UnknownColumn) (fields : List (Option ResolvedField)) (referents : List Referent) (by read : List Formula) : Type 0 where
  pub sizes : map (size_of fields) referents ≡ map told_nodes by
  pub sides : map (side_of_referent columns u fields) referents ≡ map (side_of (kinds_at columns)) read
  pub kept_sides : map (kept_side_of columns u fields) referents ≡ map (side_of (kinds_at columns)) (map (formula_of_referent columns u fields) referents)
  pub formulas : (i : ℕ) → (replacement read i ≡ replacement (map (formula_of_referent columns u fields) referents) i) ⊎ (most_nodes < nodes_in (replacement by i))
