-- The columns of the parts of a scope, and their kinds where these are known. (Looker, LookML reference: sql_table_name, derived_table)
use Rattle.std.specs.Prelude.{ℕ, List, Option, Some, None, slice_get, slice_index_or}
use Rattle.std.specs.List.{position}
use Rattle.std.specs.Option.{option_and_then}
use Rattle.lk_val.specs.Texts.{is_same_text}
use Rattle.lk_types.specs.declared.schema.Kind.{Kind}
use Rattle.lk_types.specs.declared.schema.Schema.{Schema}
use Rattle.lk_types.specs.declared.schema.TableDef.{TableDef}
use Rattle.lk_objects.specs.declared.view.DeclaredView.{DeclaredView}
use Rattle.lk_objects.specs.declared.view.Rows.{Rows}
use Rattle.lk_objects.specs.declared.view.Rows.TheVariants as rows
use Rattle.lk_fields.specs.declared.scope.Scope.{Scope}
use Rattle.lk_fields.specs.Scopes.{view_at}
use Rattle.lk_formulas.specs.declared.columns.ColumnKinds.{ColumnKinds}

abbrev pub column_in_table : List ℕ → Option TableDef → Option ℕ
column_in_table name None = None
column_in_table name (Some table) = position (λ column. is_same_text column.name name) table.columns

-- the number of the column of this name, in the stored table or among the columns of the derived table
abbrev pub column_in_rows : Schema → List ℕ → Rows → Option ℕ
column_in_rows schema name (rows.Stored table) = column_in_table name (option_and_then (slice_get schema.tables) table)
column_in_rows schema name (rows.Derived derived) = position (λ column. is_same_text column.name name) derived.columns

-- the number of a part's column of this name
abbrev pub column_named : Schema → List DeclaredView → Scope → ℕ → List ℕ → Option ℕ
column_named schema views scope part name =
    option_and_then (λ view. column_in_rows schema name view.rows) (view_at views scope part)

-- the kind of a column of a part, if it is known
abbrev pub known_kind : ColumnKinds → ℕ → ℕ → Option Kind
known_kind columns part column = option_and_then (λ kinds. slice_index_or kinds column None) (slice_get columns.parts part)
