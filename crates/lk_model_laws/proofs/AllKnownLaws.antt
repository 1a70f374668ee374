-- Kinds of columns of which each column that a name means has one.
use Rattle.std.proofs.Common.{◌≡◌, ◌∙◌, ℕ, zero, suc, List, [], ◌∷◌, map, refl, ap, sym, Option, Some, None}
use Rattle.std.specs.Prelude.{slice_get, slice_index_or}
use Rattle.std.specs.Option.{option_and_then, option_map}
use Rattle.lk_val.specs.Texts.{is_same_text}
use Rattle.lk_types.specs.declared.schema.ColumnDef.{ColumnDef}
use Rattle.lk_types.specs.declared.schema.Kind.{Kind}
use Rattle.lk_types.specs.declared.schema.Kind.TheVariants as kind
use Rattle.lk_types.specs.declared.schema.Schema.{Schema}
use Rattle.lk_types.specs.declared.schema.TableDef.{TableDef}
use Rattle.lk_objects.specs.declared.view.DeclaredColumn.{DeclaredColumn}
use Rattle.lk_objects.specs.declared.view.DeclaredView.{DeclaredView}
use Rattle.lk_objects.specs.declared.view.Rows.{Rows}
use Rattle.lk_objects.specs.declared.view.Rows.TheVariants as rows
use Rattle.lk_fields.specs.declared.scope.Scope.{Scope}
use Rattle.lk_fields.specs.declared.scope.ScopePart.{ScopePart}
use Rattle.lk_formulas.specs.declared.columns.ColumnKinds.{ColumnKinds}
use Rattle.lk_formulas.specs.Columns.{column_in_rows, column_in_table, column_named, known_kind}
use Rattle.lk_model_laws.proofs.ListLaws.{got_map, position_at}
use Rattle.lk_model_laws.proofs.PieceLaws.{some_none}

-- a text for each item
abbrev texts : {A : Type 0} → List A → List (Option Kind)
texts xs = map (λ x. Some kind.Text) xs

text_at : {A : Type 0} (xs : List A) (c : ℕ) (x : A) → slice_get xs c ≡ Some x → slice_index_or (texts xs) c None ≡ Some kind.Text
text_at [] c x at = absurd (some_none (sym at))
text_at (y ∷ xs) zero x at = refl
text_at (y ∷ xs) (suc c) x at = text_at xs c x at

abbrev table_texts : Option TableDef → List (Option Kind)
table_texts None = []
table_texts (Some table) = texts table.columns

module _ (schema : Schema) (views : List DeclaredView) (scope : Scope) where
  abbrev row_texts : Rows → List (Option Kind)
  row_texts (rows.Stored table) = table_texts (option_and_then (slice_get schema.tables) table)
  row_texts (rows.Derived derived) = texts derived.columns

  abbrev view_texts : Option DeclaredView → List (Option Kind)
  view_texts None = []
  view_texts (Some view) = row_texts view.rows

  abbrev part_texts : ScopePart → List (Option Kind)
  part_texts part = view_texts (option_and_then (slice_get views) part.view)

  -- each column of a part is a text
  abbrev pub all_known : ColumnKinds
  all_known = record { parts = map part_texts scope.parts }

  row_known : (name : List ℕ) (c : ℕ) (from : Rows) → column_in_rows schema name from ≡ Some c → slice_index_or (row_texts from) c None ≡ Some kind.Text
  row_known name c (rows.Derived derived) h =
      let got = position_at (λ (column : DeclaredColumn). is_same_text column.name name) derived.columns c h in text_at derived.columns c got.0 got.1
  row_known name c (rows.Stored table) h = of_table (option_and_then (slice_get schema.tables) table) h
    where
      of_table : (o : Option TableDef) → column_in_table name o ≡ Some c → slice_index_or (table_texts o) c None ≡ Some kind.Text
      of_table None h = absurd (some_none (sym h))
      of_table (Some table) h = let got = position_at (λ (column : ColumnDef). is_same_text column.name name) table.columns c h in text_at table.columns c got.0 got.1

  view_known : (name : List ℕ) (c : ℕ) (o : Option DeclaredView) → option_and_then (λ (view : DeclaredView). column_in_rows schema name view.rows) o ≡ Some c → slice_index_or (view_texts o) c None ≡ Some kind.Text
  view_known name c None h = absurd (some_none (sym h))
  view_known name c (Some view) h = row_known name c view.rows h

  pub are_all_known : (p : ℕ) (name : List ℕ) (c : ℕ) → column_named schema views scope p name ≡ Some c → (k : Kind) × (known_kind all_known p c ≡ Some k)
  are_all_known p name c h = (kind.Text, ap (option_and_then (λ (ks : List (Option Kind)). slice_index_or ks c None)) (got_map part_texts scope.parts p) ∙ of_part (slice_get scope.parts p) h)
    where
      of_part : (o : Option ScopePart)
          → option_and_then (λ (view : DeclaredView). column_in_rows schema name view.rows) (option_and_then (λ (part : ScopePart). option_and_then (slice_get views) part.view) o) ≡ Some c
          → option_and_then (λ (ks : List (Option Kind)). slice_index_or ks c None) (option_map part_texts o) ≡ Some kind.Text
      of_part None h = absurd (some_none (sym h))
      of_part (Some part) h = view_known name c (option_and_then (slice_get views) part.view) h
