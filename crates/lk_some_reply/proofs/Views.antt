-- Each declaration of a view says something, given that texts do.
use Rattle.std.proofs.Common.{◌≡◌, ℕ, ℤ, Bool, false, List, [], ◌∷◌, Option, Some, None, codes, refl}
use Rattle.std.specs.Option.{option_and_then}
use Rattle.lk_read.specs.declared.tree.Item.{Item}
use Rattle.lk_params.specs.Findings.{soonest}
use Rattle.lk_params.specs.Parameters.{last_named}
use Rattle.lk_params.specs.declared.finding.Finding.{Finding}
use Rattle.lk_types.specs.declared.schema.Frame.{Frame}
use Rattle.lk_types.specs.declared.schema.Schema.{Schema}
use Rattle.lk_objects.specs.declared.code.Code.{Code}
use Rattle.lk_objects.specs.declared.filter_text.FilterText.{FilterText}
use Rattle.lk_objects.specs.declared.field.DeclaredField.{DeclaredField}
use Rattle.lk_objects.specs.declared.field.FieldSort.{FieldSort}
use Rattle.lk_objects.specs.declared.view.DeclaredColumn.{DeclaredColumn}
use Rattle.lk_objects.specs.declared.view.Entry.{Entry}
use Rattle.lk_objects.specs.declared.view.Rows.{Rows}
use Rattle.lk_objects.specs.declared.view.Rows.TheVariants as rows
use Rattle.lk_written.specs.Blocks.{block_items, block_name}
use Rattle.lk_written.specs.Codes.{IsCode}
use Rattle.lk_written.specs.ReadFilters.{AreFilters}
use Rattle.lk_written.specs.SchemaNames.{table_number}
use Rattle.lk_written.specs.Values.{filters_at, text_at}
use Rattle.lk_view_field.specs.FieldFindings.{own_findings}
use Rattle.lk_view_field.specs.FieldValues.{sort_of}
use Rattle.lk_view_field.specs.Fields.{IsField, filters_of, frames_with, full_name, is_key_with, is_over_measures, key_text, sql_text, tiers_with}
use Rattle.lk_view.specs.DerivedTables.{IsDerived, columns_in, entries_in, source_items, source_name}
use Rattle.lk_view.specs.FieldOrder.{fields_in}
use Rattle.lk_view.specs.ViewFindings.{table_text, view_findings}
use Rattle.lk_view.specs.Views.{AreFields, AreRows, IsView}
use Rattle.lk_complete_laws.specs.Holding.{HoldsOfSome}
use Rattle.lk_complete_laws.proofs.NotNot.{of_both, of_these, of_this}
use Rattle.lk_some_reply.proofs.Parameters.{SomeCode, SomeFilters}

-- where the rows of a view come from, by the derived table that it has or has not
abbrev rows_by : Schema → List ℕ → List Item → Option Item → Rows → Type 0
rows_by schema view items None from = from ≡ rows.Stored (option_and_then (table_number schema) (table_text view items))
rows_by schema view items (Some item) (rows.Derived table) = IsDerived (block_items item) table
rows_by schema view items (Some item) (rows.Stored number) = ⊥

module _ (some_code : SomeCode) (some_filters : SomeFilters) where
  -- ---- fields

  -- a field of these parts
  field_with : (view kind name : List ℕ) (items : List Item) (sort : FieldSort) → sort ≡ sort_of kind items
      → (sql key : Code) (filters : List FilterText) → IsCode (is_over_measures sort) (sql_text sort name items) sql
      → IsCode false (key_text sort items) key → AreFilters (filters_of sort items) filters
      → (frames : List Frame) (tiers : List ℤ) (is_key : Bool) (first : Option Finding)
      → frames ≡ frames_with sort items → tiers ≡ tiers_with sort items → is_key ≡ is_key_with sort items
      → first ≡ soonest (own_findings (full_name view name) items sort sql key) → HoldsOfSome (IsField view kind name items)
  field_with view kind name items sort sort_is sql key filters sql_is key_is filters_are frames tiers is_key first frames_are tiers_are key_marked first_is =
      of_this {Holds = IsField view kind name items}
      (record { name = name; sort = sort; sql = sql; key = key; filters = filters; frames = frames; tiers = tiers; is_key = is_key; first = first })
      (record {
        name_is = refl;
        sort_is = sort_is;
        sql_is = sql_is;
        key_is = key_is;
        filters_are = filters_are;
        frames_are = frames_are;
        tiers_are = tiers_are;
        key_marked = key_marked;
        first_is = first_is;
      })

  field_of_sort : (view kind name : List ℕ) (items : List Item) (sort : FieldSort) → sort ≡ sort_of kind items → HoldsOfSome (IsField view kind name items)
  field_of_sort view kind name items sort sort_is =
      of_these {Holds = IsCode (is_over_measures sort) (sql_text sort name items)} {Fits = IsField view kind name items}
      (some_code (is_over_measures sort) (sql_text sort name items)) (λ sql sql_is.
      of_these {Holds = IsCode false (key_text sort items)} {Fits = IsField view kind name items} (some_code false (key_text sort items)) (λ key key_is.
      of_these {Holds = AreFilters (filters_of sort items)} {Fits = IsField view kind name items} (some_filters (filters_of sort items)) (λ filters filters_are.
      field_with view kind name items sort sort_is sql key filters sql_is key_is filters_are
      (frames_with sort items) (tiers_with sort items) (is_key_with sort items) (soonest (own_findings (full_name view name) items sort sql key))
      refl refl refl refl)))

  one_field : (view kind name : List ℕ) (items : List Item) → HoldsOfSome (IsField view kind name items)
  one_field view kind name items = field_of_sort view kind name items (sort_of kind items) refl

  some_fields : (view : List ℕ) (items : List Item) → HoldsOfSome (AreFields view items)
  some_fields view [] = of_this {Holds = AreFields view []} [] tt
  some_fields view (item ∷ items) =
      of_both {One = IsField view item.name (block_name item) (block_items item)} {Other = AreFields view items} {Both = AreFields view (item ∷ items)}
      (one_field view item.name (block_name item) (block_items item)) (some_fields view items) (λ f fs. f ∷ fs) (λ f fs is are. (is, are))

  -- ---- rows

  derived_with : (items : List Item) (filters : List FilterText) (explore : Option (List ℕ)) (columns : List DeclaredColumn) (datagroup : Option (List ℕ)) (entries : List Entry)
      → AreFilters (filters_at (source_items items)) filters → explore ≡ source_name items → columns ≡ columns_in (source_items items)
      → datagroup ≡ text_at (codes "datagroup_trigger") items → entries ≡ entries_in (source_items items) → HoldsOfSome (IsDerived items)
  derived_with items filters explore columns datagroup entries filters_are explore_is columns_are datagroup_is entries_are =
      of_this {Holds = IsDerived items} (record { explore = explore; columns = columns; filters = filters; datagroup = datagroup; entries = entries })
      (record { explore_is = explore_is; columns_are = columns_are; filters_are = filters_are; datagroup_is = datagroup_is; entries_are = entries_are })

  derived : (items : List Item) → HoldsOfSome (IsDerived items)
  derived items =
      of_these {Holds = AreFilters (filters_at (source_items items))} {Fits = IsDerived items} (some_filters (filters_at (source_items items))) (λ filters filters_are.
      derived_with items filters (source_name items) (columns_in (source_items items)) (text_at (codes "datagroup_trigger") items) (entries_in (source_items items))
      filters_are refl refl refl refl)

  some_rows_by : (schema : Schema) (view : List ℕ) (items : List Item) (o : Option Item) → HoldsOfSome (rows_by schema view items o)
  some_rows_by schema view items None = of_this {Holds = rows_by schema view items None} (rows.Stored (option_and_then (table_number schema) (table_text view items))) refl
  some_rows_by schema view items (Some item) =
      of_these {Holds = IsDerived (block_items item)} {Fits = rows_by schema view items (Some item)} (derived (block_items item)) (λ table is.
      of_this {Holds = rows_by schema view items (Some item)} (rows.Derived table) is)

  some_rows : (schema : Schema) (view : List ℕ) (items : List Item) → HoldsOfSome (AreRows schema view items)
  some_rows schema view items = some_rows_by schema view items (last_named (codes "derived_table") items)

  -- ---- views

  view_with : (schema : Schema) (view : List ℕ) (items : List Item) (fields : List DeclaredField) (from : Rows) (first : Option Finding)
      → AreFields view (fields_in items) fields → AreRows schema view items from → first ≡ soonest (view_findings schema view items)
      → HoldsOfSome (IsView schema view items)
  view_with schema view items fields from first fields_are rows_are first_is =
      of_this {Holds = IsView schema view items} (record { name = view; fields = fields; rows = from; first = first })
      (record { name_is = refl; fields_are = fields_are; rows_are = rows_are; first_is = first_is })

  pub one_view : (schema : Schema) (view : List ℕ) (items : List Item) → HoldsOfSome (IsView schema view items)
  one_view schema view items =
      of_these {Holds = AreFields view (fields_in items)} {Fits = IsView schema view items} (some_fields view (fields_in items)) (λ fields fields_are.
      of_these {Holds = AreRows schema view items} {Fits = IsView schema view items} (some_rows schema view items) (λ from rows_are.
      view_with schema view items fields from (soonest (view_findings schema view items)) fields_are rows_are refl))
