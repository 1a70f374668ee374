-- Objects that are what the same parameters say are equal, given that texts say one thing.
use Rattle.std.proofs.Common.{◌≡◌, ◌∙◌, ℕ, Bool, false, List, [], ◌∷◌, refl, sym, ap, subst}
use Rattle.std.specs.Prelude.{Option, Some, None, codes}
use Rattle.std.specs.Option.{option_and_then}
use Rattle.lk_read.specs.declared.tree.Item.{Item}
use Rattle.lk_params.specs.Findings.{soonest}
use Rattle.lk_params.specs.Parameters.{last_named}
use Rattle.lk_types.specs.declared.schema.Schema.{Schema}
use Rattle.lk_objects.specs.declared.code.Code.{Code}
use Rattle.lk_objects.specs.declared.filter_text.FilterText.{FilterText}
use Rattle.lk_objects.specs.declared.field.DeclaredField.{DeclaredField}
use Rattle.lk_objects.specs.declared.view.DeclaredView.{DeclaredView}
use Rattle.lk_objects.specs.declared.view.DerivedTable.{DerivedTable}
use Rattle.lk_objects.specs.declared.view.Rows.{Rows}
use Rattle.lk_objects.specs.declared.view.Rows.TheVariants as rows
use Rattle.lk_written.specs.Blocks.{block_items, block_name}
use Rattle.lk_written.specs.Codes.{IsCode}
use Rattle.lk_written.specs.ReadFilters.{AreFilters}
use Rattle.lk_view_field.specs.FieldFindings.{own_findings}
use Rattle.lk_view_field.specs.Fields.{IsField, filters_of, frames_with, full_name, is_key_with, is_over_measures, key_text, sql_text, tiers_with}
use Rattle.lk_view.specs.DerivedTables.{IsDerived}
use Rattle.lk_view.specs.FieldOrder.{fields_in}
use Rattle.lk_view.specs.ViewFindings.{table_text}
use Rattle.lk_written.specs.SchemaNames.{table_number}
use Rattle.lk_view.specs.Views.{AreFields, AreRows, IsView}

-- codes and filters are one
abbrev pub OneCode : Type 0
OneCode = (over_measures : Bool) (text : Option (List ℕ)) (c d : Code) → IsCode over_measures text c → IsCode over_measures text d → c ≡ d

abbrev pub OneFilters : Type 0
OneFilters = (pairs : List (List ℕ × List ℕ)) (fs gs : List FilterText) → AreFilters pairs fs → AreFilters pairs gs → fs ≡ gs

-- where the rows of a view come from, by the derived table that it has or has not
abbrev rows_by : Schema → List ℕ → List Item → Option Item → Rows → Type 0
rows_by schema view items None from = from ≡ rows.Stored (option_and_then (table_number schema) (table_text view items))
rows_by schema view items (Some item) (rows.Derived table) = IsDerived (block_items item) table
rows_by schema view items (Some item) (rows.Stored number) = ⊥

module _ (one_code : OneCode) (one_filters : OneFilters) where
  -- ---- fields

  pub one_field : (view kind name : List ℕ) (items : List Item) (f g : DeclaredField) → IsField view kind name items f → IsField view kind name items g → f ≡ g
  one_field view kind name items f g h k =
      let sort : f.sort ≡ g.sort = h.sort_is ∙ sym k.sort_is in
      let sql : f.sql ≡ g.sql =
      one_code (is_over_measures f.sort) (sql_text f.sort name items) f.sql g.sql h.sql_is
      (subst (λ s. IsCode (is_over_measures s) (sql_text s name items) g.sql) (sym sort) k.sql_is) in
      let key : f.key ≡ g.key =
      one_code false (key_text f.sort items) f.key g.key h.key_is (subst (λ s. IsCode false (key_text s items) g.key) (sym sort) k.key_is) in
      let filters : f.filters ≡ g.filters =
      one_filters (filters_of f.sort items) f.filters g.filters h.filters_are (subst (λ s. AreFilters (filters_of s items) g.filters) (sym sort) k.filters_are) in
      let name_is : f.name ≡ g.name = h.name_is ∙ sym k.name_is in
      let frames : f.frames ≡ g.frames = h.frames_are ∙ ap (λ s. frames_with s items) sort ∙ sym k.frames_are in
      let tiers : f.tiers ≡ g.tiers = h.tiers_are ∙ ap (λ s. tiers_with s items) sort ∙ sym k.tiers_are in
      let marked : f.is_key ≡ g.is_key = h.key_marked ∙ ap (λ s. is_key_with s items) sort ∙ sym k.key_marked in
      let findings : soonest (own_findings (full_name view name) items f.sort f.sql f.key) ≡ soonest (own_findings (full_name view name) items g.sort g.sql g.key) =
      (λ i. soonest (own_findings (full_name view name) items (sort i) (sql i) (key i))) in
      let first : f.first ≡ g.first = h.first_is ∙ findings ∙ sym k.first_is in
      (λ i. record {
        name = name_is i;
        sort = sort i;
        sql = sql i;
        key = key i;
        filters = filters i;
        frames = frames i;
        tiers = tiers i;
        is_key = marked i;
        first = first i;
      })

  pub one_fields : (view : List ℕ) (items : List Item) (fs gs : List DeclaredField) → AreFields view items fs → AreFields view items gs → fs ≡ gs
  one_fields view [] [] [] h k = refl
  one_fields view [] [] (g ∷ gs) h k = absurd k
  one_fields view [] (f ∷ fs) gs h k = absurd h
  one_fields view (item ∷ items) [] gs h k = absurd h
  one_fields view (item ∷ items) (f ∷ fs) [] h k = absurd k
  one_fields view (item ∷ items) (f ∷ fs) (g ∷ gs) h k =
      let head = one_field view item.name (block_name item) (block_items item) f g h.0 k.0 in
      let tail = one_fields view items fs gs h.1 k.1 in
      (λ i. head i ∷ tail i)

  -- ---- views

  one_derived : (items : List Item) (t u : DerivedTable) → IsDerived items t → IsDerived items u → t ≡ u
  one_derived items t u h k =
      let explore : t.explore ≡ u.explore = h.explore_is ∙ sym k.explore_is in
      let columns : t.columns ≡ u.columns = h.columns_are ∙ sym k.columns_are in
      let filters : t.filters ≡ u.filters = one_filters _ t.filters u.filters h.filters_are k.filters_are in
      let datagroup : t.datagroup ≡ u.datagroup = h.datagroup_is ∙ sym k.datagroup_is in
      let entries : t.entries ≡ u.entries = h.entries_are ∙ sym k.entries_are in
      (λ i. record { explore = explore i; columns = columns i; filters = filters i; datagroup = datagroup i; entries = entries i })

  by_rows : (schema : Schema) (view : List ℕ) (items : List Item) (o : Option Item) (r s : Rows)
      → rows_by schema view items o r → rows_by schema view items o s → r ≡ s
  by_rows schema view items None r s h k = h ∙ sym k
  by_rows schema view items (Some item) (rows.Derived t) (rows.Derived u) h k = ap (λ d. rows.Derived d) (one_derived (block_items item) t u h k)
  by_rows schema view items (Some item) (rows.Derived t) (rows.Stored n) h k = absurd k
  by_rows schema view items (Some item) (rows.Stored m) s h k = absurd h

  one_rows : (schema : Schema) (view : List ℕ) (items : List Item) (r s : Rows) → AreRows schema view items r → AreRows schema view items s → r ≡ s
  one_rows schema view items r s h k = by_rows schema view items (last_named (codes "derived_table") items) r s h k

  pub one_view : (schema : Schema) (view : List ℕ) (items : List Item) (v w : DeclaredView) → IsView schema view items v → IsView schema view items w → v ≡ w
  one_view schema view items v w h k =
      let name : v.name ≡ w.name = h.name_is ∙ sym k.name_is in
      let fields : v.fields ≡ w.fields = one_fields view (fields_in items) v.fields w.fields h.fields_are k.fields_are in
      let rows_are : v.rows ≡ w.rows = one_rows schema view items v.rows w.rows h.rows_are k.rows_are in
      let first : v.first ≡ w.first = h.first_is ∙ sym k.first_is in
      (λ i. record { name = name i; fields = fields i; rows = rows_are i; first = first i })
