-- What the declaration of a view says. (Looker, LookML reference: view)
use Rattle.std.specs.Prelude.{◌≡◌, ℕ, List, [], ◌∷◌, Option, Some, None, codes}
use Rattle.std.specs.Option.{option_and_then}
use Rattle.lk_read.specs.declared.tree.Item.{Item}
use Rattle.lk_types.specs.declared.schema.Schema.{Schema}
use Rattle.lk_objects.specs.declared.field.DeclaredField.{DeclaredField}
use Rattle.lk_objects.specs.declared.view.DeclaredView.{DeclaredView}
use Rattle.lk_objects.specs.declared.view.Rows.{Rows}
use Rattle.lk_objects.specs.declared.view.Rows.TheVariants as rows
use Rattle.lk_params.specs.Findings.{soonest}
use Rattle.lk_params.specs.Parameters.{last_named}
use Rattle.lk_written.specs.Blocks.{block_items, block_name}
use Rattle.lk_written.specs.SchemaNames.{table_number}
use Rattle.lk_view.specs.DerivedTables.{IsDerived}
use Rattle.lk_view.specs.FieldOrder.{fields_in}
use Rattle.lk_view_field.specs.Fields.{IsField}
use Rattle.lk_view.specs.ViewFindings.{table_text, view_findings}

-- each field is what its block says
abbrev pub AreFields : List ℕ → List Item → List DeclaredField → Type 0
AreFields view [] [] = Unit {0}
AreFields view (item ∷ items) (field ∷ fields) =
    IsField view item.name (block_name item) (block_items item) field × AreFields view items fields
AreFields view items fields = ⊥

-- where the rows come from: the derived table where there is one, and else the stored table
abbrev pub AreRows : Schema → List ℕ → List Item → Rows → Type 0
AreRows schema view items from = by (last_named (codes "derived_table") items) from where
  by : Option Item → Rows → Type 0
  by None from = from ≡ rows.Stored (option_and_then (table_number schema) (table_text view items))
  by (Some item) (rows.Derived table) = IsDerived (block_items item) table
  by (Some item) (rows.Stored number) = ⊥

-- the view is what its declaration says
pub record IsView (schema : Schema) (view : List ℕ) (items : List Item) (v : DeclaredView) : Type 0 where
  pub name_is : v.name ≡ view
  pub fields_are : AreFields view (fields_in items) v.fields
  pub rows_are : AreRows schema view items v.rows
  pub first_is : v.first ≡ soonest (view_findings schema view items)
