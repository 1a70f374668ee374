-- What the views of a project without a fault have: rows that are there, right codes, and sources that there are.
use Rattle.std.proofs.Common.{◌≡◌, ◌∙◌, ℕ, ◌+◌, Bool, true, false, List, [], ◌∷◌, ◌++◌, refl, ap, sym, subst, Option, Some, None}
use Rattle.std.specs.Prelude.{codes, if◌then◌else◌, is_some, not}
use Rattle.std.specs.List.{AllByRecursion}
use Rattle.std.specs.Option.{option_and_then}
use Rattle.std.proofs.lemmas.Bool.{false≢true}
use Rattle.lk_val.specs.Texts.{is_same_text}
use Rattle.lk_read.specs.declared.tree.Item.{Item}
use Rattle.lk_read.specs.declared.tree.Node.{Node}
use Rattle.lk_read.specs.declared.tree.Node.TheVariants as node
use Rattle.lk_types.specs.declared.schema.Schema.{Schema}
use Rattle.lk_types.specs.declared.schema.TableDef.{TableDef}
use Rattle.lk_params.specs.declared.number.Order.TheVariants as order
use Rattle.lk_params.specs.declared.owner.Owner.TheVariants as owner
use Rattle.lk_params.specs.Known.{item_findings}
use Rattle.lk_params.specs.Parameters.{is_named, items_of, last_named}
use Rattle.lk_params.specs.Values.{code, title_of}
use Rattle.lk_objects.specs.declared.explore.DeclaredExplore.{DeclaredExplore}
use Rattle.lk_objects.specs.declared.field.DeclaredField.{DeclaredField}
use Rattle.lk_objects.specs.declared.view.Declared.{Declared}
use Rattle.lk_objects.specs.declared.view.DeclaredView.{DeclaredView}
use Rattle.lk_objects.specs.declared.view.DerivedTable.{DerivedTable}
use Rattle.lk_objects.specs.declared.view.Rows.{Rows}
use Rattle.lk_objects.specs.declared.view.Rows.TheVariants as rows
use Rattle.lk_merge.specs.declared.project.Object.{Object}
use Rattle.lk_written.specs.Blocks.{block_items, block_name, is_named_block}
use Rattle.lk_written.specs.SchemaNames.{table_number}
use Rattle.lk_written.specs.Values.{is_missing}
use Rattle.lk_view_field.specs.Fields.{IsField, is_over_measures, key_text, sql_text}
use Rattle.lk_view.specs.DerivedTables.{IsDerived, source_name}
use Rattle.lk_view.specs.FieldOrder.{fields_in}
use Rattle.lk_view.specs.Tables.{table_named}
use Rattle.lk_view.specs.ViewFindings as view
use Rattle.lk_view.specs.ViewFindings.{derived_at, derived_findings, item_by_item, table_findings, table_item_findings, table_text, value_findings, within, wrong_within}
use Rattle.lk_view.specs.Views.{AreFields, AreRows, IsView}
use Rattle.lk_scope.specs.Scopes.{explore_named}
use Rattle.lk_explore_faults.specs.ViewFaults as faults
use Rattle.lk_explore_faults.specs.ViewFaults.{key_findings, view_fault}
use Rattle.lk_explore_faults.specs.StoredQueries.{datagroup_findings}
use Rattle.lk_resolve.specs.Objects.{AreViews}
use Rattle.lk_model_laws.proofs.CodeLaws.{IsRightCode, code_right}
use Rattle.lk_model_laws.proofs.ListLaws.{all_last, position_within}
use Rattle.lk_model_laws.proofs.ModelNumberLaws.{HaveKnownSource, IsKnownSource}
use Rattle.lk_model_laws.proofs.PartLaws.{AreKnownRows}
use Rattle.lk_model_laws.proofs.PieceLaws.{EachFrom, nil_along, nil_left, nil_right, none_lined, none_soonest, not_so, some_none}
use Rattle.lk_model_laws.proofs.TextLaws.{same_exact}

-- ---- parameters

-- the last of a name has the name, and all that holds of each
pub last_holds : (P : Item → Type 0) (name : List ℕ) (items : List Item) (item : Item) → AllByRecursion P items → last_named name items ≡ Some item → P item × (item.name ≡ name)
last_holds P name items item each at =
    let found = all_last P (is_named name) items each item at in
    (found.0, same_exact item.name name found.1)

pub not_false : (b : Bool) → not b ≡ false → b ≡ true
not_false true h = refl
not_false false h = absurd (false≢true (sym h))

pub some_of : {A : Type 0} (o : Option A) → is_some o ≡ true → (x : A) × (o ≡ Some x)
some_of None h = absurd (false≢true h)
some_of (Some x) h = (x, refl)

pub nil_no : {A : Type 0} (x : A) (xs : List A) → x ∷ xs ≡ [] → ⊥
nil_no x xs h = cc

-- a finding is left out where a test passes
unless_none : {A : Type 0} (b : Bool) (x : A) → (if b then [] else x ∷ []) ≡ [] → b ≡ true
unless_none true x h = refl
unless_none false x h = absurd (nil_no x [] h)

-- ---- stored rows

module _ (schema : Schema) (name : List ℕ) (items : List Item) (none : view.view_findings schema name items ≡ []) where
  each_item : AllByRecursion (λ item. (front : List Item) × (item_findings order.Object owner.View name None front item ++ value_findings name item ≡ [])) items
  each_item =
      nil_along (λ before item. item_findings order.Object owner.View name None before item ++ value_findings name item) [] items
      (nil_left (item_by_item name [] items) (table_findings schema name items) none)

  -- what the value of a parameter that counts shows
  pub last_value : (parameter : List ℕ) (item : Item) → last_named parameter items ≡ Some item → (value_findings name item ≡ []) × (item.name ≡ parameter)
  last_value parameter item at =
      let found = last_holds (λ i. (front : List Item) × (item_findings order.Object owner.View name None front i ++ value_findings name i ≡ [])) parameter items item each_item at in
      (nil_right (item_findings order.Object owner.View name None found.0.0 item) (value_findings name item) found.0.1, found.1)

  table_value : (item : Item) → item.name ≡ codes "sql_table_name" → value_findings name item ≡ [] → is_some (option_and_then table_named (code item.value)) ≡ true
  table_value item is h = not_false (is_some (option_and_then table_named (code item.value))) (not_so (not (is_some (option_and_then table_named (code item.value)))) _ (rw is at h))

  -- the table has a name
  text_given : (text : List ℕ) × (table_text name items ≡ Some text)
  text_given = of_item (last_named (codes "sql_table_name") items) refl
    where
      of_item : (o : Option Item) → last_named (codes "sql_table_name") items ≡ o → (text : List ℕ) × (table_text name items ≡ Some text)
      of_item None at = (name, rw at refl)
      of_item (Some item) at =
          let value = last_value (codes "sql_table_name") item at in
          let given = some_of (option_and_then table_named (code item.value)) (table_value item value.1 value.0) in
          (given.0, rw at given.1)

  no_missing : last_named (codes "derived_table") items ≡ None → (text : List ℕ) → table_text name items ≡ Some text → is_some (table_number schema text) ≡ true
  no_missing stored text given =
      let found : table_findings schema name items ≡ [] = nil_right (item_by_item name [] items) (table_findings schema name items) none in
      unless_none (is_some (table_number schema text)) _ (rw (stored, given) at found)

  pub known_rows : (from : Rows) → AreRows schema name items from → AreKnownRows schema from
  known_rows (rows.Derived table) h = tt
  known_rows (rows.Stored number) h = of_item (last_named (codes "derived_table") items) refl
    where
      numbered : (o : Option ℕ) → option_and_then (table_number schema) (table_text name items) ≡ o → last_named (codes "derived_table") items ≡ None → AreKnownRows schema (rows.Stored o)
      numbered None at stored =
          let text = text_given in
          let number = some_of (table_number schema text.0) (no_missing stored text.0 text.1) in
          absurd (some_none (sym number.1 ∙ sym (ap (option_and_then (table_number schema)) text.1) ∙ at))
      numbered (Some t) at stored =
          position_within (λ (table : TableDef). is_same_text table.name text_given.0) schema.tables t (sym (ap (option_and_then (table_number schema)) text_given.1) ∙ at)

      of_item : (o : Option Item) → last_named (codes "derived_table") items ≡ o → AreKnownRows schema (rows.Stored number)
      of_item None at =
          let is : rows.Stored number ≡ rows.Stored (option_and_then (table_number schema) (table_text name items)) = rw at at h in
          subst (AreKnownRows schema) (sym is) (numbered (option_and_then (table_number schema) (table_text name items)) refl at)
      of_item (Some item) at = absurd (rw at at h)

-- ---- the source of a derived table

table_block : (name : List ℕ) (value : Node) → derived_findings name value ≡ [] → (outline : _) × (value ≡ node.Block None outline)
table_block name (node.Block None outline) h = (outline, refl)
table_block name (node.Block (Some title) outline) h = absurd (nil_no _ [] h)
table_block name (node.Word text) h = absurd (nil_no _ [] h)
table_block name (node.Quoted text) h = absurd (nil_no _ [] h)
table_block name (node.List entries) h = absurd (nil_no _ [] h)
table_block name (node.Code text) h = absurd (nil_no _ [] h)

named_title : (value : Node) → is_named_block value ≡ true → (title : List ℕ) × (title_of value ≡ Some title)
named_title (node.Block (Some title) outline) h = (title, refl)
named_title (node.Block None outline) h = absurd (false≢true h)
named_title (node.Word text) h = absurd (false≢true h)
named_title (node.Quoted text) h = absurd (false≢true h)
named_title (node.List entries) h = absurd (false≢true h)
named_title (node.Code text) h = absurd (false≢true h)

if_none : {A : Type 0} (b : Bool) (xs : List A) (y : A) → (if b then xs else y ∷ []) ≡ [] → b ≡ true
if_none true xs y h = refl
if_none false xs y h = absurd (nil_no y [] h)

module _ (name : List ℕ) where
  source_block : (item : Item) → item.name ≡ codes "explore_source" → table_item_findings name item ≡ [] → is_named_block item.value ≡ true
  source_block item is h = if_none (is_named_block item.value) _ _ (rw is at h)

  given_source : (items : List Item) → within owner.DerivedTable name (table_item_findings name) items ≡ [] → (item : Item) → last_named (codes "explore_source") items ≡ Some item
      → (title : List ℕ) × (source_name items ≡ Some title)
  given_source items h item at =
      let each = nil_along (λ before i. item_findings order.Object owner.DerivedTable name (Some derived_at) before i ++ table_item_findings name i) [] items h in
      let found = last_holds (λ i. (front : List Item) × (item_findings order.Object owner.DerivedTable name (Some derived_at) front i ++ table_item_findings name i ≡ [])) (codes "explore_source") items item each at in
      let block = source_block item found.1 (nil_right (item_findings order.Object owner.DerivedTable name (Some derived_at) found.0.0 item) (table_item_findings name item) found.0.1) in
      let title = named_title item.value block in
      (title.0, ap (option_and_then (λ (i : Item). title_of i.value)) at ∙ title.1)

  -- a derived table without a fault names its source
  pub source_given : (value : Node) (item : Item) → item.value ≡ value → derived_findings name value ≡ [] → (title : List ℕ) × (source_name (block_items item) ≡ Some title)
  source_given (node.Block None outline) item is h =
      let items = items_of outline in
      let missing = is_missing (codes "explore_source") items in
      let last = some_of (last_named (codes "explore_source") items)
      (not_false (is_some (last_named (codes "explore_source") items)) (not_so missing _ (nil_right (within owner.DerivedTable name (table_item_findings name) items) (wrong_within name (codes "explore_source") missing) h))) in
      let title = given_source items (nil_left (within owner.DerivedTable name (table_item_findings name) items) (wrong_within name (codes "explore_source") missing) h) last.0 last.1 in
      let inner : block_items item ≡ items = rw is refl in
      (title.0, ap source_name inner ∙ title.1)
  source_given (node.Block (Some title) outline) item is h = absurd (nil_no _ [] h)
  source_given (node.Word text) item is h = absurd (nil_no _ [] h)
  source_given (node.Quoted text) item is h = absurd (nil_no _ [] h)
  source_given (node.List entries) item is h = absurd (nil_no _ [] h)
  source_given (node.Code text) item is h = absurd (nil_no _ [] h)

derived_value : (name : List ℕ) (item : Item) → item.name ≡ codes "derived_table" → value_findings name item ≡ [] → derived_findings name item.value ≡ []
derived_value name item is h = rw is at h

-- ---- views

module _ (schema : Schema) (declared : Declared) where
  found_source : (object : List ℕ) (table : DerivedTable) (name : List ℕ) → table.explore ≡ Some name
      → faults.named_findings declared object derived_at table (Some name) ≡ [] → (x : DeclaredExplore) × (explore_named declared.explores name ≡ Some x)
  found_source object table name is h = of_explore (explore_named declared.explores name) refl
    where
      of_explore : (o : Option DeclaredExplore) → explore_named declared.explores name ≡ o → (x : DeclaredExplore) × (explore_named declared.explores name ≡ Some x)
      of_explore None at = absurd (nil_no _ [] (rw at at h))
      of_explore (Some x) at = (x, at)

  known_source : (name : List ℕ) (items : List Item) → view.view_findings schema name items ≡ [] → (from : Rows) → AreRows schema name items from
      → faults.derived_findings declared name derived_at from ≡ [] → HaveKnownSource declared from
  known_source name items none (rows.Stored number) h found = tt
  known_source name items none (rows.Derived table) h found = of_item (last_named (codes "derived_table") items) refl
    where
      of_item : (o : Option Item) → last_named (codes "derived_table") items ≡ o → IsKnownSource declared table
      of_item None at = absurd (no_stored (rw at at h))
        where
          no_stored : rows.Derived table ≡ rows.Stored (option_and_then (table_number schema) (table_text name items)) → ⊥
          no_stored e = cc
      of_item (Some item) at =
          let is : IsDerived (block_items item) table = rw at at h in
          let value = last_value schema name items none (codes "derived_table") item at in
          let title = source_given name item.value item refl (derived_value name item value.1 value.0) in
          let named : table.explore ≡ Some title.0 = is.explore_is ∙ title.1 in
          let names : faults.named_findings declared name derived_at table (Some title.0) ≡ [] =
          ap (faults.named_findings declared name derived_at table) (sym named)
          ∙ nil_right (datagroup_findings declared.datagroups name derived_at table.datagroup) (faults.named_findings declared name derived_at table table.explore) found in
          let source = found_source name table title.0 named names in
          record { name = title.0; named = named; source = source.0; found = source.1 }

  -- a view without a fault
  pub record IsRightView (v : DeclaredView) : Type 0 where
    pub known : AreKnownRows schema v.rows
    pub source : HaveKnownSource declared v.rows

  right_view : (name : List ℕ) (items : List Item) (v : DeclaredView) → IsView schema name items v → view_fault declared v ≡ None → IsRightView v
  right_view name items v is h =
      let parts = none_lined v.first (faults.view_findings declared v) h in
      let none = none_soonest (view.view_findings schema name items) (sym is.first_is ∙ parts.0) in
      let derived : faults.derived_findings declared v.name derived_at v.rows ≡ [] = nil_right (key_findings v) (faults.derived_findings declared v.name derived_at v.rows) parts.1 in
      record {
        known = known_rows schema name items none v.rows is.rows_are;
        source = known_source name items none v.rows is.rows_are (ap (λ n. faults.derived_findings declared n derived_at v.rows) (sym is.name_is) ∙ derived);
      }

  -- all views without a fault
  pub right_views : (P : ℕ → DeclaredView → Type 0) (n : ℕ) (objects : List Object) (views : List DeclaredView) → AreViews schema objects views
      → EachFrom (λ k v. (view_fault declared v ≡ None) × P k v) n views → AllByRecursion IsRightView views
  right_views P n [] [] h fine = tt
  right_views P n [] (v ∷ views) h fine = absurd h
  right_views P n (o ∷ objects) [] h fine = absurd h
  right_views P n (o ∷ objects) (v ∷ views) h fine = (right_view o.name (items_of o.tree) v h.0 fine.0.0, right_views P (n + 1) objects views h.1 fine.1)

-- ---- fields

abbrev pub AreRightCodes : DeclaredField → Type 0
AreRightCodes field = IsRightCode field.sql × IsRightCode field.key

right_field : (name kind own : List ℕ) (items : List Item) (field : DeclaredField) → IsField name kind own items field → AreRightCodes field
right_field name kind own items field is =
    (code_right (is_over_measures field.sort) (sql_text field.sort own items) field.sql is.sql_is, code_right false (key_text field.sort items) field.key is.key_is)

right_fields : (name : List ℕ) (items : List Item) (fields : List DeclaredField) → AreFields name items fields → AllByRecursion AreRightCodes fields
right_fields name [] [] h = tt
right_fields name [] (f ∷ fields) h = absurd h
right_fields name (item ∷ items) [] h = absurd h
right_fields name (item ∷ items) (f ∷ fields) h = (right_field name item.name (block_name item) (block_items item) f h.0, right_fields name items fields h.1)

-- the codes of all views
pub right_codes : (schema : Schema) (objects : List Object) (views : List DeclaredView) → AreViews schema objects views → AllByRecursion (λ v. AllByRecursion AreRightCodes v.fields) views
right_codes schema [] [] h = tt
right_codes schema [] (v ∷ views) h = absurd h
right_codes schema (o ∷ objects) [] h = absurd h
right_codes schema (o ∷ objects) (v ∷ views) h = (right_fields o.name (fields_in (items_of o.tree)) v.fields h.0.fields_are, right_codes schema objects views h.1)
