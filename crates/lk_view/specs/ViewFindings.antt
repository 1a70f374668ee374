-- The faults of a view that its own parameters show, those of its fields aside. (lookd)
use Rattle.std.specs.Prelude.{ℕ, Bool, true, false, not, ◌||◌, ◌&&◌, if◌then◌else◌, List, [], ◌∷◌, ◌++◌, Option, Some, None, is_some, codes}
use Rattle.std.specs.Option.{option_and_then}
use Rattle.lk_val.specs.Texts.{is_same_text}
use Rattle.lk_read.specs.declared.tree.Item.{Item}
use Rattle.lk_read.specs.declared.tree.Node.{Node}
use Rattle.lk_read.specs.declared.tree.Node.TheVariants as node
use Rattle.lk_types.specs.declared.schema.Schema.{Schema}
use Rattle.lk_params.specs.declared.owner.Owner.{Owner}
use Rattle.lk_params.specs.declared.owner.Owner.TheVariants as owner
use Rattle.lk_params.specs.declared.number.Order.TheVariants as order
use Rattle.lk_params.specs.declared.number.Number.TheVariants.{N4}
use Rattle.lk_params.specs.declared.finding.Finding.{Finding}
use Rattle.lk_params.specs.Findings.{finding, named_line}
use Rattle.lk_params.specs.Known.{along, item_findings}
use Rattle.lk_params.specs.Parameters.{items_of, last_named}
use Rattle.lk_params.specs.Values.{code, scalar, words}
use Rattle.lk_written.specs.Values.{is_missing, is_no_truth, is_text}
use Rattle.lk_written.specs.SchemaNames.{table_number}
use Rattle.lk_written.specs.ValueFindings.{wrong}
use Rattle.lk_written.specs.FilterFindings.{filters_findings}
use Rattle.lk_written.specs.Blocks.{block_items, is_named_block}
use Rattle.lk_view.specs.Tables.{table_named}

-- ---- the stored table

-- the name of a view's table: that of `sql_table_name`, and else the view's own; none where the text is no table's
abbrev pub table_text : List ℕ → List Item → Option (List ℕ)
table_text view items = named_by (last_named (codes "sql_table_name") items) where
  named_by : Option Item → Option (List ℕ)
  named_by None = Some view
  named_by (Some item) = option_and_then table_named (code item.value)

abbrev pub is_derived : List Item → Bool
is_derived items = is_some (last_named (codes "derived_table") items)

-- a table that the schema lacks, where the view has no derived table
abbrev pub table_findings : Schema → List ℕ → List Item → List Finding
table_findings schema view items = if is_derived items then [] else missing (table_text view items) where
  missing : Option (List ℕ) → List Finding
  missing None = []
  missing (Some name) =
      if is_some (table_number schema name) then []
      else finding order.Object N4 (codes "sql_table_name") (named_line N4 view name) ∷ []

-- ---- a derived table, whose findings all stand at `derived_table` and go from left to right

abbrev pub derived_at : List ℕ
derived_at = codes "derived_table"

-- a value outside the profile within the derived table
abbrev pub wrong_within : List ℕ → List ℕ → Bool → List Finding
wrong_within view parameter so = wrong order.Object view derived_at parameter so

-- a block within: at each parameter what it shows by itself, and then what its value shows
abbrev pub within_from : Owner → List ℕ → (Item → List Finding) → List Item → List Item → List Finding
within_from o view inside before items =
    along (λ before item. item_findings order.Object o view (Some derived_at) before item ++ inside item) before items

abbrev pub within : Owner → List ℕ → (Item → List Finding) → List Item → List Finding
within o view inside items = within_from o view inside [] items

-- a column's `field` that is no word or string
abbrev pub field_findings : List ℕ → Item → List Finding
field_findings view item =
    wrong_within view (codes "field") (is_same_text item.name (codes "field") && not (is_some (scalar item.value)))

-- a column that is no block with a name, or what stands wrong in it; filters that are none
abbrev pub source_findings : List ℕ → Item → List Finding
source_findings view item =
    if is_same_text item.name (codes "column") then
    (if is_named_block item.value then within owner.Column view (field_findings view) (block_items item)
    else wrong_within view (codes "column") true)
    else filters_findings order.Object view derived_at (item ∷ [])

-- a source that is no block with a name, or what stands wrong in it; a datagroup that is no name
abbrev pub table_item_findings : List ℕ → Item → List Finding
table_item_findings view item =
    if is_same_text item.name (codes "explore_source") then
    (if is_named_block item.value then within owner.ExploreSource view (source_findings view) (block_items item)
    else wrong_within view (codes "explore_source") true)
    else wrong_within view (codes "datagroup_trigger")
    (is_same_text item.name (codes "datagroup_trigger") && not (is_some (scalar item.value)))

-- a derived table that is no block, or what stands wrong in it, and then a missing source
abbrev pub derived_findings : List ℕ → Node → List Finding
derived_findings view (node.Block None outline) =
    within owner.DerivedTable view (table_item_findings view) (items_of outline)
    ++ wrong_within view (codes "explore_source") (is_missing (codes "explore_source") (items_of outline))
derived_findings view value = wrong_within view derived_at true

-- ---- the view

-- the kinds of fields
abbrev pub is_field_kind : List ℕ → Bool
is_field_kind name =
    is_same_text name (codes "dimension") || is_same_text name (codes "dimension_group") || is_same_text name (codes "measure")

-- the value of a parameter of the view is outside the profile
abbrev pub is_wrong_value : Item → Bool
is_wrong_value item =
    if is_same_text item.name (codes "sql_table_name") then not (is_some (option_and_then table_named (code item.value)))
    else if is_field_kind item.name then not (is_named_block item.value)
    else if is_same_text item.name (codes "extends") then not (is_some (words item.value))
    else if is_same_text item.name (codes "extension") then not (is_text (codes "required") (scalar item.value))
    else if is_same_text item.name (codes "final") then is_no_truth (scalar item.value)
    else false

abbrev pub value_findings : List ℕ → Item → List Finding
value_findings view item =
    if is_same_text item.name derived_at then derived_findings view item.value
    else wrong order.Object view item.name item.name (is_wrong_value item)

-- at each parameter what it shows by itself, and then what its value shows, so that repeated ones are tested in their order
abbrev pub item_by_item : List ℕ → List Item → List Item → List Finding
item_by_item view before items =
    along (λ before item. item_findings order.Object owner.View view None before item ++ value_findings view item) before items

-- all that a view's own parameters show
abbrev pub view_findings : Schema → List ℕ → List Item → List Finding
view_findings schema view items = item_by_item view [] items ++ table_findings schema view items
