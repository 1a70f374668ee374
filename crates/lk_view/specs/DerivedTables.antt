-- What a native derived table says. (Looker, LookML reference: derived_table, explore_source, column)
use Rattle.std.specs.Prelude.{◌≡◌, ℕ, Bool, ◌&&◌, if◌then◌else◌, List, [], ◌∷◌, ◌++◌, map, length, Option, Some, None, codes}
use Rattle.std.specs.List.{filter, list_any}
use Rattle.std.specs.Option.{option_and_then, option_or}
use Rattle.lk_val.specs.Texts.{is_same_text}
use Rattle.lk_read.specs.declared.tree.Item.{Item}
use Rattle.lk_objects.specs.declared.view.DerivedTable.{DerivedTable}
use Rattle.lk_objects.specs.declared.view.DeclaredColumn.{DeclaredColumn}
use Rattle.lk_objects.specs.declared.view.Entry.{Entry}
use Rattle.lk_objects.specs.declared.view.Entry.TheVariants as entry
use Rattle.lk_params.specs.Parameters.{last_named}
use Rattle.lk_params.specs.Picking.{firsts}
use Rattle.lk_params.specs.Values.{scalar, title_of}
use Rattle.lk_written.specs.Values.{text_at, filters_at}
use Rattle.lk_written.specs.Entries.{filter_entries}
use Rattle.lk_written.specs.ReadFilters.{AreFilters}
use Rattle.lk_written.specs.Blocks.{block_items, block_name, is_block_of}

-- ---- the source

-- the explore that a derived table is made from, by the parameters of the table
abbrev pub source_name : List Item → Option (List ℕ)
source_name items = option_and_then (λ item. title_of item.value) (last_named (codes "explore_source") items)

-- the parameters of the source
abbrev pub source_items : List Item → List Item
source_items items = inner (last_named (codes "explore_source") items) where
  inner : Option Item → List Item
  inner None = []
  inner (Some item) = block_items item

-- ---- columns, by the parameters of the source

abbrev pub is_column : Item → Bool
is_column item = is_block_of (codes "column") item

-- a column of this name
abbrev pub is_column_of : List ℕ → Item → Bool
is_column_of name item = is_column item && is_same_text (block_name item) name

abbrev pub or_name : List ℕ → Option (List ℕ) → List ℕ
or_name name None = name
or_name name (Some text) = text

-- the `field` that one block gives to a column
abbrev pub given_by : List ℕ → Item → Option Item
given_by name item = if is_column_of name item then last_named (codes "field") (block_items item) else None

-- the last `field` of the blocks of a column's name
abbrev pub last_field : List ℕ → List Item → Option Item
last_field name [] = None
last_field name (item ∷ items) = option_or (last_field name items) (given_by name item)

-- the field that a column takes: by the last `field` of the blocks of its name, and else the field of the column's name
abbrev pub field_of : List Item → List ℕ → List ℕ
field_of source name = or_name name (option_and_then (λ item. scalar item.value) (last_field name source))

abbrev pub column_of : List Item → List ℕ → DeclaredColumn
column_of source name = record { name = name; field = field_of source name }

-- the columns, each once, in the order of first standing
abbrev pub columns_in : List Item → List DeclaredColumn
columns_in source = map (column_of source) (firsts is_same_text (map block_name (filter is_column source)))

-- ---- what the source names, in the order of the text

-- a column where it first stands
abbrev pub column_entries : List Item → List Item → Item → List Entry
column_entries source before item =
    if list_any (is_column_of (block_name item)) before then [] else entry.Column (field_of source (block_name item)) ∷ []

-- what one parameter names, given those before it: a column, or the filters of `filters`, which are numbered through
abbrev pub entries_at : List Item → List Item → Item → List Entry
entries_at source before item =
    if is_column item then column_entries source before item
    else filter_entries (length (filters_at before)) (length (filters_at (item ∷ [])))

abbrev pub entries_from : List Item → List Item → List Item → List Entry
entries_from source before [] = []
entries_from source before (item ∷ items) =
    entries_at source before item ++ entries_from source (before ++ item ∷ []) items

abbrev pub entries_in : List Item → List Entry
entries_in source = entries_from source [] source

-- ---- the table, by its parameters

pub record IsDerived (items : List Item) (table : DerivedTable) : Type 0 where
  pub explore_is : table.explore ≡ source_name items
  pub columns_are : table.columns ≡ columns_in (source_items items)
  pub filters_are : AreFilters (filters_at (source_items items)) table.filters
  pub datagroup_is : table.datagroup ≡ text_at (codes "datagroup_trigger") items
  pub entries_are : table.entries ≡ entries_in (source_items items)
