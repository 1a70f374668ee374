-- What an aggregate table says, and its first fault. (Looker, LookML reference: aggregate_table)
use Rattle.std.specs.Prelude.{◌≡◌, ℕ, Bool, true, not, ◌&&◌, if◌then◌else◌, List, [], ◌∷◌, ◌++◌, map, length, None, codes}
use Rattle.lk_val.specs.Texts.{is_same_text}
use Rattle.lk_read.specs.declared.tree.Item.{Item}
use Rattle.lk_read.specs.declared.tree.Node.{Node}
use Rattle.lk_read.specs.declared.tree.Node.TheVariants as node
use Rattle.lk_objects.specs.declared.explore.AggregateTable.{AggregateTable}
use Rattle.lk_objects.specs.declared.view.Entry.{Entry}
use Rattle.lk_objects.specs.declared.view.Entry.TheVariants as entry
use Rattle.lk_params.specs.declared.owner.Owner.TheVariants as owner
use Rattle.lk_params.specs.declared.number.Order.TheVariants as order
use Rattle.lk_params.specs.declared.finding.Finding.{Finding}
use Rattle.lk_params.specs.Findings.{soonest}
use Rattle.lk_params.specs.Known.{along, item_findings}
use Rattle.lk_params.specs.Parameters.{items_of}
use Rattle.lk_written.specs.Entries.{filter_entries}
use Rattle.lk_written.specs.ReadFilters.{AreFilters}
use Rattle.lk_written.specs.ValueFindings.{wrong}
use Rattle.lk_written.specs.Values.{filters_at, is_missing, text_at}
use Rattle.lk_explore.specs.PartFindings.{part_findings}
use Rattle.lk_explore.specs.Values.{block_at, words_at, words_in, wrong_at}

-- ---- what the query names, in the order of the text

-- what one parameter names, given those before it
abbrev pub entries_at : List Item → Item → List Entry
entries_at before item =
    if is_same_text item.name (codes "dimensions") then map entry.Dimension (words_in item.value)
    else if is_same_text item.name (codes "measures") then map entry.Measure (words_in item.value)
    else filter_entries (length (filters_at before)) (length (filters_at (item ∷ [])))

abbrev pub entries_in : List Item → List Entry
entries_in query = along entries_at [] query

-- ---- faults, given the name of the table

-- a query that is no block without a name, or what stands wrong in it
abbrev pub query_findings : List ℕ → Node → List Finding
query_findings table (node.Block None inner) = part_findings owner.Query table (codes "query") (items_of inner)
query_findings table value = wrong_at table (codes "query") true

-- a materialization that is no block without a name, or what stands wrong in it, and then a missing `datagroup_trigger`
abbrev pub materialization_findings : List ℕ → Node → List Finding
materialization_findings table (node.Block None inner) =
    part_findings owner.Materialization table (codes "materialization") (items_of inner)
    ++ wrong order.Object table (codes "materialization") (codes "datagroup_trigger") (is_missing (codes "datagroup_trigger") (items_of inner))
materialization_findings table value = wrong_at table (codes "materialization") true

abbrev pub value_findings : List ℕ → Item → List Finding
value_findings table item =
    if is_same_text item.name (codes "query") then query_findings table item.value
    else if is_same_text item.name (codes "materialization") then materialization_findings table item.value
    else []

-- at each parameter what it shows by itself, and then what its value shows, so that repeated ones are tested in their order
abbrev pub item_by_item : List ℕ → List Item → List Item → List Finding
item_by_item table before items =
    along (λ before item. item_findings order.Object owner.AggregateTable table None before item ++ value_findings table item) before items

-- all that an aggregate table's own parameters show
abbrev pub rollup_findings : List ℕ → List Item → List Finding
rollup_findings table items =
    item_by_item table [] items
    ++ wrong_at table (codes "query") (is_missing (codes "query") items)
    ++ wrong_at table (codes "materialization") (is_missing (codes "materialization") items)

-- ---- the table

-- the aggregate table is what its declaration says: its name and its parameters
pub record IsRollup (name : List ℕ) (items : List Item) (table : AggregateTable) : Type 0 where
  pub name_is : table.name ≡ name
  pub dimensions_are : table.dimensions ≡ words_at (codes "dimensions") (block_at (codes "query") items)
  pub measures_are : table.measures ≡ words_at (codes "measures") (block_at (codes "query") items)
  pub filters_are : AreFilters (filters_at (block_at (codes "query") items)) table.filters
  pub datagroup_is : table.datagroup ≡ text_at (codes "datagroup_trigger") (block_at (codes "materialization") items)
  pub entries_are : table.entries ≡ entries_in (block_at (codes "query") items)
  pub first_is : table.first ≡ soonest (rollup_findings name items)
