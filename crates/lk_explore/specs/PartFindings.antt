-- The faults of a block within a parameter of an explore or of an aggregate table: all stand at that parameter, and go from
-- left to right. (Looker, LookML reference: always_filter, access_filter, aggregate_table; lookd)
use Rattle.std.specs.Prelude.{ℕ, Bool, not, ◌||◌, ◌&&◌, if◌then◌else◌, List, [], ◌∷◌, codes}
use Rattle.lk_val.specs.Texts.{is_same_text}
use Rattle.lk_read.specs.declared.tree.Item.{Item}
use Rattle.lk_params.specs.declared.owner.Owner.{Owner}
use Rattle.lk_params.specs.declared.owner.Owner.TheVariants as owner
use Rattle.lk_params.specs.declared.number.Order.TheVariants as order
use Rattle.lk_params.specs.declared.finding.Finding.{Finding}
use Rattle.lk_params.specs.Values.{scalar}
use Rattle.lk_written.specs.FilterFindings.{filters_findings}
use Rattle.lk_written.specs.ValueFindings.{wrong}
use Rattle.lk_written.specs.Values.{is_text}
use Rattle.lk_explore.specs.Values.{are_no_words, is_no_text, within_block}

-- what the value of a parameter of a query shows, given the object and its parameter in which the block stands: filters and
-- lists that are none, and another time zone
abbrev pub query_item_findings : List ℕ → List ℕ → Item → List Finding
query_item_findings object at item =
    if is_same_text item.name (codes "filters") then filters_findings order.Object object at (item ∷ [])
    else if is_same_text item.name (codes "dimensions") || is_same_text item.name (codes "measures")
    then wrong order.Object object at item.name (are_no_words item.value)
    else if is_same_text item.name (codes "timezone")
    then wrong order.Object object at item.name (not (is_text (codes "UTC") (scalar item.value)))
    else []

-- a parameter of a materialization or of an access filter that has to be a word or a string
abbrev pub is_name_parameter : List ℕ → Bool
is_name_parameter name =
    is_same_text name (codes "datagroup_trigger") || is_same_text name (codes "field") || is_same_text name (codes "user_attribute")

abbrev pub name_findings : List ℕ → List ℕ → Item → List Finding
name_findings object at item =
    if is_name_parameter item.name then wrong order.Object object at item.name (is_no_text item.value) else []

-- what a value shows in a block of this kind
abbrev pub item_findings_in : Owner → List ℕ → List ℕ → Item → List Finding
item_findings_in owner.Query object at item = query_item_findings object at item
item_findings_in owner.AlwaysFilter object at item = filters_findings order.Object object at (item ∷ [])
item_findings_in o object at item = name_findings object at item

-- at each parameter of the block what it shows by itself, and then what its value shows
abbrev pub part_findings : Owner → List ℕ → List ℕ → List Item → List Finding
part_findings o object at items = within_block o object at (item_findings_in o object at) items
