-- The faults of filters, within a parameter of the object. (Looker, LookML reference: filters; lookd)
use Rattle.std.specs.Prelude.{ℕ, Bool, true, not, ◌||◌, ◌&&◌, nat_lt, if◌then◌else◌, List, [], ◌++◌, Some, None, is_some, codes, length}
use Rattle.std.specs.List.{flat_map}
use Rattle.lk_val.specs.Texts.{is_same_text}
use Rattle.lk_read.specs.declared.tree.Item.{Item}
use Rattle.lk_read.specs.declared.tree.Node.{Node}
use Rattle.lk_read.specs.declared.tree.Node.TheVariants as node
use Rattle.lk_params.specs.declared.owner.Owner.TheVariants as owner
use Rattle.lk_params.specs.declared.number.Order.{Order}
use Rattle.lk_params.specs.declared.number.Number.TheVariants.{N15}
use Rattle.lk_params.specs.declared.finding.Finding.{Finding}
use Rattle.lk_params.specs.Parameters.{items_of}
use Rattle.lk_params.specs.Values.{scalar}
use Rattle.lk_params.specs.Findings.{finding, named_line}
use Rattle.lk_params.specs.Known.{along, if_so, item_findings}
use Rattle.lk_written.specs.Values.{filters_at, is_missing, is_pair}
use Rattle.lk_written.specs.ValueFindings.{wrong}

-- the `field` or the `value` of an older block, and no word or string
abbrev pub is_no_half : Item → Bool
is_no_half item =
    (is_same_text item.name (codes "field") || is_same_text item.name (codes "value")) && not (is_some (scalar item.value))

-- a parameter of an older block: one that may not stand there or not again, or one of the two with another value
abbrev pub half_findings : Order → List ℕ → List ℕ → List Item → Item → List Finding
half_findings o object at before item =
    item_findings o owner.Filters object (Some at) before item ++ wrong o object at item.name (is_no_half item)

-- an older block: its parameters in the order of the text, and then a missing `field` and a missing `value`
abbrev pub older_findings : Order → List ℕ → List ℕ → List Item → List Finding
older_findings o object at items =
    along (half_findings o object at) [] items
    ++ wrong o object at (codes "field") (is_missing (codes "field") items)
    ++ wrong o object at (codes "value") (is_missing (codes "value") items)

-- one value of `filters`: the entries of a list that are no pairs, what an older block shows, or another value
abbrev pub filters_wrong : Order → List ℕ → List ℕ → Node → List Finding
filters_wrong o object at (node.List entries) =
    flat_map (λ e. wrong o object at (codes "filters") (not (is_pair e))) entries
filters_wrong o object at (node.Block None inner) = older_findings o object at (items_of inner)
filters_wrong o object at value = wrong o object at (codes "filters") true

-- a filter's text of over 4,096 bytes
abbrev pub too_long : Order → List ℕ → List ℕ × List ℕ → List Finding
too_long o at pair = if_so (nat_lt 4096 (length pair.1)) (finding o N15 at (named_line N15 (codes "filter") []))

-- all `filters` of a block, and then the texts that are too long
abbrev pub filters_findings : Order → List ℕ → List ℕ → List Item → List Finding
filters_findings o object at items =
    flat_map (λ item. if is_same_text item.name (codes "filters") then filters_wrong o object at item.value else []) items
    ++ flat_map (too_long o at) (filters_at items)
