-- What the declaration of an explore says, and the first fault that its own parameters show. (Looker, LookML reference: explore)
use Rattle.std.specs.Prelude.{◌≡◌, ℕ, Bool, false, not, ◌||◌, nat_lt, if◌then◌else◌, List, [], ◌∷◌, ◌++◌, length, None, codes}
use Rattle.std.specs.List.{filter, flat_map}
use Rattle.lk_val.specs.Texts.{is_same_text}
use Rattle.lk_read.specs.declared.tree.Item.{Item}
use Rattle.lk_objects.specs.declared.explore.AggregateTable.{AggregateTable}
use Rattle.lk_objects.specs.declared.explore.DeclaredExplore.{DeclaredExplore}
use Rattle.lk_objects.specs.declared.explore.DeclaredJoin.{DeclaredJoin}
use Rattle.lk_params.specs.declared.owner.Owner.TheVariants as owner
use Rattle.lk_params.specs.declared.number.Order.TheVariants as order
use Rattle.lk_params.specs.declared.number.Number.TheVariants.{N15}
use Rattle.lk_params.specs.declared.finding.Finding.{Finding}
use Rattle.lk_params.specs.Findings.{finding, named_line, soonest}
use Rattle.lk_params.specs.Known.{block_findings, if_so}
use Rattle.lk_params.specs.Values.{scalar}
use Rattle.lk_written.specs.Blocks.{block_items, block_name, is_block_of, is_named_block}
use Rattle.lk_written.specs.Values.{is_no_truth, is_text}
use Rattle.lk_explore.specs.ExploreFilters.{AreExploreFilters, is_filter}
use Rattle.lk_explore.specs.Joins.{IsJoin}
use Rattle.lk_explore.specs.Rollups.{IsRollup}
use Rattle.lk_explore.specs.Values.{are_no_words, is_no_text, view_or, words_at, wrong_at}

-- ---- its blocks

-- the joins, in order
abbrev pub joins_in : List Item → List Item
joins_in items = filter (is_block_of (codes "join")) items

-- the aggregate tables, in order
abbrev pub rollups_in : List Item → List Item
rollups_in items = filter (is_block_of (codes "aggregate_table")) items

-- each join is what its block says
abbrev pub AreJoins : List Item → List DeclaredJoin → Type 0
AreJoins [] [] = Unit {0}
AreJoins (item ∷ items) (join ∷ joins) = IsJoin (block_name item) (block_items item) join × AreJoins items joins
AreJoins items joins = ⊥

-- each aggregate table is what its block says
abbrev pub AreRollups : List Item → List AggregateTable → Type 0
AreRollups [] [] = Unit {0}
AreRollups (item ∷ items) (table ∷ tables) = IsRollup (block_name item) (block_items item) table × AreRollups items tables
AreRollups items tables = ⊥

-- ---- the faults of its own parameters; those of its filters are told with these

-- the value of a parameter of the explore is outside the profile
abbrev pub is_wrong_value : Item → Bool
is_wrong_value item =
    if is_same_text item.name (codes "from") then is_no_text item.value
    else if is_same_text item.name (codes "join") || is_same_text item.name (codes "aggregate_table") then not (is_named_block item.value)
    else if is_same_text item.name (codes "always_join") || is_same_text item.name (codes "extends") then are_no_words item.value
    else if is_same_text item.name (codes "extension") then not (is_text (codes "required") (scalar item.value))
    else if is_same_text item.name (codes "final") then is_no_truth (scalar item.value)
    else false

abbrev pub value_findings : List ℕ → Item → List Finding
value_findings explore item = wrong_at explore item.name (is_wrong_value item)

-- more than 31 joins
abbrev pub count_findings : List Item → List Finding
count_findings items =
    if_so (nat_lt 31 (length (joins_in items))) (finding order.Object N15 (codes "join") (named_line N15 (codes "joins") []))

abbrev pub explore_findings : List ℕ → List Item → List Finding
explore_findings explore items =
    block_findings order.Object owner.Explore explore None items
    ++ flat_map (value_findings explore) items
    ++ count_findings items

-- ---- the explore

-- the explore is what its declaration says: its name and its parameters
pub record IsExplore (name : List ℕ) (items : List Item) (x : DeclaredExplore) : Type 0 where
  pub name_is : x.name ≡ name
  pub base_is : x.base ≡ view_or name items
  pub joins_are : AreJoins (joins_in items) x.joins
  pub always_join_is : x.always_join ≡ words_at (codes "always_join") items
  pub filters_are : AreExploreFilters name (filter is_filter items) x.filters
  pub rollups_are : AreRollups (rollups_in items) x.rollups
  pub first_is : x.first ≡ soonest (explore_findings name items)
