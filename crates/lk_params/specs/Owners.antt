-- Which parameters stand in which block. (Looker, LookML reference; lookd)
use Rattle.std.specs.Prelude.{ℕ, Bool, true, false, ◌||◌, ◌&&◌, List, [], ◌∷◌, codes}
use Rattle.std.specs.List.{list_any}
use Rattle.lk_val.specs.Texts.{is_same_text}
use Rattle.lk_params.specs.declared.owner.Owner.{Owner}
use Rattle.lk_params.specs.declared.owner.Owner.TheVariants as owner

-- a name is one of some
abbrev pub is_one_of : List (List ℕ) → List ℕ → Bool
is_one_of names name = list_any (λ n. is_same_text n name) names

-- the parameters that have an effect
abbrev pub with_effect : Owner → List (List ℕ)
with_effect owner.File = codes "include" ∷ codes "view" ∷ codes "explore" ∷ codes "datagroup" ∷ []
with_effect owner.View =
    codes "sql_table_name" ∷ codes "derived_table" ∷ codes "dimension" ∷ codes "dimension_group" ∷ codes "measure"
    ∷ codes "extends" ∷ codes "extension" ∷ codes "final" ∷ []
with_effect owner.Dimension =
    codes "type" ∷ codes "sql" ∷ codes "primary_key" ∷ codes "tiers" ∷ codes "style" ∷ []
with_effect owner.DimensionGroup = codes "type" ∷ codes "sql" ∷ codes "timeframes" ∷ []
with_effect owner.Measure = codes "type" ∷ codes "sql" ∷ codes "sql_distinct_key" ∷ codes "filters" ∷ []
with_effect owner.Explore =
    codes "from" ∷ codes "join" ∷ codes "always_join" ∷ codes "always_filter" ∷ codes "sql_always_where"
    ∷ codes "access_filter" ∷ codes "aggregate_table" ∷ codes "extends" ∷ codes "extension" ∷ codes "final" ∷ []
with_effect owner.Join =
    codes "from" ∷ codes "type" ∷ codes "relationship" ∷ codes "sql_on" ∷ codes "foreign_key"
    ∷ codes "required_joins" ∷ []
with_effect owner.AlwaysFilter = codes "filters" ∷ []
with_effect owner.AccessFilter = codes "field" ∷ codes "user_attribute" ∷ []
with_effect owner.AggregateTable = codes "query" ∷ codes "materialization" ∷ []
with_effect owner.Query = codes "dimensions" ∷ codes "measures" ∷ codes "filters" ∷ codes "timezone" ∷ []
with_effect owner.Materialization = codes "datagroup_trigger" ∷ []
with_effect owner.DerivedTable = codes "explore_source" ∷ codes "datagroup_trigger" ∷ []
with_effect owner.ExploreSource = codes "column" ∷ codes "filters" ∷ []
with_effect owner.Column = codes "field" ∷ []
with_effect owner.Filters = codes "field" ∷ codes "value" ∷ []
with_effect owner.Datagroup = codes "sql_trigger" ∷ codes "interval_trigger" ∷ []

abbrev pub has_effect : Owner → List ℕ → Bool
has_effect owner name = is_one_of (with_effect owner) name

-- the parameters that are read anywhere and have no effect
abbrev pub display : List (List ℕ)
display =
    codes "label" ∷ codes "description" ∷ codes "group_label" ∷ codes "group_item_label" ∷ codes "view_label"
    ∷ codes "value_format" ∷ codes "value_format_name" ∷ codes "drill_fields" ∷ codes "set" ∷ codes "tags"
    ∷ codes "link" ∷ codes "html" ∷ codes "hidden" ∷ codes "action" ∷ codes "persist_with" ∷ codes "connection"
    ∷ codes "week_start_day" ∷ codes "max_cache_age" ∷ codes "map_layer_name" ∷ codes "convert_tz" ∷ codes "datatype"
    ∷ codes "suggestions" ∷ codes "suggestable" ∷ codes "suggest_dimension" ∷ codes "suggest_explore"
    ∷ codes "can_filter" ∷ codes "order_by_field" ∷ []

abbrev pub is_query : Owner → Bool
is_query owner.Query = true
is_query owner = false

-- the parameter has no effect; `sorts` stands so in an aggregate table's query alone
abbrev pub is_display : Owner → List ℕ → Bool
is_display owner name =
    is_one_of display name || (is_query owner && is_same_text name (codes "sorts"))
