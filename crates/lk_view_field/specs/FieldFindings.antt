-- The faults of a field that its own parameters show. (lookd)
use Rattle.std.specs.Prelude.{ℕ, Bool, true, false, not, ◌||◌, ◌&&◌, List, ◌++◌, Option, Some, None, is_some, codes}
use Rattle.std.specs.List.{list_all}
use Rattle.lk_read.specs.declared.tree.Item.{Item}
use Rattle.lk_read.specs.declared.tree.Node.{Node}
use Rattle.lk_types.specs.declared.explore.Op.{Op}
use Rattle.lk_types.specs.declared.explore.Op.TheVariants as op
use Rattle.lk_objects.specs.declared.code.Code.{Code}
use Rattle.lk_objects.specs.declared.field.DimensionType.{DimensionType}
use Rattle.lk_objects.specs.declared.field.DimensionType.TheVariants as type
use Rattle.lk_objects.specs.declared.field.FieldSort.{FieldSort}
use Rattle.lk_objects.specs.declared.field.FieldSort.TheVariants as sort
use Rattle.lk_params.specs.declared.owner.Owner.{Owner}
use Rattle.lk_params.specs.declared.owner.Owner.TheVariants as owner
use Rattle.lk_params.specs.declared.number.Order.TheVariants as order
use Rattle.lk_params.specs.declared.finding.Finding.{Finding}
use Rattle.lk_params.specs.Values.{scalar, words}
use Rattle.lk_params.specs.Known.{block_findings}
use Rattle.lk_written.specs.CodeFindings.{code_findings}
use Rattle.lk_written.specs.FilterFindings.{filters_findings}
use Rattle.lk_written.specs.ValueFindings.{wrong}
use Rattle.lk_written.specs.Values.{text_at, is_missing, is_no_truth, is_text, is_wrong_at}
use Rattle.lk_view_field.specs.FieldValues.{frame_named, bounds_in}

-- ---- the three sorts, given the name `view.field`

-- no list of ascending whole numbers
abbrev pub is_no_bounds : Node → Bool
is_no_bounds value = not (is_some (bounds_in value))

abbrev pub is_other_style : Node → Bool
is_other_style value = not (is_text (codes "integer") (scalar value))

abbrev pub is_tier : Option DimensionType → Bool
is_tier (Some type.Tier) = true
is_tier t = false

-- tiers that are missing or no bounds, and another style
abbrev pub tier_findings : List ℕ → List Item → Option DimensionType → List Finding
tier_findings object items t =
    wrong order.Field object (codes "tiers") (codes "tiers")
    (is_wrong_at is_no_bounds (codes "tiers") items || (is_tier t && is_missing (codes "tiers") items))
    ++ wrong order.Field object (codes "style") (codes "style") (is_wrong_at is_other_style (codes "style") items)

abbrev pub dimension_findings : List ℕ → List Item → Option DimensionType → List Finding
dimension_findings object items t =
    wrong order.Field object (codes "type") (codes "type") (not (is_some t))
    ++ wrong order.Field object (codes "primary_key") (codes "primary_key")
    (is_wrong_at (λ value. is_no_truth (scalar value)) (codes "primary_key") items)
    ++ tier_findings object items t

-- a list of words, each of which is a timeframe
abbrev pub lists_frames : Option (List (List ℕ)) → Bool
lists_frames None = false
lists_frames (Some names) = list_all (λ name. is_some (frame_named name)) names

abbrev pub group_findings : List ℕ → List Item → List Finding
group_findings object items =
    wrong order.Field object (codes "type") (codes "type") (not (is_text (codes "time") (text_at (codes "type") items)))
    ++ wrong order.Field object (codes "timeframes") (codes "timeframes")
    (is_wrong_at (λ value. not (lists_frames (words value))) (codes "timeframes") items)
    ++ wrong order.Field object (codes "sql") (codes "sql") (is_missing (codes "sql") items)

-- every measure but a count has to have `sql`, one of an unknown type too
abbrev pub needs_sql : Option Op → Bool
needs_sql (Some op.Count) = false
needs_sql o = true

abbrev pub needs_key : Option Op → Bool
needs_key (Some op.SumDistinct) = true
needs_key (Some op.AverageDistinct) = true
needs_key o = false

abbrev pub measure_findings : List ℕ → List Item → Option Op → List Finding
measure_findings object items t =
    wrong order.Field object (codes "type") (codes "type") (not (is_some t))
    ++ wrong order.Field object (codes "sql") (codes "sql") (needs_sql t && is_missing (codes "sql") items)
    ++ wrong order.Field object (codes "sql_distinct_key") (codes "sql_distinct_key")
    (needs_key t && is_missing (codes "sql_distinct_key") items)
    ++ filters_findings order.Field object (codes "filters") items

abbrev pub owner_of : FieldSort → Owner
owner_of (sort.Dimension t) = owner.Dimension
owner_of sort.Group = owner.DimensionGroup
owner_of (sort.Measure o) = owner.Measure

abbrev pub sort_findings : List ℕ → List Item → FieldSort → List Finding
sort_findings object items (sort.Dimension t) = dimension_findings object items t
sort_findings object items sort.Group = group_findings object items
sort_findings object items (sort.Measure o) = measure_findings object items o

-- all that a field's own parameters show, given what its codes are read as
abbrev pub own_findings : List ℕ → List Item → FieldSort → Code → Code → List Finding
own_findings object items s sql key =
    block_findings order.Field (owner_of s) object None items
    ++ sort_findings object items s
    ++ code_findings order.Field object (codes "sql") sql
    ++ code_findings order.Field object (codes "sql_distinct_key") key
