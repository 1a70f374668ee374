-- The faults of a block's parameters by themselves: what may not stand there, and what stands twice. (lookd)
use Rattle.std.specs.Prelude.{ℕ, Bool, true, false, not, ◌||◌, ◌&&◌, nat_eq, List, [], ◌∷◌, ◌++◌, Option, Some, None, codes}
use Rattle.std.specs.List.{list_any}
use Rattle.lk_val.specs.Texts.{is_same_text}
use Rattle.lk_read.specs.declared.tree.Item.{Item}
use Rattle.lk_read.specs.declared.tree.Node.{Node}
use Rattle.lk_read.specs.declared.tree.Node.TheVariants as node
use Rattle.lk_params.specs.declared.owner.Owner.{Owner}
use Rattle.lk_params.specs.declared.owner.Owner.TheVariants as owner
use Rattle.lk_params.specs.declared.number.Order.{Order}
use Rattle.lk_params.specs.declared.number.Number.TheVariants.{N1, N11, N14}
use Rattle.lk_params.specs.declared.finding.Finding.{Finding}
use Rattle.lk_params.specs.Owners.{has_effect, is_display}
use Rattle.lk_params.specs.Values.{scalar}
use Rattle.lk_params.specs.Findings.{finding, named_line}

-- at each item what a rule finds there, given the items before it
abbrev pub along : {A B : Type 0} → (List A → A → List B) → List A → List A → List B
along rule before [] = []
along rule before (x ∷ xs) = rule before x ++ along rule (before ++ x ∷ []) xs

-- the kinds of named blocks of which a block may have many
abbrev pub has_many : Owner → List ℕ → Bool
has_many owner.File name =
    is_same_text name (codes "view") || is_same_text name (codes "explore") || is_same_text name (codes "datagroup")
has_many owner.View name =
    is_same_text name (codes "dimension") || is_same_text name (codes "dimension_group")
    || is_same_text name (codes "measure")
has_many owner.Explore name = is_same_text name (codes "join") || is_same_text name (codes "aggregate_table")
has_many owner.ExploreSource name = is_same_text name (codes "column")
has_many owner name = false

-- a block with a name of its own
abbrev pub is_titled : Node → Bool
is_titled (node.Block (Some title) inner) = true
is_titled value = false

-- a named block of a kind of which there may be many
abbrev pub is_child : Owner → Item → Bool
is_child owner item = is_titled item.value && has_many owner item.name

-- the parameter may stand in the block
abbrev pub is_known : Owner → Item → Bool
is_known owner item = has_effect owner item.name || is_display owner item.name

-- the parameter may stand only once in the block
abbrev pub is_single : Owner → Item → Bool
is_single owner item =
    not (is_display owner item.name)
    && not (is_same_text item.name (codes "include") || is_same_text item.name (codes "access_filter")
    || is_same_text item.name (codes "filters"))
    && not (is_child owner item)

-- it may stand only once, and one of its name stands before it
abbrev pub stands_again : Owner → List Item → Item → Bool
stands_again owner before item =
    is_single owner item && list_any (λ other. is_single owner other && is_same_text other.name item.name) before

-- ---- values that are told for every block

-- a day that a week may begin with here
abbrev pub is_monday : Option (List ℕ) → Bool
is_monday None = false
is_monday (Some day) = is_same_text day (codes "monday")

-- a week that begins with another day
abbrev pub is_other_week : Item → Bool
is_other_week item = is_same_text item.name (codes "week_start_day") && not (is_monday (scalar item.value))

-- the text begins with `{%` or `{{`
abbrev pub begins_liquid : List ℕ → Bool
begins_liquid (a ∷ b ∷ rest) = nat_eq a 123 && (nat_eq b 37 || nat_eq b 123)
begins_liquid bytes = false

-- Liquid begins somewhere in the text
abbrev pub holds_liquid : List ℕ → Bool
holds_liquid [] = false
holds_liquid (c ∷ rest) = begins_liquid (c ∷ rest) || holds_liquid rest

-- a code with Liquid; that of `sql_always_where` is told with the explore's filters
abbrev pub has_liquid : Item → Bool
has_liquid item = is_liquid item.value && not (is_same_text item.name (codes "sql_always_where")) where
  is_liquid : Node → Bool
  is_liquid (node.Code text) = holds_liquid text
  is_liquid value = false

-- ---- what is found at a parameter

-- the parameter that a finding stands at: that of the object in which the block stands, or its own
abbrev pub parameter_of : Option (List ℕ) → Item → List ℕ
parameter_of None item = item.name
parameter_of (Some top) item = top

abbrev pub if_so : Bool → Finding → List Finding
if_so true f = f ∷ []
if_so false f = []

-- a parameter that may not stand there or not again, a week that begins with another day, and Liquid
abbrev pub item_findings : Order → Owner → List ℕ → Option (List ℕ) → List Item → Item → List Finding
item_findings order owner object top before item =
    let at = parameter_of top item in
    if_so (not (is_known owner item) || stands_again owner before item) (finding order N1 at (named_line N1 object item.name))
    ++ if_so (is_display owner item.name && is_other_week item) (finding order N14 at (named_line N14 object item.name))
    ++ if_so (has_effect owner item.name && has_liquid item) (finding order N11 at (named_line N11 object []))

-- what is found in a block, parameter by parameter
abbrev pub block_findings : Order → Owner → List ℕ → Option (List ℕ) → List Item → List Finding
block_findings order owner object top items = along (item_findings order owner object top) [] items
