-- What the filters of an explore say, and their first faults. (Looker, LookML reference: always_filter, access_filter, sql_always_where)
use Rattle.std.specs.Prelude.{◌≡◌, ℕ, Bool, true, false, not, ◌||◌, List, [], ◌∷◌, ◌++◌, None, is_some, codes}
use Rattle.lk_val.specs.Texts.{is_same_text}
use Rattle.lk_read.specs.declared.tree.Item.{Item}
use Rattle.lk_read.specs.declared.tree.Node.{Node}
use Rattle.lk_read.specs.declared.tree.Node.TheVariants as node
use Rattle.lk_objects.specs.declared.code.Code.{Code}
use Rattle.lk_objects.specs.declared.code.Code.TheVariants as code
use Rattle.lk_objects.specs.declared.explore.AccessFilter.{AccessFilter}
use Rattle.lk_objects.specs.declared.explore.AlwaysFilter.{AlwaysFilter}
use Rattle.lk_objects.specs.declared.explore.ExploreFilter.{ExploreFilter}
use Rattle.lk_objects.specs.declared.explore.ExploreFilter.TheVariants as explore_filter
use Rattle.lk_params.specs.declared.owner.Owner.TheVariants as owner
use Rattle.lk_params.specs.declared.number.Order.TheVariants as order
use Rattle.lk_params.specs.declared.number.Number.TheVariants.{N11}
use Rattle.lk_params.specs.declared.finding.Finding.{Finding}
use Rattle.lk_params.specs.Findings.{finding, named_line, soonest}
use Rattle.lk_params.specs.Parameters.{items_of}
use Rattle.lk_params.specs.Values as values
use Rattle.lk_written.specs.CodeFindings.{code_findings}
use Rattle.lk_written.specs.Codes.{IsCode}
use Rattle.lk_written.specs.ReadFilters.{AreFilters}
use Rattle.lk_written.specs.ValueFindings.{wrong}
use Rattle.lk_written.specs.Values.{filters_at, is_missing, text_at}
use Rattle.lk_explore.specs.PartFindings.{part_findings}
use Rattle.lk_explore.specs.Values.{plain_items, wrong_at}

-- ---- `always_filter`, given the name of the explore

-- another value than a block without a name, or what stands wrong in it
abbrev pub always_findings : List ℕ → Node → List Finding
always_findings explore (node.Block None inner) = part_findings owner.AlwaysFilter explore (codes "always_filter") (items_of inner)
always_findings explore value = wrong_at explore (codes "always_filter") true

pub record IsAlways (explore : List ℕ) (value : Node) (f : AlwaysFilter) : Type 0 where
  pub filters_are : AreFilters (filters_at (plain_items value)) f.filters
  pub first_is : f.first ≡ soonest (always_findings explore value)

-- ---- `access_filter`

-- a parameter of the block that is missing
abbrev pub missing_in : List ℕ → List ℕ → List Item → List Finding
missing_in explore name items = wrong order.Object explore (codes "access_filter") name (is_missing name items)

-- what stands wrong in its block, and then what is missing
abbrev pub access_block_findings : List ℕ → List Item → List Finding
access_block_findings explore items =
    part_findings owner.AccessFilter explore (codes "access_filter") items
    ++ missing_in explore (codes "field") items
    ++ missing_in explore (codes "user_attribute") items

-- another value than a block without a name, or that
abbrev pub access_findings : List ℕ → Node → List Finding
access_findings explore (node.Block None inner) = access_block_findings explore (items_of inner)
access_findings explore value = wrong_at explore (codes "access_filter") true

abbrev pub access_of : List ℕ → Node → AccessFilter
access_of explore value = record {
  field = text_at (codes "field") (plain_items value);
  attribute = text_at (codes "user_attribute") (plain_items value);
  first = soonest (access_findings explore value);
}

-- ---- `sql_always_where`

-- Liquid, or what is wrong with the expression
abbrev pub where_findings : List ℕ → Code → List Finding
where_findings explore code.Liquid =
    finding order.Object N11 (codes "sql_always_where") (named_line N11 explore []) ∷ []
where_findings explore c = code_findings order.Object explore (codes "sql_always_where") c

-- ---- all of them, in the order of the text

abbrev pub is_filter : Item → Bool
is_filter item =
    is_same_text item.name (codes "always_filter") || is_same_text item.name (codes "access_filter")
    || is_same_text item.name (codes "sql_always_where")

-- the filter is what its parameter says
abbrev pub IsExploreFilter : List ℕ → Item → ExploreFilter → Type 0
IsExploreFilter explore item (explore_filter.Always f) =
    (is_same_text item.name (codes "always_filter") ≡ true) × IsAlways explore item.value f
IsExploreFilter explore item (explore_filter.Access f) =
    (is_same_text item.name (codes "access_filter") ≡ true) × (f ≡ access_of explore item.value)
IsExploreFilter explore item (explore_filter.Where c first) =
    (is_same_text item.name (codes "sql_always_where") ≡ true) × IsCode false (values.code item.value) c × (first ≡ soonest (where_findings explore c))

abbrev pub AreExploreFilters : List ℕ → List Item → List ExploreFilter → Type 0
AreExploreFilters explore [] [] = Unit {0}
AreExploreFilters explore (item ∷ items) (f ∷ fs) = IsExploreFilter explore item f × AreExploreFilters explore items fs
AreExploreFilters explore items fs = ⊥
