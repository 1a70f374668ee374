-- The fields of a view in order. (lookd)
use Rattle.std.specs.Prelude.{ℕ, Bool, ◌||◌, nat_lt, if◌then◌else◌, List, [], codes}
use Rattle.std.specs.Ordering.{nat_cmp, is_lt}
use Rattle.std.specs.Cmp.Lexicographic.{slice_cmp}
use Rattle.std.specs.List.{filter, fold, insert, position_or_len}
use Rattle.lk_val.specs.Texts.{is_same_text}
use Rattle.lk_read.specs.declared.tree.Item.{Item}
use Rattle.lk_written.specs.Blocks.{block_name, is_block_of}

-- a dimension, a dimension group or a measure with a name
abbrev pub is_field : Item → Bool
is_field item =
    is_block_of (codes "dimension") item || is_block_of (codes "dimension_group") item || is_block_of (codes "measure") item

abbrev pub kind_rank : List ℕ → ℕ
kind_rank kind =
    if is_same_text kind (codes "dimension") then 0
    else if is_same_text kind (codes "dimension_group") then 1
    else 2

-- the first stands before the second: by the bytes of their names; of one name dimensions before groups before measures
abbrev pub goes_before : Item → Item → Bool
goes_before a b =
    if is_same_text (block_name a) (block_name b) then nat_lt (kind_rank a.name) (kind_rank b.name)
    else is_lt (slice_cmp nat_cmp (block_name a) (block_name b))

-- a field among fields in order: before the first that it goes before, and else at the end
abbrev pub put_in : List Item → Item → List Item
put_in items item = insert items (position_or_len (goes_before item) items) item

-- the fields of a view, in order; of equal ones the first declared is first
abbrev pub fields_in : List Item → List Item
fields_in items = fold put_in [] (filter is_field items)
