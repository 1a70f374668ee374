-- Which SELECTs are printed.
use Rattle.std.specs.Prelude.{ℕ, ◌^◌, nat_lt, Bool, true, false, ◌&&◌, ◌||◌, List, [], ◌∷◌, Option, Some, None}
use Rattle.std.specs.List.{list_all}
use Rattle.std.specs.Str.{is_utf8}
use Rattle.lk_types.specs.declared.explore.JoinKind.{JoinKind}
use Rattle.lk_types.specs.declared.explore.JoinKind.TheVariants.{Cross}
use Rattle.lk_sql_tree.specs.declared.select.SqlTable.{SqlTable}
use Rattle.lk_sql_tree.specs.declared.select.SqlJoin.{SqlJoin}
use Rattle.lk_sql_tree.specs.declared.select.SqlItem.{SqlItem}
use Rattle.lk_sql_tree.specs.declared.select.Select.{Select}
use Rattle.lk_sql_tree.specs.Trees.{Sql}
use Rattle.lk_sql_tree.specs.Forms.{over_rows, over_groups}

-- an item is over rows or over groups, under a name in UTF-8
abbrev pub is_item : SqlItem → Bool
is_item item = (over_rows item.value || over_groups item.value) && is_utf8 item.name

abbrev pub is_table : SqlTable → Bool
is_table t = is_utf8 t.table && is_utf8 t.part

-- a number of 32 bits
abbrev pub is_small : ℕ → Bool
is_small n = nat_lt n (2 ^ 32)

abbrev pub if_some : {A : Type 0} → (A → Bool) → Option A → Bool
if_some test None = true
if_some test (Some x) = test x

-- only a cross join has no condition
abbrev pub has_condition : JoinKind → Option Sql → Bool
has_condition Cross None = true
has_condition Cross (Some e) = false
has_condition k None = false
has_condition k (Some e) = over_rows e

abbrev pub is_join : SqlJoin → Bool
is_join j = is_table j.right && has_condition j.kind j.on

-- there is an item
abbrev pub has_any : List SqlItem → Bool
has_any [] = false
has_any (i ∷ is) = true

-- the SELECT has the form of those that are printed: WHERE and ON are over rows, HAVING over groups (lookd)
unfoldable pub is_printable : Select → Bool
is_printable s =
    has_any s.items && list_all is_item s.items && is_table s.from && list_all is_join s.joins && if_some over_rows s.rows
    && list_all is_small s.groups && if_some over_groups s.having && list_all (λ o. is_small o.place) s.sorts && if_some is_small s.limit
