-- Datagroups over the tables of the shop, in short words, for computed examples.
use Rattle.std.specs.Prelude.{ℕ, ℤ, pos, ◌+ℤ◌, List, [], ◌∷◌, ◌++◌, map, Option, Some, None, codes}
use Rattle.lk_val.specs.declared.value.Value.TheVariants as value
use Rattle.lk_types.specs.Tables.{Rows}
use Rattle.lk_types.specs.declared.model.Datagroup.{Datagroup}
use Rattle.lk_types.specs.declared.model.Trigger.{Trigger}
use Rattle.lk_semantics.specs.Shop.{items, order_row, orders, users}
use Rattle.lk_trigger.specs.Builds.{built_at, triggered}
use Rattle.lk_trigger.specs.declared.build.Build.{Build}

-- ---- tables: those of the shop, the same with one more order, and the same without orders

abbrev pub tables_of : Rows → List Rows
tables_of orders = users ∷ orders ∷ items ∷ []

abbrev pub shop_tables : List Rows
shop_tables = tables_of orders

abbrev pub with_order : ℕ → List Rows
with_order id = tables_of (orders ++ order_row id 2 (codes "complete") 1709211600 100000 ∷ [])

abbrev pub without_orders : List Rows
without_orders = tables_of []

-- and an order of which nothing is known
abbrev pub with_null_order : List Rows
with_null_order = tables_of (orders ++ (value.Null ∷ value.Null ∷ value.Null ∷ value.Null ∷ value.Null ∷ []) ∷ [])

-- ---- datagroups

abbrev pub watching : Trigger → Datagroup
watching trigger = record { name = codes "nightly"; trigger = Some trigger; interval = None }

abbrev pub each_hour : Option Trigger → Datagroup
each_hour trigger = record { name = codes "hourly"; trigger = trigger; interval = Some (pos 3600) }

abbrev pub watching_nothing : Datagroup
watching_nothing = record { name = codes "never"; trigger = None; interval = None }

-- ---- builds

-- 2024-03-02 00:00:00 UTC
abbrev pub opening : ℤ
opening = pos 1709337600

-- so many seconds after it
abbrev pub later : ℕ → ℤ
later seconds = opening +ℤ pos seconds

-- all datagroups built at the opening over some tables
abbrev pub built_over : List Rows → List Datagroup → List Build
built_over tables datagroups = map (built_at tables 0 opening) datagroups

-- the datagroups that trigger over some tables at a moment, all of them built at the opening over others
abbrev pub triggered_since : List Rows → List Datagroup → List Rows → ℤ → List ℕ
triggered_since before datagroups tables now = triggered datagroups tables (built_over before datagroups) now
