-- Small variants of the shop on which the corners of the definitions are computed.
use Rattle.std.specs.Prelude.{ℕ, true, false, List, [], ◌∷◌, ◌++◌, Option, Some, None, codes}
use Rattle.lk_val.specs.declared.value.Value.TheVariants as value
use Rattle.lk_types.specs.Calculation as calculation
use Rattle.lk_types.specs.Formula.{Formula, Column, Literal, NullIf}
use Rattle.lk_types.specs.Samples.{only, is}
use Rattle.lk_semantics.specs.Shop.{orders_explore, orders_with, fields, measure, plain, keyed_part, equals, users_join, items_join, shop_model, nightly}
use Rattle.lk_types.specs.declared.schema.Kind.{Kind}
use Rattle.lk_types.specs.declared.schema.Kind.TheVariants as kind
use Rattle.lk_types.specs.declared.schema.Frame.{Frame}
use Rattle.lk_types.specs.declared.schema.Frame.TheVariants as frame
use Rattle.lk_types.specs.declared.filter.Filter.{Filter}
use Rattle.lk_types.specs.declared.filter.Test.TheVariants as test
use Rattle.lk_types.specs.declared.explore.Shape.{Shape}
use Rattle.lk_types.specs.declared.explore.Shape.TheVariants as shape
use Rattle.lk_types.specs.declared.explore.Measure.{Measure}
use Rattle.lk_types.specs.declared.explore.Op.{Op}
use Rattle.lk_types.specs.declared.explore.Field.{Field}
use Rattle.lk_types.specs.declared.explore.JoinKind.TheVariants.{Left, Cross}
use Rattle.lk_types.specs.declared.explore.Relation.TheVariants.{ManyToOne}
use Rattle.lk_types.specs.declared.explore.Origin.TheVariants as origin
use Rattle.lk_types.specs.declared.explore.Op.TheVariants as op
use Rattle.lk_types.specs.declared.explore.Rollup.{Rollup}
use Rattle.lk_types.specs.declared.explore.Explore.{Explore}
use Rattle.lk_types.specs.declared.model.Derived.{Derived}
use Rattle.lk_types.specs.declared.model.Model.{Model}
use Rattle.lk_types.specs.declared.model.Pick.TheVariants.{Dim}

-- a count at which a value of items is written: it counts orders all the same
abbrev pub count_with_value : Explore
count_with_value = orders_with Left (measure (codes "orders.counted") 0 op.Count (Some (Column 2 2)) ∷ [])

-- a cross join of users at which a condition on items is written: it takes all pairs all the same
abbrev pub cross_with_condition : Explore
cross_with_condition = record orders_explore {
  joins = record { kind = Cross; relation = ManyToOne; on = Some (equals (Column 2 1) (Column 1 0)); required = [] } ∷ items_join ∷ [];
}

-- orders with a default filter on items
abbrev pub with_default : Explore
with_default = record orders_explore { always = (8, only (is 1 ∷ []) []) ∷ [] }

-- two views with timeframes of their own, in groups of one number
abbrev pub created_of : List ℕ → ℕ → Frame → Field
created_of name part frame = record { name = name; part = part; kind = kind.Day; expr = Column part 1; shape = shape.Frame 0 frame }

abbrev pub buyers_and_sellers : Explore
buyers_and_sellers = record orders_explore { fields = created_of (codes "buyers.created_date") 1 frame.Date ∷ created_of (codes "sellers.created_month") 2 frame.Month ∷ created_of (codes "buyers.created_month") 1 frame.Month ∷ [] }

abbrev pub by_buyers_day : Rollup
by_buyers_day = record { name = codes "by_day"; dims = 0 ∷ []; measures = []; filters = []; datagroup = 0 }

-- ---- derived tables that read derived tables

-- a view of a derived table
abbrev pub derived_view : List ℕ → ℕ → Explore
derived_view name table = record orders_explore {
  name = name;
  parts = record { name = name; origin = origin.Derived table; key = None; enforced = None } ∷ [];
  joins = [];
  fields = plain name 0 kind.Text 0 ∷ [];
  measures = [];
  access = [];
  rollups = [];
}

-- a derived table of one column over an explore
abbrev pub derived_from : List ℕ → ℕ → Option ℕ → Derived
derived_from name explore datagroup = record { name = name; explore = explore; columns = (codes "region", Dim 0) ∷ []; filters = []; datagroup = datagroup }

-- table 1, of datagroup 1, is made of table 0, of datagroup 0, which is made of the orders; explore 2 reads table 1
abbrev pub chained : Model
chained = record shop_model {
  explores = orders_explore ∷ derived_view (codes "a") 0 ∷ derived_view (codes "b") 1 ∷ [];
  derived = derived_from (codes "a") 0 (Some 0) ∷ derived_from (codes "b") 1 (Some 1) ∷ [];
  datagroups = nightly ∷ nightly ∷ [];
}

-- a derived table that is made of itself
abbrev pub circular : Model
circular = record shop_model {
  explores = derived_view (codes "a") 0 ∷ [];
  derived = derived_from (codes "a") 0 None ∷ [];
}

-- ---- explores and models that are none of a resolved model

-- with a field of an expression, a kind and a shape
abbrev pub with_field : Kind → Formula → Shape → Explore
with_field k e s = record orders_explore { fields = record { name = codes "orders.f"; part = 0; kind = k; expr = e; shape = s } ∷ [] }

-- with a measure of a type, a kind and a value
abbrev pub with_measure : Op → Kind → Option Formula → Explore
with_measure o k v = orders_with Left (record { name = codes "orders.m"; part = 0; op = o; kind = k; value = v; key = None; filters = []; number = None } ∷ [])

-- NULLIF(NULL, created_at), which is a day or a moment, and always null
abbrev pub open_time : Formula
open_time = NullIf (Literal value.Null) (Column 0 3)

-- a `number` that is a measure; beside the first status as a text, and standing on itself
abbrev pub on_measure : ℕ → Measure
on_measure n = record { name = codes "orders.n"; part = 0; op = op.Number; kind = kind.Number; value = None; key = None; filters = []; number = Some (calculation.OfMeasure n) }

abbrev pub number_over_text : Explore
number_over_text = orders_with Left (record { name = codes "orders.m"; part = 0; op = op.Min; kind = kind.Text; value = Some (Column 0 2); key = None; filters = []; number = None } ∷ on_measure 5 ∷ [])

abbrev pub number_over_itself : Explore
number_over_itself = orders_with Left (on_measure 5 ∷ [])

-- with a filter on a status by a number, one that is not marked as relative, and a default filter
abbrev pub with_default_of : ℕ → Filter → Explore
with_default_of f filter = record orders_explore { always = (f, filter) ∷ [] }

-- users without their enforced key
abbrev pub without_key : Explore
without_key = record orders_explore { parts = keyed_part (codes "orders") 1 0 ∷ record (keyed_part (codes "users") 0 1) { enforced = None } ∷ keyed_part (codes "items") 2 2 ∷ [] }

-- one view too few
abbrev pub without_items : Explore
without_items = record orders_explore { parts = keyed_part (codes "orders") 1 0 ∷ keyed_part (codes "users") 0 1 ∷ [] }

-- an aggregate table over a moment's days
abbrev pub by_today : Rollup
by_today = record { name = codes "today"; dims = 3 ∷ []; measures = 0 ∷ []; filters = (3, record { include = test.Today ∷ []; exclude = []; relative = true }) ∷ []; datagroup = 0 }

-- explore 2 with an aggregate table of datagroup 1, beside a persisted table of datagroup 0
abbrev pub beside_rollup : Explore
beside_rollup = record (derived_view (codes "a") 0) { rollups = record { name = codes "r"; dims = 0 ∷ []; measures = []; filters = []; datagroup = 1 } ∷ [] }
