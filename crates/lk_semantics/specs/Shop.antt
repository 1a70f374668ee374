-- A shop of three tables on which the definitions are computed: its explore, its rows, and queries over them.
use Rattle.std.specs.Prelude.{ℕ, pos, true, false, List, [], ◌∷◌, ◌++◌, map, Option, Some, None, codes}
use Rattle.lk_val.specs.declared.value.Value.{Value}
use Rattle.lk_val.specs.declared.value.Value.TheVariants as value
use Rattle.lk_types.specs.Calculation as calculation
use Rattle.lk_types.specs.Formula.{Formula, Column, Compare, Literal, Not}
use Rattle.lk_types.specs.Tables.{Rows}
use Rattle.lk_types.specs.Samples.{units, parts, word}
use Rattle.lk_types.specs.declared.rows.Sources.{Sources}
use Rattle.lk_types.specs.declared.expr.Arithmetic.TheVariants as arithmetic
use Rattle.lk_types.specs.declared.expr.Comparison.TheVariants as comparison
use Rattle.lk_types.specs.declared.expr.Piece.TheVariants as piece
use Rattle.lk_types.specs.declared.schema.Kind.{Kind}
use Rattle.lk_types.specs.declared.schema.Kind.TheVariants as kind
use Rattle.lk_types.specs.declared.schema.Frame.TheVariants as frame
use Rattle.lk_types.specs.declared.explore.Shape.{Shape}
use Rattle.lk_types.specs.declared.explore.Shape.TheVariants as shape
use Rattle.lk_types.specs.declared.explore.Field.{Field}
use Rattle.lk_types.specs.declared.explore.Part.{Part}
use Rattle.lk_types.specs.declared.explore.Origin.TheVariants.{Stored}
use Rattle.lk_types.specs.declared.explore.Join.{Join}
use Rattle.lk_types.specs.declared.explore.JoinKind.{JoinKind}
use Rattle.lk_types.specs.declared.explore.JoinKind.TheVariants.{Left}
use Rattle.lk_types.specs.declared.explore.Relation.TheVariants.{ManyToOne, OneToMany}
use Rattle.lk_types.specs.declared.explore.Measure.{Measure}
use Rattle.lk_types.specs.declared.explore.Op.{Op}
use Rattle.lk_types.specs.declared.explore.Op.TheVariants as op
use Rattle.lk_types.specs.declared.explore.Rollup.{Rollup}
use Rattle.lk_types.specs.declared.explore.Explore.{Explore}
use Rattle.lk_types.specs.declared.filter.Filter.{Filter}
use Rattle.lk_types.specs.declared.filter.Edge.{Edge}
use Rattle.lk_types.specs.declared.filter.Edge.TheVariants as edge
use Rattle.lk_types.specs.declared.filter.Test.{Test}
use Rattle.lk_types.specs.declared.filter.Test.TheVariants as test
use Rattle.lk_types.specs.declared.model.Pick.{Pick}
use Rattle.lk_types.specs.declared.bound.Bound.{Bound}
use Rattle.lk_val.specs.declared.cell.Cell.{Cell}
use Rattle.lk_val.specs.declared.cell.Cell.TheVariants as cell
use Rattle.lk_semantics.specs.Rollups.{no_partial}
use Rattle.lk_types.specs.declared.answer.Partial.{Partial}
use Rattle.lk_types.specs.declared.answer.Answer.{Answer}
use Rattle.lk_types.specs.declared.answer.Answer.TheVariants.{Table}
use Rattle.lk_types.specs.declared.model.Model.{Model}
use Rattle.lk_types.specs.declared.model.Datagroup.{Datagroup}
use Rattle.lk_types.specs.declared.model.Trigger.TheVariants.{Today}
use Rattle.lk_types.specs.declared.schema.TableDef.{TableDef}
use Rattle.lk_types.specs.declared.schema.ColumnDef.{ColumnDef}

-- ---- tables

abbrev pub users : Rows
users = (units 1 ∷ word (codes "EU") ∷ []) ∷ (units 2 ∷ word (codes "US") ∷ []) ∷ []

abbrev pub order_row : ℕ → ℕ → List ℕ → ℕ → ℕ → List Value
order_row id user status at total = units id ∷ units user ∷ word status ∷ value.Moment (pos at) ∷ parts total ∷ []

abbrev pub orders : Rows
orders = order_row 10 1 (codes "complete") 1706745599 1000000 ∷ order_row 11 1 (codes "open") 1706745600 500000 ∷ order_row 12 2 (codes "complete") 1709208000 305000 ∷ []

abbrev pub items : Rows
items = (units 1 ∷ units 10 ∷ units 60 ∷ []) ∷ (units 2 ∷ units 10 ∷ units 40 ∷ []) ∷ (units 3 ∷ units 11 ∷ units 50 ∷ []) ∷ []

abbrev pub shop : Sources
shop = record { stored = users ∷ orders ∷ items ∷ []; derived = [] }

-- the same without the orders and items that the region US has, and with others in their place
abbrev pub other_orders : Rows
other_orders = order_row 10 1 (codes "complete") 1706745599 1000000 ∷ order_row 11 1 (codes "open") 1706745600 500000 ∷ order_row 12 2 (codes "open") 1709208000 70000 ∷ []

abbrev pub other_items : Rows
other_items = items ++ (units 4 ∷ units 12 ∷ units 5 ∷ []) ∷ (units 5 ∷ units 12 ∷ units 9 ∷ []) ∷ []

abbrev pub other_shop : Sources
other_shop = record { stored = users ∷ other_orders ∷ other_items ∷ []; derived = [] }

-- an order without a user
abbrev pub order_without_user : List Value
order_without_user = units 13 ∷ value.Null ∷ word (codes "open") ∷ value.Null ∷ value.Null ∷ []

abbrev pub shop_without_user : Sources
shop_without_user = record { stored = users ∷ (orders ++ order_without_user ∷ []) ∷ items ∷ []; derived = [] }

-- two orders of the greatest total
abbrev pub greatest_shop : Sources
greatest_shop = record { stored = users ∷ (order_row 10 1 (codes "open") 0 9223372036854775807 ∷ order_row 11 1 (codes "open") 0 9223372036854775807 ∷ []) ∷ [] ∷ []; derived = [] }

abbrev pub empty_shop : Sources
empty_shop = record { stored = [] ∷ [] ∷ [] ∷ []; derived = [] }

-- ---- the explore `orders`. Parts: 0 orders, 1 users, 2 items

abbrev pub plain : List ℕ → ℕ → Kind → ℕ → Field
plain name part kind column = record { name = name; part = part; kind = kind; expr = Column part column; shape = shape.Plain }

-- a timeframe of the moment at which an order was created: its first day, or a week's or a month's
abbrev pub created : List ℕ → Shape → Field
created name shape = record { name = name; part = 0; kind = kind.Day; expr = Column 0 3; shape = shape }

-- 0 id, 1 user_id, 2 status, 3 created_date, 4 created_week, 5 created_month; 6 users.id, 7 users.region; 8 items.id, 9 items.order_id, 10 items.price
abbrev pub fields : List Field
fields =
    plain (codes "orders.id") 0 kind.Number 0 ∷ plain (codes "orders.user_id") 0 kind.Number 1 ∷ plain (codes "orders.status") 0 kind.Text 2
    ∷ created (codes "orders.created_date") (shape.Frame 0 frame.Date) ∷ created (codes "orders.created_week") (shape.Frame 0 frame.Week) ∷ created (codes "orders.created_month") (shape.Frame 0 frame.Month)
    ∷ plain (codes "users.id") 1 kind.Number 0 ∷ plain (codes "users.region") 1 kind.Text 1
    ∷ plain (codes "items.id") 2 kind.Number 0 ∷ plain (codes "items.order_id") 2 kind.Number 1 ∷ plain (codes "items.price") 2 kind.Number 2 ∷ []

abbrev pub measure : List ℕ → ℕ → Op → Option Formula → Measure
measure name part op value = record { name = name; part = part; op = op; kind = kind.Number; value = value; key = None; filters = []; number = None }

-- 0 count, 1 total, 2 average_total, 3 price_sum; 4 items.count
abbrev pub measures : List Measure
measures =
    measure (codes "orders.count") 0 op.Count None ∷ measure (codes "orders.total") 0 op.Sum (Some (Column 0 4))
    ∷ measure (codes "orders.average_total") 0 op.Average (Some (Column 0 4)) ∷ measure (codes "orders.price_sum") 0 op.Sum (Some (Column 2 2))
    ∷ measure (codes "items.count") 2 op.Count None ∷ []

abbrev pub keyed_part : List ℕ → ℕ → ℕ → Part
keyed_part name table part = record { name = name; origin = Stored table; key = Some (Column part 0); enforced = Some 0 }

abbrev pub equals : Formula → Formula → Formula
equals a b = Compare comparison.Equal a b

abbrev pub users_join : JoinKind → Join
users_join kind = record { kind = kind; relation = ManyToOne; on = Some (equals (Column 0 1) (Column 1 0)); required = [] }

abbrev pub items_join : Join
items_join = record { kind = Left; relation = OneToMany; on = Some (equals (Column 2 1) (Column 0 0)); required = [] }

abbrev pub by_day : Rollup
by_day = record { name = codes "by_day"; dims = 7 ∷ 3 ∷ []; measures = 0 ∷ 1 ∷ 2 ∷ []; filters = []; datagroup = 0 }

abbrev pub by_price : Rollup
by_price = record { name = codes "by_price"; dims = 7 ∷ 10 ∷ []; measures = 1 ∷ 4 ∷ []; filters = []; datagroup = 0 }

abbrev pub orders_with : JoinKind → List Measure → Explore
orders_with kind more_measures = record {
  name = codes "orders";
  parts = keyed_part (codes "orders") 1 0 ∷ keyed_part (codes "users") 0 1 ∷ keyed_part (codes "items") 2 2 ∷ [];
  joins = users_join kind ∷ items_join ∷ [];
  fields = fields;
  measures = measures ++ more_measures;
  always_join = [];
  always = [];
  always_where = None;
  access = (7, codes "region") ∷ [];
  rollups = by_day ∷ by_price ∷ [];
}

abbrev pub orders_explore : Explore
orders_explore = orders_with Left []

-- further measures: a total per order, 1.0 * total / NULLIF(count, 0), and the greatest total
abbrev pub per_order : Measure
per_order = record {
  name = codes "orders.per";
  part = 0;
  op = op.Number;
  kind = kind.Number;
  value = None;
  key = None;
  filters = [];
  number = Some (calculation.Apply arithmetic.Over (calculation.Apply arithmetic.Times (calculation.Number (record { 0 = pos 10000 })) (calculation.OfMeasure 1)) (calculation.NullIf (calculation.OfMeasure 0) (calculation.Number (record { 0 = pos 0 }))));
}

abbrev pub greatest_total : Measure
greatest_total = measure (codes "orders.top") 0 op.Max (Some (Column 0 4))

-- a condition that is unknown of an order without a user: NOT (user_id > 1000)
abbrev pub not_far : Formula
not_far = Not (Compare comparison.Greater (Column 0 1) (Literal (units 1000)))

abbrev pub near_orders : Explore
near_orders = record orders_explore { always_where = Some not_far }

-- the columns of the tables
abbrev pub column : List ℕ → Kind → ColumnDef
column name kind = record { name = name; kind = kind }

abbrev pub users_def : TableDef
users_def = record { name = codes "users"; columns = column (codes "id") kind.Number ∷ column (codes "region") kind.Text ∷ []; key = Some 0 }

abbrev pub orders_def : TableDef
orders_def = record {
  name = codes "orders";
  columns = column (codes "id") kind.Number ∷ column (codes "user_id") kind.Number ∷ column (codes "status") kind.Text
      ∷ column (codes "created_at") kind.Moment ∷ column (codes "total") kind.Number ∷ [];
  key = Some 0;
}

abbrev pub items_def : TableDef
items_def = record { name = codes "items"; columns = column (codes "id") kind.Number ∷ column (codes "order_id") kind.Number ∷ column (codes "price") kind.Number ∷ []; key = Some 0 }

-- a datagroup that is rebuilt each day
abbrev pub nightly : Datagroup
nightly = record { name = codes "nightly"; trigger = Some Today; interval = None }

abbrev pub shop_model : Model
shop_model = record { schema = record { tables = users_def ∷ orders_def ∷ items_def ∷ [] }; explores = orders_explore ∷ []; derived = []; datagroups = nightly ∷ [] }

-- ---- queries

abbrev pub filter_of : List Test → Filter
filter_of tests = record { include = tests; exclude = []; relative = false }

-- the region filters of the callers `all`, `%,NULL`, and `ann`, `EU`
abbrev pub all_regions : List (ℕ × Filter)
all_regions = (7, filter_of (test.Like (piece.Any ∷ []) ∷ test.Null ∷ [])) ∷ []

abbrev pub only_eu : List (ℕ × Filter)
only_eu = (7, filter_of (test.Like (piece.Byte 69 ∷ piece.Byte 85 ∷ []) ∷ [])) ∷ []

abbrev pub query : List Pick → List ℕ → Bound
query picks joins = record { explore = 0; picks = picks; joins = joins; access = all_regions; rows = []; having = []; sorts = []; limit = 500; fresh = false; csv = true }

-- the query of the caller who sees the region EU
abbrev pub query_of_ann : List Pick → List ℕ → Bound
query_of_ann picks joins = record (query picks joins) { access = only_eu }

-- the orders 11 and 12 alone
abbrev pub two_orders : List (ℕ × Filter)
two_orders = (0, filter_of (test.Is (record { 0 = pos 110000 }) ∷ test.Is (record { 0 = pos 120000 }) ∷ [])) ∷ []

-- the orders of a status
abbrev pub of_status : List ℕ → List (ℕ × Filter)
of_status text = (2, filter_of (test.Like (map piece.Byte text) ∷ [])) ∷ []

-- without the access filter
abbrev pub open_query : List Pick → List ℕ → Bound
open_query picks joins = record (query picks joins) { access = [] }

-- ---- answers

abbrev pub whole : List (List Cell) → Answer
whole rows = Table rows true

abbrev pub sum : ℕ → Cell
sum n = cell.Sum (pos n)

abbrev pub dim : Value → Cell
dim v = cell.Value v

abbrev pub day : ℕ → Cell
day n = cell.Value (value.Day (pos n))

abbrev pub fraction_cell : ℕ → ℕ → Cell
fraction_cell n d = cell.Frac (record { n = pos n; d = pos d })

-- ---- filters

-- a total of at least 100
abbrev pub at_least_100 : List (ℕ × Filter)
at_least_100 = (1, filter_of (test.Compare ((comparison.AtLeast, record { 0 = pos 1000000 }) ∷ []) ∷ [])) ∷ []

-- ---- what a rollup keeps

abbrev pub of_values : ℕ → ℕ → Partial
of_values total values = record no_partial { sum = pos total; values = values }

-- a region's day: one order, and its total twice, for the total and for the average
abbrev pub kept : List ℕ → ℕ → ℕ → List Value × List Partial
kept region on total =
    (word region ∷ value.Day (pos on) ∷ [], record no_partial { count = 1 } ∷ of_values total 1 ∷ of_values total 1 ∷ [])
