-- SELECTs of a shop with orders, users and items, and their texts.
use Rattle.std.specs.Prelude.{ℕ, ◌*◌, true, false, pos, neg_ℤ, List, [], ◌∷◌, ◌++◌, map, codes, Some, None}
use Rattle.lk_val.specs.declared.value.Value.TheVariants as value
use Rattle.lk_types.specs.declared.schema.Frame.TheVariants as frame
use Rattle.lk_types.specs.declared.expr.Comparison.TheVariants as comparison
use Rattle.lk_types.specs.declared.expr.Arithmetic.TheVariants as arithmetic
use Rattle.lk_types.specs.declared.expr.Piece.TheVariants as piece
use Rattle.lk_types.specs.declared.explore.JoinKind.TheVariants as join_kind
use Rattle.lk_sql_tree.specs.declared.node.Fold.TheVariants as fold
use Rattle.lk_sql_tree.specs.declared.node.KeyFold.TheVariants as key_fold
use Rattle.lk_sql_tree.specs.declared.select.SqlTable.{SqlTable}
use Rattle.lk_sql_tree.specs.declared.select.SqlJoin.{SqlJoin}
use Rattle.lk_sql_tree.specs.declared.select.SqlItem.{SqlItem}
use Rattle.lk_sql_tree.specs.declared.select.Select.{Select}
use Rattle.lk_sql_tree.specs.Trees.{Sql, Column, Literal, Framed, Not, And, Or, Compare, IsNull, In, Like, Number, Negate, Concat, Lower, Case, Coalesce, NullIf, CountRows, Folded, ByKey, no_more, more, no_else, otherwise, when}

abbrev of_orders : List ℕ → Sql
of_orders name = Column (codes "orders") name

abbrev of_users : List ℕ → Sql
of_users name = Column (codes "users") name

abbrev of_items : List ℕ → Sql
of_items name = Column (codes "items") name

abbrev number : ℕ → Sql
number n = Literal (value.Num (record { 0 = pos (10000 * n) }))

abbrev item : Sql → List ℕ → SqlItem
item e name = record { value = e; name = name }

-- a table under its own name
abbrev table : List ℕ → SqlTable
table name = record { table = name; part = name }

abbrev users : SqlJoin
users = record { kind = join_kind.Left; right = table (codes "users"); on = Some (Compare comparison.Equal (of_orders (codes "user_id")) (of_users (codes "id"))) }

abbrev items : SqlJoin
items = record { kind = join_kind.Left; right = table (codes "items"); on = Some (Compare comparison.Equal (of_items (codes "order_id")) (of_orders (codes "id"))) }

-- a user's region is any, or none
abbrev any_region : Sql
any_region = Or (Like (of_users (codes "region")) (piece.Any ∷ [])) (IsNull (of_users (codes "region")))

-- the total of all orders and the number of their items: the items can repeat an order
abbrev pub total_and_count : Select
total_and_count = record {
  items = item (ByKey key_fold.SumByKey (of_orders (codes "id")) (of_orders (codes "total"))) (codes "orders.total")
      ∷ item (Folded fold.Count (of_items (codes "id"))) (codes "items.count") ∷ [];
  from = table (codes "orders");
  joins = users ∷ items ∷ [];
  rows = Some any_region;
  groups = [];
  having = None;
  sorts = [];
  limit = Some 500;
}

abbrev pub total_and_count_text : List ℕ
total_and_count_text =
    codes "SELECT SUM_BY_KEY(\"orders\".\"id\", \"orders\".\"total\") AS \"orders.total\", COUNT(\"items\".\"id\") AS \"items.count\"\n"
    ++ codes "FROM \"orders\" AS \"orders\"\n"
    ++ codes "LEFT JOIN \"users\" AS \"users\" ON (\"orders\".\"user_id\" = \"users\".\"id\")\n"
    ++ codes "LEFT JOIN \"items\" AS \"items\" ON (\"items\".\"order_id\" = \"orders\".\"id\")\n"
    ++ codes "WHERE ((\"users\".\"region\" LIKE '%') OR (\"users\".\"region\" IS NULL))\n"
    ++ codes "LIMIT 500\n"

-- each month with the total of its orders, where that is above 100, the greatest total first
abbrev pub total_by_month : Select
total_by_month = record {
  items = item (Framed frame.Month (of_orders (codes "created_at"))) (codes "orders.created_month")
      ∷ item (Folded fold.Sum (of_orders (codes "total"))) (codes "orders.total") ∷ [];
  from = table (codes "orders");
  joins = users ∷ [];
  rows = Some any_region;
  groups = 1 ∷ [];
  having = Some (Compare comparison.Greater (Folded fold.Sum (of_orders (codes "total"))) (number 100));
  sorts = record { place = 2; down = true } ∷ record { place = 1; down = false } ∷ [];
  limit = Some 500;
}

abbrev pub total_by_month_text : List ℕ
total_by_month_text =
    codes "SELECT DATE_FRAME('month', \"orders\".\"created_at\") AS \"orders.created_month\", COALESCE(SUM(\"orders\".\"total\"), 0) AS \"orders.total\"\n"
    ++ codes "FROM \"orders\" AS \"orders\"\n"
    ++ codes "LEFT JOIN \"users\" AS \"users\" ON (\"orders\".\"user_id\" = \"users\".\"id\")\n"
    ++ codes "WHERE ((\"users\".\"region\" LIKE '%') OR (\"users\".\"region\" IS NULL))\n"
    ++ codes "GROUP BY 1\n"
    ++ codes "HAVING (COALESCE(SUM(\"orders\".\"total\"), 0) > 100)\n"
    ++ codes "ORDER BY 2 DESC NULLS LAST, 1 ASC NULLS FIRST\n"
    ++ codes "LIMIT 500\n"

-- what has to be quoted: a name with a double quote, a text with a quote, a pattern with `%`, `_` and `^`
abbrev pub quoted_names : Select
quoted_names = record {
  items = item (Case (Like (Column (codes "a\"b") (codes "c")) (map piece.Byte (codes "5%_^") ++ piece.One ∷ [])) (Literal (value.Text (codes "it's"))) no_else) (codes "d\"") ∷ [];
  from = record { table = codes "derived:t"; part = codes "a\"b" };
  joins = record { kind = join_kind.Cross; right = table (codes "u"); on = None } ∷ [];
  rows = None;
  groups = [];
  having = None;
  sorts = [];
  limit = None;
}

abbrev pub quoted_names_text : List ℕ
quoted_names_text =
    codes "SELECT CASE WHEN (\"a\"\"b\".\"c\" LIKE '5^%^_^^_') THEN 'it''s' END AS \"d\"\"\"\n"
    ++ codes "FROM \"derived:t\" AS \"a\"\"b\"\n"
    ++ codes "CROSS JOIN \"u\" AS \"u\"\n"

-- a value with each of the other forms that stand over rows
abbrev pub of_each_form : Sql
of_each_form =
    Case (Not (And (In (of_users (codes "id")) (number 1) (more (Negate (number 2)) no_more)) (Compare comparison.NotEqual (of_users (codes "id")) (Literal value.Null))))
    (Coalesce (Concat (Lower (of_users (codes "region"))) (Literal (value.Text []))) (more (NullIf (of_users (codes "region")) (Literal (value.Text (codes "x")))) no_more))
    (when (Literal (value.Truth true)) (Number arithmetic.Over (Literal (value.Num (record { 0 = neg_ℤ (pos 15000) }))) (number 3)) (otherwise (Literal (value.Truth false))))

abbrev pub each_form_text : List ℕ
each_form_text =
    codes "CASE WHEN (NOT ((\"users\".\"id\" IN (1, (- 2))) AND (\"users\".\"id\" <> NULL)))"
    ++ codes " THEN COALESCE((LOWER(\"users\".\"region\") || ''), NULLIF(\"users\".\"region\", 'x'))"
    ++ codes " WHEN TRUE THEN (-1.5 / 3) ELSE FALSE END"

-- a count of rows, and one of the values that meet a condition
abbrev pub counts : List Sql
counts = CountRows ∷ Folded fold.Count (Case any_region (number 1) no_else) ∷ []

-- the first days of a year, and a moment of it
abbrev pub day_and_moment : List Sql
day_and_moment = Literal (value.Day (pos 19723)) ∷ Literal (value.Moment (pos 1704153600)) ∷ []
