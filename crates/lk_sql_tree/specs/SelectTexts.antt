-- The printed text of a SELECT: each clause on a line of its own, written with what comes behind it.
use Rattle.std.specs.Prelude.{ℕ, Bool, true, false, List, [], ◌∷◌, ◌++◌, codes, decimal, Option, Some, None}
use Rattle.lk_types.specs.declared.explore.JoinKind.{JoinKind}
use Rattle.lk_types.specs.declared.explore.JoinKind.TheVariants.{Left, Full, Inner, Cross}
use Rattle.lk_sql_tree.specs.declared.select.SqlTable.{SqlTable}
use Rattle.lk_sql_tree.specs.declared.select.SqlJoin.{SqlJoin}
use Rattle.lk_sql_tree.specs.declared.select.SqlItem.{SqlItem}
use Rattle.lk_sql_tree.specs.declared.select.SqlSort.{SqlSort}
use Rattle.lk_sql_tree.specs.declared.select.Select.{Select}
use Rattle.lk_sql_tree.specs.Trees.{Sql}
use Rattle.lk_sql_tree.specs.Texts.{name_text, text_then}

-- further things, each behind a comma
abbrev pub further_then : {A : Type 0} → (A → List ℕ → List ℕ) → List A → List ℕ → List ℕ
further_then text [] rest = rest
further_then text (x ∷ xs) rest = codes ", " ++ text x (further_then text xs rest)

-- a clause that lists something: nothing where there is nothing, and else one line
abbrev pub clause_then : {A : Type 0} → List ℕ → (A → List ℕ → List ℕ) → List A → List ℕ → List ℕ
clause_then word text [] rest = rest
clause_then word text (x ∷ xs) rest = word ++ text x (further_then text xs (10 ∷ rest))

-- a value under the name of its column
abbrev pub item_then : SqlItem → List ℕ → List ℕ
item_then item rest = text_then item.value (codes " AS " ++ (name_text item.name ++ rest))

-- a table under the name of its part
abbrev pub table_then : SqlTable → List ℕ → List ℕ
table_then t rest = name_text t.table ++ (codes " AS " ++ (name_text t.part ++ rest))

abbrev pub join_front : JoinKind → List ℕ
join_front Left = codes "LEFT JOIN "
join_front Full = codes "FULL JOIN "
join_front Inner = codes "INNER JOIN "
join_front Cross = codes "CROSS JOIN "

abbrev pub on_then : Option Sql → List ℕ → List ℕ
on_then None rest = rest
on_then (Some e) rest = codes " ON " ++ text_then e rest

-- each join on a line of its own
abbrev pub join_then : SqlJoin → List ℕ → List ℕ
join_then j rest = join_front j.kind ++ table_then j.right (on_then j.on (10 ∷ rest))

abbrev pub joins_then : List SqlJoin → List ℕ → List ℕ
joins_then [] rest = rest
joins_then (j ∷ js) rest = join_then j (joins_then js rest)

-- a condition behind its word, on a line of its own, where there is one
abbrev pub condition_then : List ℕ → Option Sql → List ℕ → List ℕ
condition_then word None rest = rest
condition_then word (Some e) rest = word ++ text_then e (10 ∷ rest)

abbrev pub place_then : ℕ → List ℕ → List ℕ
place_then n rest = decimal n ++ rest

-- null stands before all values, and in a descending sort behind them (lookd)
abbrev pub direction_text : Bool → List ℕ
direction_text false = codes " ASC NULLS FIRST"
direction_text true = codes " DESC NULLS LAST"

abbrev pub sort_then : SqlSort → List ℕ → List ℕ
sort_then s rest = decimal s.place ++ (direction_text s.down ++ rest)

abbrev pub limit_then : Option ℕ → List ℕ → List ℕ
limit_then None rest = rest
limit_then (Some n) rest = codes "LIMIT " ++ (decimal n ++ 10 ∷ rest)

-- the text of a SELECT: its clauses in the order of SQL, each that has content as one line (lookd)
abbrev pub select_text : Select → List ℕ
select_text s =
    clause_then (codes "SELECT ") item_then s.items
    (codes "FROM " ++ table_then s.from (10 ∷
    (joins_then s.joins
    (condition_then (codes "WHERE ") s.rows
    (clause_then (codes "GROUP BY ") place_then s.groups
    (condition_then (codes "HAVING ") s.having
    (clause_then (codes "ORDER BY ") sort_then s.sorts
    (limit_then s.limit []))))))))
