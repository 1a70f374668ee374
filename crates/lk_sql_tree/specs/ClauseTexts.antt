-- The text of a SELECT, clause by clause.
use Rattle.std.specs.Prelude.{ℕ, List, [], ◌∷◌, ◌++◌, flat_map, codes, decimal, Option, Some, None}
use Rattle.lk_sql_tree.specs.declared.select.SqlTable.{SqlTable}
use Rattle.lk_sql_tree.specs.declared.select.SqlJoin.{SqlJoin}
use Rattle.lk_sql_tree.specs.declared.select.SqlItem.{SqlItem}
use Rattle.lk_sql_tree.specs.declared.select.SqlSort.{SqlSort}
use Rattle.lk_sql_tree.specs.declared.select.Select.{Select}
use Rattle.lk_sql_tree.specs.Trees.{Sql}
use Rattle.lk_sql_tree.specs.Texts.{name_text}
use Rattle.lk_sql_tree.specs.SelectTexts.{direction_text, join_front}
use Rattle.lk_sql_tree.specs.NodeTexts.{text_of}

-- further things, each behind a comma
abbrev pub further_text : {A : Type 0} → (A → List ℕ) → List A → List ℕ
further_text text xs = flat_map (λ x. codes ", " ++ text x) xs

-- a clause that lists something
abbrev pub clause_text : {A : Type 0} → List ℕ → (A → List ℕ) → List A → List ℕ
clause_text front text [] = []
clause_text front text (x ∷ xs) = front ++ (text x ++ (further_text text xs ++ codes "\n"))

abbrev pub item_text : SqlItem → List ℕ
item_text item = text_of item.value ++ (codes " AS " ++ name_text item.name)

abbrev pub table_text : SqlTable → List ℕ
table_text t = name_text t.table ++ (codes " AS " ++ name_text t.part)

abbrev pub from_text : SqlTable → List ℕ
from_text t = codes "FROM " ++ (table_text t ++ codes "\n")

abbrev pub on_text : Option Sql → List ℕ
on_text None = []
on_text (Some e) = codes " ON " ++ text_of e

abbrev pub join_text : SqlJoin → List ℕ
join_text j = join_front j.kind ++ (table_text j.right ++ (on_text j.on ++ codes "\n"))

abbrev pub joins_text : List SqlJoin → List ℕ
joins_text js = flat_map join_text js

abbrev pub condition_text : List ℕ → Option Sql → List ℕ
condition_text front None = []
condition_text front (Some e) = front ++ (text_of e ++ codes "\n")

abbrev pub sort_text : SqlSort → List ℕ
sort_text s = decimal s.place ++ direction_text s.down

abbrev pub limit_text : Option ℕ → List ℕ
limit_text None = []
limit_text (Some n) = codes "LIMIT " ++ (decimal n ++ codes "\n")

-- the clauses in two halves: what is joined, and what becomes of its rows
abbrev pub front_text : Select → List ℕ
front_text s = clause_text (codes "SELECT ") item_text s.items ++ (from_text s.from ++ (joins_text s.joins ++ condition_text (codes "WHERE ") s.rows))

abbrev pub back_text : Select → List ℕ
back_text s =
    clause_text (codes "GROUP BY ") decimal s.groups
    ++ (condition_text (codes "HAVING ") s.having ++ (clause_text (codes "ORDER BY ") sort_text s.sorts ++ limit_text s.limit))
