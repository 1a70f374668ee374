-- The text of a SELECT is that of its clauses.
use Rattle.std.proofs.Common.{◌≡◌, ℕ, List, [], ◌∷◌, ◌++◌, refl, sym, ap, ◌∙◌}
use Rattle.std.specs.Prelude.{codes, decimal, Option, Some, None}
use Rattle.std.proofs.lemmas.List.{append-nil, append_assoc}
use Rattle.lk_sql_tree.specs.declared.select.SqlTable.{SqlTable}
use Rattle.lk_sql_tree.specs.declared.select.SqlJoin.{SqlJoin}
use Rattle.lk_sql_tree.specs.declared.select.SqlItem.{SqlItem}
use Rattle.lk_sql_tree.specs.declared.select.Select.{Select}
use Rattle.lk_sql_tree.specs.Trees.{Sql}
use Rattle.lk_sql_tree.specs.Texts.{name_text, text_then}
use Rattle.lk_sql_tree.specs.NodeTexts.{text_of}
use Rattle.lk_sql_tree.specs.SelectTexts.{clause_then, condition_then, direction_text, further_then, item_then, join_front, join_then, joins_then, limit_then, on_then, place_then, select_text, sort_then, table_then}
use Rattle.lk_sql_tree.specs.ClauseTexts.{back_text, clause_text, condition_text, front_text, further_text, item_text, join_text, joins_text, limit_text, on_text, sort_text, table_text}
use Rattle.lk_sql_tree.proofs.TreeLaws.{stands}

-- a text that is written with what comes behind it is this one before that
record Writes (text : List ℕ → List ℕ) (flat : List ℕ) : Type 0 where
  is : (rest : List ℕ) → text rest ≡ flat ++ rest

nothing : Writes (λ rest. rest) []
nothing = record { is = λ rest. refl }

last : (back : List ℕ) → Writes (λ rest. back ++ rest) back
last back = record { is = λ rest. refl }

word : (front : List ℕ) {text : List ℕ → List ℕ} {flat : List ℕ} → Writes text flat → Writes (λ rest. front ++ text rest) (front ++ flat)
word front {flat = flat} h = record { is = λ rest. ap (λ ts. front ++ ts) (h.is rest) ∙ sym (append_assoc front flat rest) }

then : {first second : List ℕ → List ℕ} {a b : List ℕ} → Writes first a → Writes second b → Writes (λ rest. first (second rest)) (a ++ b)
then {second = second} {a = a} {b = b} f g = record { is = λ rest. f.is (second rest) ∙ ap (λ ts. a ++ ts) (g.is rest) ∙ sym (append_assoc a b rest) }

expression : (e : Sql) → Writes (text_then e) (text_of e)
expression e = record { is = λ rest. (stands e).is rest }

item : (i : SqlItem) → Writes (item_then i) (item_text i)
item i = then (expression i.value) (word (codes " AS ") (last (name_text i.name)))

table : (t : SqlTable) → Writes (table_then t) (table_text t)
table t = word (name_text t.table) (word (codes " AS ") (last (name_text t.part)))

on : (e : Option Sql) → Writes (on_then e) (on_text e)
on None = nothing
on (Some e) = word (codes " ON ") (expression e)

join : (j : SqlJoin) → Writes (join_then j) (join_text j)
join j = word (join_front j.kind) (then (table j.right) (then (on j.on) (last (codes "\n"))))

joins : (js : List SqlJoin) → Writes (joins_then js) (joins_text js)
joins [] = nothing
joins (j ∷ js) = then (join j) (joins js)

condition : (front : List ℕ) (e : Option Sql) → Writes (condition_then front e) (condition_text front e)
condition front None = nothing
condition front (Some e) = word front (then (expression e) (last (codes "\n")))

further : {A : Type 0} (text : A → List ℕ → List ℕ) (flat : A → List ℕ) → ((x : A) → Writes (text x) (flat x)) → (xs : List A) → Writes (further_then text xs) (further_text flat xs)
further text flat each [] = nothing
further text flat each (x ∷ xs) = record {
  is = λ rest.
      (word (codes ", ") (then (each x) (further text flat each xs))).is rest
      ∙ ap (λ ts. ts ++ rest) (sym (append_assoc (codes ", ") (flat x) (further_text flat xs)));
}

clause : {A : Type 0} (front : List ℕ) (text : A → List ℕ → List ℕ) (flat : A → List ℕ) → ((x : A) → Writes (text x) (flat x)) → (xs : List A) → Writes (clause_then front text xs) (clause_text front flat xs)
clause front text flat each [] = nothing
clause front text flat each (x ∷ xs) = word front (then (each x) (then (further text flat each xs) (last (codes "\n"))))

limit : (n : Option ℕ) → Writes (limit_then n) (limit_text n)
limit None = nothing
limit (Some n) = word (codes "LIMIT ") (word (decimal n) (last (codes "\n")))

-- the front half before what comes behind it, and the back half
back_is : (s : Select) → clause_then (codes "GROUP BY ") place_then s.groups (condition_then (codes "HAVING ") s.having (clause_then (codes "ORDER BY ") sort_then s.sorts (limit_then s.limit []))) ≡ back_text s
back_is s =
    (then (clause (codes "GROUP BY ") place_then decimal (λ n. last (decimal n)) s.groups)
    (then (condition (codes "HAVING ") s.having)
    (then (clause (codes "ORDER BY ") sort_then sort_text (λ o. word (decimal o.place) (last (direction_text o.down))) s.sorts)
    (limit s.limit)))).is []
    ∙ append-nil (back_text s)

pub clauses_are : (s : Select) → front_text s ++ back_text s ≡ select_text s
clauses_are s = sym (
    (then (clause (codes "SELECT ") item_then item_text item s.items)
    (then (word (codes "FROM ") (then (table s.from) (last (codes "\n"))))
    (then (joins s.joins)
    (condition (codes "WHERE ") s.rows)))).is (clause_then (codes "GROUP BY ") place_then s.groups (condition_then (codes "HAVING ") s.having (clause_then (codes "ORDER BY ") sort_then s.sorts (limit_then s.limit []))))
    ∙ ap (λ ts. front_text s ++ ts) (back_is s))
