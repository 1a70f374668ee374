-- Wrong definitions, to be told from the right ones on the shop.
use Rattle.std.specs.Prelude.{ℕ, ℤ, Bool, true, not, List, [], map, filter}
use Rattle.std.specs.List.{list_any}
use Rattle.lk_val.specs.Sets.{set_of}
use Rattle.lk_val.specs.Values.{tuple_cmp, is_null}
use Rattle.lk_val.specs.declared.value.Value.{Value}
use Rattle.lk_val.specs.declared.value.Value.TheVariants as value
use Rattle.lk_semantics.specs.Joins.{joined_rows}
use Rattle.lk_types.specs.declared.rows.Sources.{Sources}
use Rattle.lk_semantics.specs.Rows.{tuple_of, passing_rows}
use Rattle.lk_semantics.specs.Measures.{Entry, entry_at, pair_of, total, conflicts_of}
use Rattle.lk_semantics.specs.Answers.{given_rows, ops_of, answer_over}
use Rattle.lk_types.specs.declared.explore.Op.{Op}
use Rattle.lk_types.specs.declared.rows.Joined.{Joined}
use Rattle.lk_types.specs.declared.explore.Explore.{Explore}
use Rattle.lk_types.specs.declared.answer.Answer.{Answer}
use Rattle.lk_types.specs.declared.bound.Bound.{Bound}

-- what all rows give to the first of some measures
abbrev pub given_entries : Explore → List ℕ → List Joined → List Entry
given_entries x measures rows = map (entry_at 0) (given_rows x [] measures rows)

-- WRONG: the total over joined rows, without distinct keys
abbrev pub total_of_rows : Op → List Entry → ℤ
total_of_rows op entries = total (map (pair_of op) entries)

-- WRONG: what is not false passes
abbrev pub is_not_false : Value → Bool
is_not_false (value.Truth b) = b
is_not_false v = true

-- WRONG: the groups of rows without null
abbrev pub groups_without_null : Explore → List ℕ → List Joined → List (List Value)
groups_without_null x dims rows = set_of tuple_cmp (filter (λ group. not (list_any is_null group)) (map (tuple_of x dims) rows))

-- WRONG: an answer over all joined rows, as if access filters were left to the groups
abbrev pub answer_over_all : Explore → Sources → Bound → Answer
answer_over_all x s b = answer_over x b (passing_rows x b.rows (joined_rows x s b.joins))

-- WRONG: conflicts among the rows that the caller does not see too
abbrev pub conflicts_of_all : Explore → Sources → Bound → List ℕ → List (ℕ × Value)
conflicts_of_all x s b measures = conflicts_of 0 (ops_of x measures) (given_rows x [] measures (passing_rows x b.rows (joined_rows x s b.joins)))
