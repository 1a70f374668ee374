-- Which joins ask for which others.
use Rattle.std.specs.Prelude.{◌≡◌, ℕ, Bool, ◌||◌, List, length, map}
use Rattle.lk_types.specs.Expressions.{has_number}
use Rattle.lk_types.specs.declared.explore.Explore.{Explore}
use Rattle.lk_semantics.specs.Joins.{brings_one_of, condition_of, join_at, mentions_of, numbers_below}

-- a query's parts have the view that a join brings, or the join is always taken, or `sql_always_where` mentions its view
abbrev pub is_asked_first : Explore → List ℕ → ℕ → Bool
is_asked_first x parts j = brings_one_of parts j || has_number j x.always_join || brings_one_of (mentions_of x.always_where) j

-- a join requires another, or mentions its view in its condition
abbrev pub does_ask : Explore → ℕ → ℕ → Bool
does_ask x i j = has_number j (join_at x i).required || brings_one_of (mentions_of (condition_of (join_at x i))) j

-- for each join, whether it is asked for by the query, and for each two, whether the first asks for the second
pub record IsAsking (x : Explore) (parts : List ℕ) (marks : List Bool) (rows : List (List Bool)) : Type 0 where
  pub asked : marks ≡ map (is_asked_first x parts) (numbers_below (length x.joins))
  pub asking : rows ≡ map (λ i. map (does_ask x i) (numbers_below (length x.joins))) (numbers_below (length x.joins))
