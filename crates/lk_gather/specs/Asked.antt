-- A query with its conditions: what they stand for, and what a row gives to its groups and measures.
use Rattle.std.specs.Prelude.{◌≡◌, All, Bool, true, ◌&&◌, List, filter, map}
use Rattle.lk_types.specs.Dates.{are_literals_dated}
use Rattle.lk_types.specs.Expressions.{is_true, value_of}
use Rattle.lk_types.specs.declared.answer.GivenRow.{GivenRow}
use Rattle.lk_types.specs.declared.bound.Plan.{Plan}
use Rattle.lk_types.specs.declared.explore.Explore.{Explore}
use Rattle.lk_types.specs.declared.rows.Joined.{Joined}
use Rattle.lk_semantics.specs.Answers.{dims_of, given_rows, key_value, measure_at, query_components}
use Rattle.lk_semantics.specs.Joins.{is_met, joined_rows}
use Rattle.lk_types.specs.declared.rows.Sources.{Sources}
use Rattle.lk_semantics.specs.Rows.{passes_all, tuple_of}
use Rattle.lk_gather.specs.Dims.{dim_of}
use Rattle.lk_gather.specs.Measures.{taken_of}
use Rattle.lk_gather.specs.declared.dims.Dim.{Dim}
use Rattle.lk_gather.specs.declared.measures.Taken.{Taken}

-- the conditions of a plan are those of its query, on the joined rows over some tables: which of them its caller sees, and
-- which pass
pub record IsPlan (x : Explore) (s : Sources) (plan : Plan) : Type 0 where
  pub visible : All (λ row. is_true (value_of plan.visible row) ≡ passes_all x plan.bound.access row) (joined_rows x s plan.bound.joins)
  pub passing : All (λ row. is_true (value_of plan.passing row) ≡ (is_met x.always_where row && passes_all x plan.bound.rows row))
      (joined_rows x s plan.bound.joins)
  pub visible_dated : are_literals_dated plan.visible ≡ true
  pub passing_dated : are_literals_dated plan.passing ≡ true

abbrev pub does_pass : Plan → Joined → Bool
does_pass plan row = is_true (value_of plan.passing row)

-- what the passing ones of some visible rows give to groups and measures
abbrev pub given_of : Explore → Plan → List Joined → List GivenRow
given_of x plan seen = given_rows x (dims_of plan.bound.picks) (query_components x plan.bound) (filter (does_pass plan) seen)

-- ---- a query that was made ready

-- its fields give the group of each row
abbrev pub GivesGroups : Explore → Plan → List Dim → Type 0
GivesGroups x plan dims = (row : Joined) → map (λ d. dim_of d row) dims ≡ tuple_of x (dims_of plan.bound.picks) row

-- and its measures what each row gives to the components
abbrev pub GivesCells : Explore → Plan → List Taken → Type 0
GivesCells x plan taken = (row : Joined) → map (λ t. taken_of t row) taken ≡ map (λ m. key_value x (measure_at x m) row) (query_components x plan.bound)
