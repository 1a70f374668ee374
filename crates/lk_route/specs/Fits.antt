-- Whether an aggregate table fits a query, by what was made ready of it.
use Rattle.std.specs.Prelude.{ℕ, ◌==◌, Bool, true, false, ◌&&◌, ◌||◌, List, slice_index_or}
use Rattle.std.specs.List.{list_all, list_any}
use Rattle.lk_types.specs.Expressions.{has_number}
use Rattle.lk_types.specs.Filters.{is_same_filter}
use Rattle.lk_types.specs.declared.bound.Bound.{Bound}
use Rattle.lk_types.specs.declared.explore.Explore.{Explore}
use Rattle.lk_types.specs.declared.explore.Rollup.{Rollup}
use Rattle.lk_types.specs.declared.filter.Filter.{Filter}
use Rattle.lk_types.specs.declared.model.Pick.{Pick}
use Rattle.lk_types.specs.declared.model.Pick.TheVariants.{Dim, Mea}
use Rattle.lk_semantics.specs.Rollups.{filters_fit, has_field}
use Rattle.lk_route.specs.declared.ready.ReadyJoin.{ReadyJoin}
use Rattle.lk_route.specs.declared.ready.ReadyMeasure.{ReadyMeasure}
use Rattle.lk_route.specs.declared.ready.ReadyRollup.{ReadyRollup}

-- ---- joins

-- the join is among those of an aggregate table
abbrev pub has_join : List ReadyJoin → ℕ → Bool
has_join known j = list_any (λ k. j == k.join) known

-- a join of an aggregate table is among the query's, or leaves the rows before it as they were
abbrev pub is_asked_or_keeps : List ℕ → ReadyJoin → Bool
is_asked_or_keeps joins known = has_number known.join joins || known.keeps_rows

unfoldable pub joins_fit : List ReadyJoin → List ℕ → Bool
joins_fit known joins = list_all (has_join known) joins && list_all (is_asked_or_keeps joins) known

-- ---- fields

-- a picked dimension passes; a measure does
abbrev pub passes_dim : (ℕ → Bool) → Pick → Bool
passes_dim test (Dim f) = test f
passes_dim test (Mea m) = true

-- what a filter is on passes
abbrev pub passes_filtered : (ℕ → Bool) → ℕ × Filter → Bool
passes_filtered test f = test f.0

-- the aggregate table has each field that the query groups or filters by
unfoldable pub fields_fit : Explore → Rollup → Bound → Bool
fields_fit x r b =
    list_all (passes_dim (has_field x r)) b.picks && list_all (passes_filtered (has_field x r)) b.rows && list_all (passes_filtered (has_field x r)) b.access

-- the pick is this dimension
abbrev pub is_dim : ℕ → Pick → Bool
is_dim d (Dim f) = d == f
is_dim d (Mea m) = false

-- a filter is among some: one is on the same field with the same tests
abbrev pub is_filter_among : List (ℕ × Filter) → ℕ × Filter → Bool
is_filter_among asked f = list_any (λ g. (f.0 == g.0) && is_same_filter f.1 g.1) asked

-- ---- measures

-- nothing is had of a measure that is not there
abbrev pub no_ready_measure : ReadyMeasure
no_ready_measure = record { is_had = false; regroups = false }

abbrev pub is_had : List ReadyMeasure → ℕ → Bool
is_had ready m = (slice_index_or ready m no_ready_measure).is_had

abbrev pub does_regroup : List ReadyMeasure → ℕ → Bool
does_regroup ready m = (slice_index_or ready m no_ready_measure).regroups

-- a picked measure passes; a dimension does
abbrev pub passes_measure : (ℕ → Bool) → Pick → Bool
passes_measure test (Dim f) = true
passes_measure test (Mea m) = test m

-- each measure of the query is had: those that are picked, and those that its filters are on
unfoldable pub are_had : List ReadyMeasure → Bound → Bool
are_had ready b = list_all (passes_measure (is_had ready)) b.picks && list_all (passes_filtered (is_had ready)) b.having

-- and each may be put together from finer groups
unfoldable pub do_regroup : List ReadyMeasure → Bound → Bool
do_regroup ready b = list_all (passes_measure (does_regroup ready)) b.picks && list_all (passes_filtered (does_regroup ready)) b.having

-- ---- groups

-- the dimension is picked
abbrev pub is_picked : List Pick → ℕ → Bool
is_picked picks d = list_any (is_dim d) picks

-- the picked dimensions are these, in any order
unfoldable pub are_dims : List Pick → List ℕ → Bool
are_dims picks dims = list_all (passes_dim (λ f. has_number f dims)) picks && list_all (is_picked picks) dims

-- the groups are the aggregate table's own, or each measure may be put together from them
unfoldable pub groups_fit : Rollup → ReadyRollup → Bound → Bool
groups_fit r ready b = are_dims b.picks r.dims || do_regroup ready.measures b

-- ---- the whole

abbrev pub fits_by : Explore → Rollup → ReadyRollup → Bound → Bool
fits_by x r ready b = joins_fit ready.joins b.joins && fields_fit x r b && filters_fit r b && are_had ready.measures b && groups_fit r ready b
