-- The groups of a stored query are the same at each moment, and over the tables that it reads as over all.
use Rattle.std.proofs.Common.{◌≡◌, ℤ, true, List, [], ◌∷◌, length, refl, ap, ◌∙◌}
use Rattle.std.specs.Prelude.{filter}
use Rattle.std.specs.List.{list_all}
use Rattle.lk_types.specs.declared.bound.Bound.{Bound}
use Rattle.lk_types.specs.declared.explore.Explore.{Explore}
use Rattle.lk_types.specs.declared.model.Model.{Model}
use Rattle.lk_types.specs.declared.rows.Joined.{Joined}
use Rattle.lk_types.specs.declared.rows.Sources.{Sources}
use Rattle.lk_semantics.specs.Answers.{conflict_among, dims_of, given_rows, ops_of, query_components, rows_grouped}
use Rattle.lk_semantics.specs.Derived.{explore_at}
use Rattle.lk_semantics.specs.Joins.{joined_rows}
use Rattle.lk_semantics.specs.Measures.{first_conflict, group_rows}
use Rattle.lk_semantics.specs.Resolved.{are_filters_of, have_fixed_filters}
use Rattle.lk_semantics.specs.Rollups.{rollup_rows}
use Rattle.lk_semantics.specs.Rows.{passes_all, passing_rows}
use Rattle.lk_derived.specs.ReadRows.{HasRowsFor, whole}
use Rattle.lk_derived.proofs.ReadRows.{joined_whole}
use Rattle.lk_filter.specs.PlacedModel.{placed_explore}
use Rattle.lk_placed_laws.proofs.FixedLaws.{given_are}
use Rattle.lk_placed_laws.proofs.PlacedLaws.{ops_are, query_components_are, visible_are}
use Rattle.lk_gather.specs.Groups.{conflict_over, rows_counted, given_to, groups_over, parts_over}

-- ---- at each moment

module _ (now : ℤ) (x : Explore) (s : Sources) (b : Bound) (typed : list_all (λ n. are_filters_of x n.filters) x.measures ≡ true)
    (fixed : have_fixed_filters x (query_components x b) ≡ true) where
  abbrev y : Explore
  y = placed_explore now x

  counted_at : rows_counted y s b ≡ rows_counted x s b
  counted_at = ap (passing_rows x b.rows) (visible_are now x s b)

  given_at : given_to y s b ≡ given_to x s b
  given_at =
      (λ i. given_rows y (dims_of b.picks) (query_components_are now x b i) (counted_at i))
      ∙ given_are now x typed (dims_of b.picks) (query_components x b) (rows_counted x s b) fixed

  ops_at : ops_of y (query_components y b) ≡ ops_of x (query_components x b)
  ops_at = ap (ops_of y) (query_components_are now x b) ∙ ops_are now x (query_components x b)

  pub parts_at : parts_over y s b ≡ parts_over x s b
  parts_at = λ i. rollup_rows (length (dims_of b.picks)) (ops_at i) (given_at i)

  pub groups_at : groups_over y s b ≡ groups_over x s b
  groups_at = λ i. group_rows (length (dims_of b.picks)) (ops_at i) (given_at i)

  pub conflict_at : conflict_over y s b ≡ conflict_over x s b
  conflict_at = λ i. first_conflict (length (dims_of b.picks)) (ops_at i) (given_at i)

-- ---- over the tables that are read

module _ (m : Model) (s : Sources) (b : Bound) (h : HasRowsFor m s b) where
  abbrev z : Explore
  z = explore_at m b.explore

  counted_whole : rows_counted z s b ≡ rows_counted z (whole m s) b
  counted_whole = ap (λ rows. passing_rows z b.rows (filter (passes_all z b.access) rows)) (joined_whole m s b h)

  pub parts_whole : parts_over z s b ≡ parts_over z (whole m s) b
  parts_whole = ap (λ rows. rollup_rows (length (dims_of b.picks)) (ops_of z (query_components z b)) (given_rows z (dims_of b.picks) (query_components z b) rows)) counted_whole

  pub groups_whole : groups_over z s b ≡ groups_over z (whole m s) b
  groups_whole = ap (rows_grouped z (dims_of b.picks) (query_components z b)) counted_whole

  pub conflict_whole : conflict_over z s b ≡ conflict_over z (whole m s) b
  conflict_whole = ap (conflict_among z (dims_of b.picks) (query_components z b)) counted_whole

-- ---- without access filters

unfiltered : (x : Explore) (rows : List Joined) → filter (passes_all x []) rows ≡ rows
unfiltered x [] = refl
unfiltered x (row ∷ rows) = ap (λ all. row ∷ all) (unfiltered x rows)

-- a query without access filters counts the passing ones of the rows that it joins
pub counted_unfiltered : (x : Explore) (s : Sources) (b : Bound) → b.access ≡ [] → rows_counted x s b ≡ passing_rows x b.rows (joined_rows x s b.joins)
counted_unfiltered x s b none = ap (passing_rows x b.rows) (ap (λ access. filter (passes_all x access) (joined_rows x s b.joins)) none ∙ unfiltered x (joined_rows x s b.joins))

pub conflict_unfiltered : (x : Explore) (s : Sources) (b : Bound) → b.access ≡ []
    → conflict_over x s b ≡ conflict_among x (dims_of b.picks) (query_components x b) (passing_rows x b.rows (joined_rows x s b.joins))
conflict_unfiltered x s b none = ap (conflict_among x (dims_of b.picks) (query_components x b)) (counted_unfiltered x s b none)
