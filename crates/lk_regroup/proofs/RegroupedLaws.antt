-- What is gathered from the rows of an aggregate table is what they are regrouped to.
use Rattle.std.proofs.Common.{◌≡◌, ℕ, List, [], ◌∷◌, ◌++◌, map, refl, sym, ap, ◌∙◌, subst}
use Rattle.std.specs.Prelude.{filter}
use Rattle.std.specs.List.Sorted.{IsStrictlySortedBy}
use Rattle.lk_val.specs.Sets.{set_of, with_item}
use Rattle.lk_val.specs.ValueOrder.{tuples_ordered}
use Rattle.lk_val.specs.Values.{is_same_tuple, tuple_cmp}
use Rattle.lk_val.specs.declared.cell.Cell.{Cell}
use Rattle.lk_val.specs.declared.value.Value.{Value}
use Rattle.lk_val.proofs.SetLaws.{IsStrictlySortedBy-set_of}
use Rattle.lk_types.specs.declared.answer.GroupRow.{GroupRow}
use Rattle.lk_types.specs.declared.bound.Bound.{Bound}
use Rattle.lk_types.specs.declared.explore.Explore.{Explore}
use Rattle.lk_types.specs.declared.explore.Rollup.{Rollup}
use Rattle.lk_semantics.specs.Answers.{components_of, dims_of, measure_at, query_components}
use Rattle.lk_semantics.specs.Rollups.{cell_of_partial}
use Rattle.lk_regroup_laws.specs.Regroup.{RollupRow, all_merged, group_in, groups_among, partial_at, regrouped, row_regrouped, rows_in, rows_left}
use Rattle.lk_regroup.specs.declared.asked.Regrouping.{Regrouping}
use Rattle.lk_regroup.specs.ComponentParts.{cell_of, component_of, row_of}
use Rattle.lk_regroup.specs.FieldSources.{source_of}
use Rattle.lk_regroup.specs.Regroupings.{component_over, counted, gathered, group_of, or_empty_group, parts_over, regrouping_of, rows_within, with_empty_group}
use Rattle.lk_regroup.proofs.SourceLaws.{group_is, part_is, passes_is}

-- ---- without fields there is one group

abbrev no_group : RollupRow → List Value
no_group row = []

one_empty : (row : RollupRow) (rows : List RollupRow) → set_of tuple_cmp (map no_group (row ∷ rows)) ≡ [] ∷ []
one_empty row [] = refl
one_empty row (r ∷ rows) = ap (with_item tuple_cmp []) (one_empty r rows)

module _ (x : Explore) (r : Rollup) (b : Bound) where
  -- how the rows are regrouped, and the components
  abbrev how : Regrouping
  how = regrouping_of x r b

  abbrev kept : List ℕ
  kept = components_of x r.measures

  abbrev cell_in : List RollupRow → ℕ → Cell
  cell_in rows m = cell_of_partial (measure_at x m).op (all_merged (map (λ row. partial_at kept row.1 m) rows))

  left_is : (rows : List RollupRow) → counted how rows ≡ rows_left x r b rows
  left_is rows = λ i. filter (λ (row : RollupRow). passes_is x r.dims (b.access ++ b.rows) row.0 i) rows

  within_is : (rows : List RollupRow) (group : List Value) → rows_within how rows group ≡ rows_in x r b rows group
  within_is rows group = λ i. filter (λ (row : RollupRow). is_same_tuple (group_is x r.dims (dims_of b.picks) row.0 i) group) rows

  cells_are : (rows : List RollupRow) (measures : List ℕ) → map cell_of (map (component_over rows) (map (component_of x kept) measures)) ≡ map (cell_in rows) measures
  cells_are rows [] = refl
  cells_are rows (m ∷ measures) = λ i. cell_of_partial (measure_at x m).op (all_merged (map (λ (row : RollupRow). part_is kept row.1 m i) rows)) ∷ cells_are rows measures i

  row_is : (rows : List RollupRow) (group : List Value) → row_of (group, parts_over how rows group) ≡ row_regrouped x r b rows group
  row_is rows group =
      let cells = cells_are (rows_within how rows group) (query_components x b) ∙ ap (λ rs. map (cell_in rs) (query_components x b)) (within_is rows group) in
      λ i. record { group = group; cells = cells i }

  rows_are : (rows : List RollupRow) (groups : List (List Value)) → map row_of (map (λ group. (group, parts_over how rows group)) groups) ≡ map (row_regrouped x r b rows) groups
  rows_are rows [] = refl
  rows_are rows (g ∷ groups) = λ i. row_is rows g i ∷ rows_are rows groups i

  groups_are : (rows : List RollupRow) (fields : List ℕ) → dims_of b.picks ≡ fields → map (group_of how) rows ≡ map (λ row. group_in x r.dims fields row.0) rows
  groups_are rows fields e =
      (λ i. map (λ (row : RollupRow). group_is x r.dims (dims_of b.picks) row.0 i) rows)
      ∙ ap (λ fs. map (λ (row : RollupRow). group_in x r.dims fs row.0) rows) e

  without_fields : (rows : List RollupRow) → dims_of b.picks ≡ [] → map row_of (or_empty_group [] how.components (gathered how rows)) ≡ row_regrouped x r b rows [] ∷ []
  without_fields [] e = λ i. row_is [] [] i ∷ []
  without_fields (row ∷ rows) e =
      ap (λ gs. map row_of (or_empty_group [] how.components (map (λ group. (group, parts_over how (row ∷ rows) group)) gs)))
      (ap (set_of tuple_cmp) (groups_are (row ∷ rows) [] e) ∙ one_empty row rows)
      ∙ (λ i. row_is (row ∷ rows) [] i ∷ [])

  by_fields : (rows : List RollupRow) (fields : List ℕ) → dims_of b.picks ≡ fields
      → map row_of (or_empty_group (map (source_of x r.dims) fields) how.components (gathered how rows)) ≡ map (row_regrouped x r b rows) (groups_among x r.dims fields rows)
  by_fields rows [] e = without_fields rows e
  by_fields rows (f ∷ fields) e =
      rows_are rows (set_of tuple_cmp (map (group_of how) rows))
      ∙ ap (λ gs. map (row_regrouped x r b rows) (set_of tuple_cmp gs)) (groups_are rows (f ∷ fields) e)

  pub regrouped_is : (rows : List RollupRow) → map row_of (with_empty_group how (gathered how (counted how rows))) ≡ regrouped x r b rows
  regrouped_is rows =
      by_fields (counted how rows) (dims_of b.picks) refl
      ∙ ap (λ (left : List RollupRow). map (row_regrouped x r b left) (groups_among x r.dims (dims_of b.picks) left)) (left_is rows)

  -- ---- the groups ascend

  groups_of_rows : (rows : List RollupRow) (groups : List (List Value)) → map (λ (row : GroupRow). row.group) (map (row_regrouped x r b rows) groups) ≡ groups
  groups_of_rows rows [] = refl
  groups_of_rows rows (g ∷ groups) = λ i. g ∷ groups_of_rows rows groups i

  among_ascend : (fields : List ℕ) (rows : List RollupRow) → IsStrictlySortedBy tuple_cmp (groups_among x r.dims fields rows)
  unfolding IsStrictlySortedBy
  among_ascend [] rows = (tt, tt)
  among_ascend (f ∷ fields) rows = IsStrictlySortedBy-set_of tuples_ordered (map (λ (row : RollupRow). group_in x r.dims (f ∷ fields) row.0) rows)

  pub regrouped_ascends : (rows : List RollupRow) → IsStrictlySortedBy tuple_cmp (map (λ (row : GroupRow). row.group) (regrouped x r b rows))
  regrouped_ascends rows =
      let left = rows_left x r b rows in
      subst (IsStrictlySortedBy tuple_cmp) (sym (groups_of_rows left (groups_among x r.dims (dims_of b.picks) left))) (among_ascend (dims_of b.picks) left)
