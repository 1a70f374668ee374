-- The cells of a line are those of the definition, and so are the groups that pass.
use Rattle.std.proofs.Common.{◌≡◌, ℕ, suc, ◌+◌, ◌-◌, ◌<◌, ◌&&◌, List, [], ◌∷◌, ◌++◌, append_assoc, drop, get_or, length, map, Some, None, refl, sym, ap, ◌∙◌, subst, arith}
use Rattle.std.specs.Prelude.{filter, slice_index_or}
use Rattle.std.specs.List.{list_all}
use Rattle.std.specs.List.Sorted.{IsStrictlySortedBy}
use Rattle.std.proofs.lemmas.List.{drop_more}
use Rattle.lk_val.specs.Sets.{set_of}
use Rattle.lk_val.specs.Values.{tuple_cmp}
use Rattle.lk_lines.proofs.OrderLaws.{ascends-filtered}
use Rattle.lk_val.specs.declared.value.Value.{Value}
use Rattle.lk_val.specs.declared.cell.Cell.{Cell}
use Rattle.lk_val.specs.declared.cell.Cell.TheVariants as cell
use Rattle.lk_types.specs.Calculation.{Calculation}
use Rattle.lk_types.specs.declared.answer.GroupRow.{GroupRow}
use Rattle.lk_types.specs.declared.bound.Bound.{Bound}
use Rattle.lk_types.specs.declared.explore.Explore.{Explore}
use Rattle.lk_types.specs.declared.explore.Measure.{Measure}
use Rattle.lk_types.specs.declared.filter.Filter.{Filter}
use Rattle.lk_types.specs.declared.model.Pick.{Pick}
use Rattle.lk_types.specs.declared.model.Pick.TheVariants.{Dim, Mea}
use Rattle.lk_semantics.specs.Answers.{cell_of_frac, cell_within, component_cell, line_cells, line_cmp, line_of, lines_of, measure_at, measure_cell, no_measure, or_calculated, passes_cell, passes_having, query_components}
use Rattle.lk_lines.specs.Sources.{column_cells, column_of, filtered_source, passes_each, place_of, source_by, source_cell, source_of}
use Rattle.lk_lines.specs.Lines.{is_kept, line_by}
use Rattle.lk_lines.specs.declared.source.Source.{Source}
use Rattle.lk_lines.proofs.NestingLaws.{plain, value_within, within_times}

some_measures : (ms : List Measure) (m : ℕ) (e : Calculation) → (slice_index_or ms m no_measure).number ≡ Some e → length ms ≡ suc (length ms - 1)
some_measures [] m e h = cc
some_measures (a ∷ ms) m e h = omega arith

module _ (x : Explore) (components : List ℕ) (cells : List Cell) where
  abbrev known : ℕ → Cell
  known m = component_cell components cells m

  source-cell : (m : ℕ) → source_cell components cells (source_of x components m) ≡ measure_cell x known m
  source-cell m =
      elim (measure_at x m).number as (λ o. (measure_at x m).number ≡ o → source_cell components cells (source_by x (place_of components m) o) ≡ measure_cell x known m) [
        | None ↦ λ none. sym (plain x known (length x.measures) m none)
        | Some e ↦ λ some.
            let n = length x.measures - 1 in
            let rounds : suc n ≡ length x.measures = sym (some_measures x.measures m e some) in
            ap cell_of_frac (sym (within_times x known n e))
            ∙ ap (or_calculated (known m) (value_within x known n)) (sym some)
            ∙ ap (λ k. cell_within x k known m) rounds
      ] refl

  pub columns-cells : (picks : List Pick) (group : List Value) → column_cells components cells (map (column_of x components) picks) group ≡ line_cells x known picks group
  columns-cells [] group = refl
  columns-cells (Dim f ∷ picks) [] = refl
  columns-cells (Dim f ∷ picks) (v ∷ group) = ap (λ cs. cell.Value v ∷ cs) (columns-cells picks group)
  columns-cells (Mea m ∷ picks) group = λ i. source-cell m i ∷ columns-cells picks group i

  pub each-passes : (filters : List (ℕ × Filter)) → passes_each components cells (map (filtered_source x components) filters) ≡ list_all (λ f. passes_cell f.1 (measure_cell x known f.0)) filters
  each-passes [] = refl
  each-passes (f ∷ filters) = λ i. passes_cell f.1 (source-cell f.0 i) && each-passes filters i

-- the lines of the groups that pass
pub lines-are : (x : Explore) (b : Bound) (rows : List GroupRow)
    → map (line_by (query_components x b) (map (column_of x (query_components x b)) b.picks)) (filter (is_kept (query_components x b) (map (filtered_source x (query_components x b)) b.having)) rows)
    ≡ map (line_of x b) (filter (passes_having x b) rows)
lines-are x b rows = λ i.
    map (λ row. record { group = row.group; cells = columns-cells x (query_components x b) row.cells b.picks row.group i })
    (filter (λ row. each-passes x (query_components x b) row.cells b.having i) rows)

-- lines have the groups of their rows
groups-stay : (x : Explore) (b : Bound) (rows : List GroupRow) → map (λ line. line.group) (map (line_of x b) rows) ≡ map (λ row. row.group) rows
groups-stay x b [] = refl
groups-stay x b (r ∷ rows) = ap (λ gs. r.group ∷ gs) (groups-stay x b rows)

-- what is sorted of the lines that pass is the lines of the definition
pub sorted-are : (x : Explore) (b : Bound) (rows lines done : List GroupRow) → lines ≡ map (line_of x b) (filter (passes_having x b) rows) → IsStrictlySortedBy tuple_cmp (map (λ row. row.group) rows)
    → (IsStrictlySortedBy tuple_cmp (map (λ line. line.group) lines) → done ≡ set_of (line_cmp b.sorts) lines) → done ≡ lines_of x b rows
sorted-are x b rows lines done is ascends sorts =
    let groups : map (λ line. line.group) lines ≡ map (λ row. row.group) (filter (passes_having x b) rows) =
    ap (map (λ (line : GroupRow). line.group)) is ∙ groups-stay x b (filter (passes_having x b) rows) in
    sorts (subst (IsStrictlySortedBy tuple_cmp) (sym groups) (ascends-filtered (passes_having x b) rows ascends)) ∙ ap (set_of (line_cmp b.sorts)) is

-- one more filter with what it is on
pub filter_more : (x : Explore) (components : List ℕ) (filters : List (ℕ × Filter)) (i : ℕ) (f : ℕ × Filter) (made more : List (Source × Filter)) (s : Source × Filter) → i < length filters → f ≡ get_or filters i f
    → s ≡ filtered_source x components f → more ≡ made ++ s ∷ [] → made ++ map (filtered_source x components) (drop i filters) ≡ map (filtered_source x components) filters
    → more ++ map (filtered_source x components) (drop (i + 1) filters) ≡ map (filtered_source x components) filters
filter_more x components filters i f made more s within at is pushed so_far =
    let rest = map (filtered_source x components) (drop (i + 1) filters) in
    let here : drop i filters ≡ f ∷ drop (i + 1) filters = drop_more filters i f within ∙ ap (λ g. g ∷ drop (i + 1) filters) (sym at) in
    ap (λ fs. fs ++ rest) (pushed ∙ ap (λ t. made ++ t ∷ []) is)
    ∙ append_assoc made (filtered_source x components f ∷ []) rest
    ∙ ap (λ fs. made ++ map (filtered_source x components) fs) (sym here)
    ∙ so_far
