-- Which parts a query reads, and the rows of derived tables.
use Rattle.std.specs.Prelude.{ℕ, zero, suc, ◌*◌, not, if◌then◌else◌, pos, List, [], ◌∷◌, ◌++◌, map, filter, flat_map, length, slice_index_or, None, false}
use Rattle.std.specs.Ordering.{nat_cmp, is_le}
use Rattle.std.specs.Cmp.Lexicographic.{slice_cmp}
use Rattle.lk_val.specs.Rounding.{number_of, num_of_fraction}
use Rattle.lk_val.specs.declared.value.Value.{Value}
use Rattle.lk_val.specs.declared.cell.Cell.{Cell}
use Rattle.lk_val.specs.declared.cell.Cell.TheVariants as cell
use Rattle.lk_types.specs.Expressions.{mentions, value_of_num, has_number}
use Rattle.lk_types.specs.Tables.{Rows}
use Rattle.lk_semantics.specs.Joins.{needed_joins, joined_rows, mentions_of}
use Rattle.lk_types.specs.declared.rows.Sources.{Sources}
use Rattle.lk_semantics.specs.Rows.{field_at, passing_rows}
use Rattle.lk_semantics.specs.Measures.{uses_key}
use Rattle.lk_semantics.specs.Answers.{measure_at, value_taken, key_of, dims_of, picked_measures, filtered, components_of, query_components, rows_grouped, lines_of}
use Rattle.lk_types.specs.declared.filter.Filter.{Filter}
use Rattle.lk_types.specs.declared.explore.Explore.{Explore}
use Rattle.lk_types.specs.declared.explore.Measure.{Measure}
use Rattle.lk_types.specs.declared.model.Pick.{Pick}
use Rattle.lk_types.specs.declared.model.Derived.{Derived}
use Rattle.lk_types.specs.declared.model.Model.{Model}
use Rattle.lk_types.specs.declared.bound.Bound.{Bound}
use Rattle.lk_types.specs.declared.rows.Tables.{Tables}

-- ---- the parts that a query reads

-- the parts that a field's expression mentions
abbrev pub field_parts : Explore → ℕ → List ℕ
field_parts x f = mentions (field_at x f).expr

-- the parts that a measure's key mentions, where its type uses one
abbrev pub key_parts : Explore → Measure → List ℕ
key_parts x m = if uses_key m.op then mentions_of (key_of x m) else []

-- a measure's part, and those that its key, the value that it computes with and its filters mention
abbrev pub measure_parts : Explore → Measure → List ℕ
measure_parts x m = (m.part ∷ key_parts x m) ++ mentions_of (value_taken m) ++ flat_map (field_parts x) (filtered m.filters)

-- the parts that some fields and measures mention
abbrev pub asked_parts : Explore → List ℕ → List ℕ → List ℕ
asked_parts x fields measures = flat_map (field_parts x) fields ++ flat_map (λ m. measure_parts x (measure_at x m)) measures

-- the joins of a query over these fields and measures: a `number` reads what its components read
abbrev pub joins_for : Explore → List ℕ → List ℕ → List ℕ
joins_for x fields measures = needed_joins x (asked_parts x fields (components_of x measures))

-- the joins of a query: of what it picks, and of what its filters on dimensions, its access filters and its filters on measures are on
abbrev pub query_joins : Explore → List Pick → List (ℕ × Filter) → List (ℕ × Filter) → List (ℕ × Filter) → List ℕ
query_joins x picks rows access having = joins_for x (dims_of picks ++ filtered rows ++ filtered access) (picked_measures picks ++ filtered having)

-- ---- derived tables

-- the explore past the end of a model's explores
abbrev pub no_explore : Explore
no_explore = record { name = []; parts = []; joins = []; fields = []; measures = []; always_join = []; always = []; always_where = None; access = []; rollups = [] }

-- the explore of a number
abbrev pub explore_at : Model → ℕ → Explore
explore_at m x = slice_index_or m.explores x no_explore

-- a filter put before the first of some whose field's name does not come before that of its own
abbrev pub put_by_name : Explore → ℕ × Filter → List (ℕ × Filter) → List (ℕ × Filter)
put_by_name x f [] = f ∷ []
put_by_name x f (g ∷ gs) = if is_le (slice_cmp nat_cmp (field_at x f.0).name (field_at x g.0).name) then f ∷ g ∷ gs else g ∷ put_by_name x f gs

-- filters by the byte order of their fields' names; those on one field stay in their order
abbrev pub by_name : Explore → List (ℕ × Filter) → List (ℕ × Filter)
by_name x [] = []
by_name x (f ∷ fs) = put_by_name x f (by_name x fs)

-- the filters, and the explore's `always_filter` on the fields that they leave out, by their fields' names
abbrev pub with_always : Explore → List (ℕ × Filter) → List (ℕ × Filter)
with_always x filters = by_name x (filters ++ filter (λ f. not (has_number f.0 (filtered filters))) x.always)

-- the query of a derived table: no access filters and no sorts; its rows are those before any cut (`answer_rows`), so its limit, the least that a query has, is not read
abbrev pub derived_query : Explore → Derived → Bound
derived_query x d =
    let picks = map (λ c. c.1) d.columns in
    let rows = with_always x d.filters in
    record {
      explore = d.explore;
      picks = picks;
      joins = query_joins x picks rows [] [];
      access = [];
      rows = rows;
      having = [];
      sorts = [];
      limit = 1;
      fresh = false;
      csv = false;
    }

-- a cell as a value: rounded to four places, and null where it is out of range
abbrev pub value_of_cell : Cell → Value
value_of_cell (cell.Value v) = v
value_of_cell (cell.Count n) = value_of_num (number_of (pos (10000 * n)))
value_of_cell (cell.Sum s) = value_of_num (number_of s)
value_of_cell (cell.Frac f) = value_of_num (num_of_fraction f)

-- the rows of a query's answer before the cut, as rows of a table
abbrev pub answer_rows : Explore → Sources → Bound → Rows
answer_rows x s b =
    map (λ line. map value_of_cell line.cells)
    (lines_of x b (rows_grouped x (dims_of b.picks) (query_components x b) (passing_rows x b.rows (joined_rows x s b.joins))))

-- the rows of a derived table over the tables that it reads
abbrev pub derived_rows : Model → Sources → Derived → Rows
derived_rows m s d = answer_rows (explore_at m d.explore) s (derived_query (explore_at m d.explore) d)

-- the derived tables that read derived tables through at most n others
abbrev pub derived_within : Model → List Rows → ℕ → List Rows
derived_within m stored zero = []
derived_within m stored (suc n) = map (derived_rows m (record { stored = stored; derived = derived_within m stored n })) m.derived

-- the stored tables and the derived ones over them
abbrev pub sources_of : Model → Tables → Sources
sources_of m t = record { stored = t.tables; derived = derived_within m t.tables (length m.derived) }
