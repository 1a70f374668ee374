-- What a query answers: groups, their measures, conflicts, order and cut.
use Rattle.std.specs.Prelude.{ℕ, zero, suc, ◌==◌, nat_le, nat_eq, Bool, true, false, not, ◌&&◌, ◌||◌, if◌then◌else◌, List, [], ◌∷◌, ◌++◌, map, filter, flat_map, length, take, slice_get, slice_index, slice_index_or, position, unwrap_or, Option, Some, None, option_and_then, option_map}
use Rattle.std.specs.List.{list_all, enumerate_from}
use Rattle.std.specs.Ordering.{ordering_then, ordering_reverse, is_eq}
use Rattle.std.specs.declared.cmp.Ordering.{Ordering}
use Rattle.std.specs.declared.cmp.Ordering.TheVariants.{Equal}
use Rattle.lk_val.specs.Sets.{set_of}
use Rattle.lk_val.specs.Values.{tuple_cmp}
use Rattle.lk_val.specs.Cells.{cell_cmp}
use Rattle.lk_val.specs.Fractions.{Fraction, frac_add, frac_sub, frac_mul, frac_div, frac_neg, frac_cmp, frac_of_sum, frac_of_count}
use Rattle.lk_val.specs.declared.value.Value.{Value}
use Rattle.lk_val.specs.declared.value.Value.TheVariants as value
use Rattle.lk_val.specs.declared.cell.Cell.{Cell}
use Rattle.lk_val.specs.declared.cell.Cell.TheVariants as cell
use Rattle.lk_types.specs.Calculation.{Calculation, OfMeasure, Number, Apply, Negate, Coalesce, NullIf, Calculations, no_more, more}
use Rattle.lk_types.specs.Filters.{passes, passes_frac}
use Rattle.lk_semantics.specs.Joins.{part_at}
use Rattle.lk_types.specs.declared.rows.Sources.{Sources}
use Rattle.lk_semantics.specs.Rows.{tuple_of, passes_all, visible_rows, passing_rows}
use Rattle.lk_semantics.specs.Measures.{uses_key, group_rows, first_conflict}
use Rattle.lk_types.specs.declared.answer.GivenRow.{GivenRow}
use Rattle.lk_types.specs.Formula.{Formula}
use Rattle.lk_types.specs.Expressions.{value_of}
use Rattle.lk_types.specs.declared.rows.Joined.{Joined}
use Rattle.lk_types.specs.declared.filter.Filter.{Filter}
use Rattle.lk_types.specs.declared.expr.Arithmetic.{Arithmetic}
use Rattle.lk_types.specs.declared.expr.Arithmetic.TheVariants as arithmetic
use Rattle.lk_types.specs.declared.schema.Kind.TheVariants as kind
use Rattle.lk_types.specs.declared.explore.Explore.{Explore}
use Rattle.lk_types.specs.declared.explore.Measure.{Measure}
use Rattle.lk_types.specs.declared.explore.Op.{Op}
use Rattle.lk_types.specs.declared.explore.Op.TheVariants as op
use Rattle.lk_types.specs.declared.answer.KeyValue.{KeyValue}
use Rattle.lk_types.specs.declared.model.Pick.{Pick}
use Rattle.lk_types.specs.declared.model.Pick.TheVariants.{Dim, Mea}
use Rattle.lk_types.specs.declared.bound.Bound.{Bound}
use Rattle.lk_types.specs.declared.bound.Sort.{Sort}
use Rattle.lk_types.specs.declared.answer.GroupRow.{GroupRow}
use Rattle.lk_types.specs.declared.answer.Answer.{Answer}
use Rattle.lk_types.specs.declared.answer.Answer.TheVariants.{Duplicate, Table}

-- the measure past the end of an explore's measures
abbrev pub no_measure : Measure
no_measure = record { name = []; part = 0; op = op.Count; kind = kind.Number; value = None; key = None; filters = []; number = None }

-- the measure of a number
abbrev pub measure_at : Explore → ℕ → Measure
measure_at x m = slice_index_or x.measures m no_measure

-- ---- components

abbrev mutual
  -- the measures that stand in a calculation, from left to right
  pub measures_in : Calculation → List ℕ
  measures_in (OfMeasure m) = m ∷ []
  measures_in (Number n) = []
  measures_in (Apply op a b) = measures_in a ++ measures_in b
  measures_in (Negate a) = measures_in a
  measures_in (Coalesce xs) = measures_in_all xs
  measures_in (NullIf a b) = measures_in a ++ measures_in b

  pub measures_in_all : Calculations → List ℕ
  measures_in_all no_more = []
  measures_in_all (more a xs) = measures_in a ++ measures_in_all xs

-- each number once, where it stands first
abbrev pub first_each : List ℕ → List ℕ
first_each [] = []
first_each (n ∷ ns) = n ∷ filter (λ m. not (m == n)) (first_each ns)

-- a measure by itself, or the parts of what stands in its calculation
abbrev pub or_parts : ℕ → (ℕ → List ℕ) → Option Calculation → List ℕ
or_parts m parts None = m ∷ []
or_parts m parts (Some e) = flat_map parts (measures_in e)

-- a measure, or what a `number` is put together from, through at most n of them
abbrev pub parts_of_measure : Explore → ℕ → ℕ → List ℕ
parts_of_measure x zero m = []
parts_of_measure x (suc n) m = or_parts m (parts_of_measure x n) (measure_at x m).number

-- the measures without the `number`s, each once, in the order in which they are met
abbrev pub components_of : Explore → List ℕ → List ℕ
components_of x measures = first_each (flat_map (parts_of_measure x (length x.measures)) measures)

-- the dimensions that are picked, in order
abbrev pub dims_of : List Pick → List ℕ
dims_of [] = []
dims_of (Dim f ∷ picks) = f ∷ dims_of picks
dims_of (Mea m ∷ picks) = dims_of picks

-- the measures that are picked, in order
abbrev pub picked_measures : List Pick → List ℕ
picked_measures [] = []
picked_measures (Dim f ∷ picks) = picked_measures picks
picked_measures (Mea m ∷ picks) = m ∷ picked_measures picks

-- what the filters are on
abbrev pub filtered : List (ℕ × Filter) → List ℕ
filtered filters = map (λ f. f.0) filters

-- the components of a bound query: those of its picked measures, and then of its filters on measures
abbrev pub query_components : Explore → Bound → List ℕ
query_components x b = components_of x (picked_measures b.picks ++ filtered b.having)

-- ---- what rows give to measures

-- the value of an expression, null where there is none
abbrev pub optional_value : Option Formula → Joined → Value
optional_value None row = value.Null
optional_value (Some e) row = value_of e row

-- a type of measure computes with a value: a count and a `number` have none of their own
abbrev pub takes_value : Op → Bool
takes_value op.Count = false
takes_value op.Number = false
takes_value other = true

-- the value that a measure computes with, whatever value is written at it
abbrev pub value_taken : Measure → Option Formula
value_taken m = if takes_value m.op then m.value else None

-- the measure takes `sql_distinct_key` and no primary key
abbrev pub has_own_key : Op → Bool
has_own_key op.SumDistinct = true
has_own_key op.AverageDistinct = true
has_own_key other = false

-- the primary key of the measure's view, or `sql_distinct_key`
abbrev pub key_of : Explore → Measure → Option Formula
key_of x m = if has_own_key m.op then m.key else (part_at x m.part).key

-- a part that has entered and is not null
abbrev pub is_there : Option (Option (List Value)) → Bool
is_there (Some (Some cells)) = true
is_there part = false

-- the view is not null in the row
abbrev pub has_part : ℕ → Joined → Bool
has_part p row = is_there (slice_get row.parts p)

-- a key by the row's place counts only where the view is not null
abbrev pub is_placed : Op → Option Formula → Bool
is_placed o (Some key) = false
is_placed o None = uses_key o

-- what a row gives to a measure
abbrev pub key_value : Explore → Measure → Joined → KeyValue
key_value x m row = record {
  key = option_map (λ e. value_of e row) (key_of x m);
  value = optional_value m.value row;
  counts = passes_all x m.filters row && (not (is_placed m.op (key_of x m)) || has_part m.part row);
}

-- what a row at its place gives to a query's groups and measures
abbrev pub given_row : Explore → List ℕ → List ℕ → ℕ × Joined → GivenRow
given_row x dims measures row =
    record { place = row.0; group = tuple_of x dims row.1; cells = map (λ m. key_value x (measure_at x m) row.1) measures }

-- the passing rows, by their places, as they are given to the measures
abbrev pub given_rows : Explore → List ℕ → List ℕ → List Joined → List GivenRow
given_rows x dims measures passing = map (given_row x dims measures) (enumerate_from 0 passing)

-- the types of some measures
abbrev pub ops_of : Explore → List ℕ → List Op
ops_of x measures = map (λ m. (measure_at x m).op) measures

-- the groups of these dimensions with these measures, and the conflicts among them
abbrev pub rows_grouped : Explore → List ℕ → List ℕ → List Joined → List GroupRow
rows_grouped x dims measures passing = group_rows (length dims) (ops_of x measures) (given_rows x dims measures passing)

-- the least conflict among the passing rows, if there is one
abbrev pub conflict_among : Explore → List ℕ → List ℕ → List Joined → Option (ℕ × Value)
conflict_among x dims measures passing = first_conflict (length dims) (ops_of x measures) (given_rows x dims measures passing)

-- ---- `number` measures

-- a number as a fraction, and none for any other value
abbrev pub frac_of_value : Value → Option Fraction
frac_of_value (value.Num n) = Some (frac_of_sum n.0)
frac_of_value v = None

-- a cell as a fraction
abbrev pub frac_of_cell : Cell → Option Fraction
frac_of_cell (cell.Value v) = frac_of_value v
frac_of_cell (cell.Count n) = Some (frac_of_count n)
frac_of_cell (cell.Sum s) = Some (frac_of_sum s)
frac_of_cell (cell.Frac f) = Some f

-- a fraction as a cell, null for none
abbrev pub cell_of_frac : Option Fraction → Cell
cell_of_frac None = cell.Value value.Null
cell_of_frac (Some f) = cell.Frac f

-- the four operations on fractions (lookd)
abbrev pub applied : Arithmetic → Fraction → Fraction → Option Fraction
applied arithmetic.Plus a b = frac_add a b
applied arithmetic.Minus a b = frac_sub a b
applied arithmetic.Times a b = frac_mul a b
applied arithmetic.Over a b = frac_div a b

-- null where a part is null
abbrev pub with_both : (Fraction → Fraction → Option Fraction) → Option Fraction → Option Fraction → Option Fraction
with_both f (Some a) (Some b) = f a b
with_both f a b = None

-- the first of two that is known
abbrev pub or_else : Option Fraction → Option Fraction → Option Fraction
or_else None b = b
or_else (Some a) b = Some a

-- both are known and equal by their exact values
abbrev pub are_equal : Option Fraction → Option Fraction → Bool
are_equal (Some a) (Some b) = is_eq (frac_cmp a b)
are_equal a b = false

abbrev mutual
  -- a calculation, where `known m` is the value of measure m
  pub calculated : (ℕ → Option Fraction) → Calculation → Option Fraction
  calculated known (OfMeasure m) = known m
  calculated known (Number n) = Some (frac_of_sum n.0)
  calculated known (Apply op a b) = with_both (applied op) (calculated known a) (calculated known b)
  calculated known (Negate a) = option_and_then frac_neg (calculated known a)
  calculated known (Coalesce xs) = first_calculated known xs
  calculated known (NullIf a b) = if are_equal (calculated known a) (calculated known b) then None else calculated known a

  pub first_calculated : (ℕ → Option Fraction) → Calculations → Option Fraction
  first_calculated known no_more = None
  first_calculated known (more a xs) = or_else (calculated known a) (first_calculated known xs)

-- the cell of a component among the components
abbrev pub component_cell : List ℕ → List Cell → ℕ → Cell
component_cell components cells m = slice_index_or cells (unwrap_or (position (nat_eq m) components) 0) (cell.Value value.Null)

-- a measure's own cell, or what its calculation gives
abbrev pub or_calculated : Cell → (ℕ → Option Fraction) → Option Calculation → Cell
or_calculated c known None = c
or_calculated c known (Some e) = cell_of_frac (calculated known e)

-- the cell of a measure in a group, where `known m` is that of the component m: a `number` through at most n of them
abbrev pub cell_within : Explore → ℕ → (ℕ → Cell) → ℕ → Cell
cell_within x zero known m = known m
cell_within x (suc n) known m = or_calculated (known m) (λ k. frac_of_cell (cell_within x n known k)) (measure_at x m).number

-- the cell of a measure, a `number` through all others
abbrev pub measure_cell : Explore → (ℕ → Cell) → ℕ → Cell
measure_cell x known m = cell_within x (length x.measures) known m

-- ---- lines

-- the cells of a group's line, as picked
abbrev pub line_cells : Explore → (ℕ → Cell) → List Pick → List Value → List Cell
line_cells x known [] group = []
line_cells x known (Dim f ∷ picks) [] = []
line_cells x known (Dim f ∷ picks) (v ∷ group) = cell.Value v ∷ line_cells x known picks group
line_cells x known (Mea m ∷ picks) group = measure_cell x known m ∷ line_cells x known picks group

-- a group with its picked cells
abbrev pub line_of : Explore → Bound → GroupRow → GroupRow
line_of x b row = record { group = row.group; cells = line_cells x (component_cell (query_components x b) row.cells) b.picks row.group }

-- a cell passes a filter: a count, a sum or a fraction by its exact value
abbrev pub passes_cell : Filter → Cell → Bool
passes_cell f (cell.Value v) = passes f v
passes_cell f (cell.Count n) = passes_frac f (Some (frac_of_count n))
passes_cell f (cell.Sum s) = passes_frac f (Some (frac_of_sum s))
passes_cell f (cell.Frac q) = passes_frac f (Some q)

-- the group passes each filter on a measure
abbrev pub passes_having : Explore → Bound → GroupRow → Bool
passes_having x b row = list_all (λ f. passes_cell f.1 (measure_cell x (component_cell (query_components x b) row.cells) f.0)) b.having

-- the cell at a place of a line
abbrev pub cell_at : List Cell → ℕ → Cell
cell_at cells place = slice_index_or cells place (cell.Value value.Null)

-- the order, or the order turned round
abbrev pub directed : Bool → Ordering → Ordering
directed true o = ordering_reverse o
directed false o = o

-- cells by the sorts, one after the other
abbrev pub cells_cmp : List Sort → List Cell → List Cell → Ordering
cells_cmp [] a b = Equal
cells_cmp (s ∷ sorts) a b = ordering_then (directed s.down (cell_cmp (cell_at a s.place) (cell_at b s.place))) (cells_cmp sorts a b)

-- by the sorts, and then by all dimensions ascending
abbrev pub line_cmp : List Sort → GroupRow → GroupRow → Ordering
line_cmp sorts a b = ordering_then (cells_cmp sorts a.cells b.cells) (tuple_cmp a.group b.group)

-- the lines of the groups that pass the filters on measures, in order. No two tie, since their groups differ
abbrev pub lines_of : Explore → Bound → List GroupRow → List GroupRow
lines_of x b rows = set_of (line_cmp b.sorts) (map (line_of x b) (filter (passes_having x b) rows))

-- the first lines, and whether these are all
abbrev pub cut : ℕ → List GroupRow → Answer
cut limit lines = Table (map (λ line. line.cells) (take limit lines)) (nat_le (length lines) limit)

-- ---- answers

-- the least conflict, by the number of its measure, or else the answer
abbrev pub answer_unless : List ℕ → Option (ℕ × Value) → Answer → Answer
answer_unless measures None answer = answer
answer_unless measures (Some c) answer = Duplicate (slice_index measures c.0) c.1

-- the answer over the rows that pass
abbrev pub answer_over : Explore → Bound → List Joined → Answer
answer_over x b passing =
    answer_unless (query_components x b) (conflict_among x (dims_of b.picks) (query_components x b) passing)
    (cut b.limit (lines_of x b (rows_grouped x (dims_of b.picks) (query_components x b) passing)))

-- the answer of a bound query: it depends on the tables only through the visible rows
abbrev pub answer_of : Explore → Sources → Bound → Answer
answer_of x s b = answer_over x b (passing_rows x b.rows (visible_rows x s b))
