-- The values of an answer over dated rows are dated.
use Rattle.std.proofs.Common.{◌≡◌, ℕ, ◌+◌, zero, suc, Bool, true, false, ◌&&◌, List, [], ◌∷◌, map, length, refl}
use Rattle.std.specs.Prelude.{ℤ, pos, ◌*◌, ◌==◌, Option, Some, None, filter, if◌then◌else◌}
use Rattle.std.specs.List.{list_all, enumerate_from}
use Rattle.std.specs.Ordering.{match_ordering, is_gt, flip_args}
use Rattle.std.specs.declared.cmp.Ordering.{Ordering}
use Rattle.std.specs.declared.cmp.Ordering.TheVariants.{Less, Equal, Greater}
use Rattle.lk_val.specs.Sets.{set_of, with_item, first_of}
use Rattle.lk_val.specs.Values.{tuple_cmp, null_last_cmp, value_cmp}
use Rattle.lk_val.specs.Fractions.{Fraction, reduced}
use Rattle.lk_val.specs.Rounding.{num_of_fraction}
use Rattle.lk_val.specs.declared.num.Num.{Num}
use Rattle.lk_val.specs.declared.value.Value.{Value}
use Rattle.lk_val.specs.declared.value.Value.TheVariants as value
use Rattle.lk_val.specs.declared.cell.Cell.{Cell}
use Rattle.lk_val.specs.declared.cell.Cell.TheVariants as cell
use Rattle.lk_types.specs.Formula.{Formula, Framed, Literal}
use Rattle.lk_types.specs.Calculation.{Calculation}
use Rattle.lk_types.specs.Expressions.{value_of, value_of_num}
use Rattle.lk_types.specs.Dates.{is_dated, is_row_dated, are_literals_dated}
use Rattle.lk_types.specs.Timeframes.{timeframe_of}
use Rattle.lk_types.specs.Shapes.{shaped, plain_value, tier_of}
use Rattle.lk_eval.proofs.DateLaws.{value_of-dated}
use Rattle.lk_semantics.specs.DatedRows.{is_condition_dated}
use Rattle.lk_semantics.specs.Rows.{field_at, no_field, dim_value, tuple_of}
use Rattle.lk_semantics.specs.Measures.{Entry, entry_at, no_entry, entries_of, values_of_entries, average_cell, total, known_count, pairs_of, least_of, greatest_of, measure_of, groups_of, group_row, group_rows}
use Rattle.lk_semantics.specs.Answers.{measure_at, no_measure, optional_value, key_value, given_row, given_rows, ops_of, rows_grouped, component_cell, frac_of_cell, calculated, cell_of_frac, or_calculated, cell_within, measure_cell, line_cells, line_of, lines_of, passes_having, line_cmp, dims_of, query_components}
use Rattle.lk_semantics.specs.Derived.{value_of_cell}
use Rattle.lk_semantics.proofs.EveryLaws.{Every, both, first, second, every-filter, every-at, every-map}
use Rattle.lk_derived.specs.DatedExplores.{is_explore_dated}
use Rattle.lk_types.specs.declared.schema.Kind.{Kind}
use Rattle.lk_types.specs.declared.schema.Kind.TheVariants as kind
use Rattle.lk_types.specs.declared.rows.Joined.{Joined}
use Rattle.lk_types.specs.declared.explore.Shape.{Shape}
use Rattle.lk_types.specs.declared.explore.Shape.TheVariants as shape
use Rattle.lk_types.specs.declared.explore.Explore.{Explore}
use Rattle.lk_types.specs.declared.explore.Op.{Op}
use Rattle.lk_types.specs.declared.explore.Op.TheVariants.{Count, CountDistinct, Sum, Average, Min, Max, SumDistinct, AverageDistinct, Number}
use Rattle.lk_types.specs.declared.answer.KeyValue.{KeyValue}
use Rattle.lk_types.specs.declared.answer.GivenRow.{GivenRow}
use Rattle.lk_types.specs.declared.answer.GroupRow.{GroupRow}
use Rattle.lk_types.specs.declared.model.Pick.{Pick}
use Rattle.lk_types.specs.declared.model.Pick.TheVariants.{Dim, Mea}
use Rattle.lk_types.specs.declared.bound.Bound.{Bound}

-- ---- sets

module _ {A : Type 0} (cmp : A → A → Ordering) (t : A → Bool) where
  every-with_item : (x : A) (ys : List A) → t x ≡ true → Every t ys → Every t (with_item cmp x ys)
  every-with_item x [] h p = both (t x) true h refl
  every-with_item x (y ∷ ys) h p =
      elim (cmp x y) as (λ o. Every t (match_ordering o (x ∷ y ∷ ys) (y ∷ ys) (y ∷ with_item cmp x ys))) [
        | Less ↦ both (t x) (list_all t (y ∷ ys)) h p
        | Equal ↦ p
        | Greater ↦ both (t y) (list_all t (with_item cmp x ys)) (first (t y) (list_all t ys) p) (every-with_item x ys h (second (t y) (list_all t ys) p))
      ]

  pub every-set_of : (xs : List A) → Every t xs → Every t (set_of cmp xs)
  every-set_of [] p = refl
  every-set_of (x ∷ xs) p = every-with_item x (set_of cmp xs) (first (t x) (list_all t xs) p) (every-set_of xs (second (t x) (list_all t xs) p))

pub every-enumerated : {A : Type 0} (t : A → Bool) (n : ℕ) (xs : List A) → Every t xs → Every (λ (e : ℕ × A). t e.1) (enumerate_from n xs)
every-enumerated t n [] p = refl
every-enumerated t n (x ∷ xs) p = both (t x) (list_all (λ e. t e.1) (enumerate_from (n + 1) xs)) (first (t x) (list_all t xs) p) (every-enumerated t (n + 1) xs (second (t x) (list_all t xs) p))

pub all_of : {A : Type 0} (xs : List A) → Every (λ x. true) xs
all_of [] = refl
all_of (x ∷ xs) = all_of xs

-- ---- what is grouped and filtered

-- a row without parts
abbrev no_row : Joined
no_row = record { parts = [] }

timeframe-dated : (f : _) (v : Value) → is_dated v ≡ true → is_dated (timeframe_of f v) ≡ true
timeframe-dated f v h = value_of-dated (Framed f (Literal v)) no_row refl h

plain-dated : (k : Kind) (v : Value) → is_dated v ≡ true → is_dated (plain_value k v) ≡ true
plain-dated kind.Text v h = h
plain-dated kind.Number v h = h
plain-dated kind.Day v h = h
plain-dated kind.Moment v h = h
plain-dated kind.Truth value.Null h = refl
plain-dated kind.Truth (value.Text x) h = refl
plain-dated kind.Truth (value.Num x) h = refl
plain-dated kind.Truth (value.Truth x) h = refl
plain-dated kind.Truth (value.Day x) h = refl
plain-dated kind.Truth (value.Moment x) h = refl

tier-dated : (bounds : _) (v : Value) → is_dated (tier_of bounds v) ≡ true
tier-dated bounds value.Null = refl
tier-dated bounds (value.Text x) = refl
tier-dated bounds (value.Num x) = refl
tier-dated bounds (value.Truth x) = refl
tier-dated bounds (value.Day x) = refl
tier-dated bounds (value.Moment x) = refl

shaped-dated : (s : Shape) (k : Kind) (v : Value) → is_dated v ≡ true → is_dated (shaped s k v) ≡ true
shaped-dated shape.Plain k v h = plain-dated k v h
shaped-dated (shape.Tier bounds) k v h = tier-dated bounds v
shaped-dated (shape.Frame group f) k v h = timeframe-dated f v h

optional-dated : (e : Option Formula) (row : Joined) → is_row_dated row ≡ true → is_condition_dated e ≡ true → is_dated (optional_value e row) ≡ true
optional-dated None row r h = refl
optional-dated (Some e) row r h = value_of-dated e row r h

-- ---- cells

number-dated : (n : Option Num) → is_dated (value_of_num n) ≡ true
number-dated None = refl
number-dated (Some n) = refl

-- a cell whose value is dated
abbrev pub is_cell_dated : Cell → Bool
is_cell_dated c = is_dated (value_of_cell c)

first_of-dated : (cmp : Value → Value → Ordering) (a b : Value) → is_dated a ≡ true → is_dated b ≡ true → is_dated (first_of cmp a b) ≡ true
first_of-dated cmp a b p q = elim (is_gt (cmp a b)) as (λ g. is_dated (if g then b else a) ≡ true) [ true ↦ q | false ↦ p ]

least-dated : (vs : List Value) → Every is_dated vs → is_dated (least_of vs) ≡ true
least-dated [] p = refl
least-dated (v ∷ vs) p = first_of-dated null_last_cmp v (least_of vs) (first (is_dated v) (list_all is_dated vs) p) (least-dated vs (second (is_dated v) (list_all is_dated vs) p))

greatest-dated : (vs : List Value) → Every is_dated vs → is_dated (greatest_of vs) ≡ true
greatest-dated [] p = refl
greatest-dated (v ∷ vs) p = first_of-dated (flip_args value_cmp) v (greatest_of vs) (first (is_dated v) (list_all is_dated vs) p) (greatest-dated vs (second (is_dated v) (list_all is_dated vs) p))

average-dated : (sum : ℤ) (count : ℕ) → is_cell_dated (average_cell sum count) ≡ true
average-dated sum count =
    elim (count == 0) as (λ b. is_cell_dated (if b then cell.Value value.Null else cell.Frac (reduced sum (pos (10000 * count)))) ≡ true) [
      | true ↦ refl
      | false ↦ number-dated (num_of_fraction (reduced sum (pos (10000 * count))))
    ]

-- an entry whose value is dated
abbrev is_entry_dated : Entry → Bool
is_entry_dated e = is_dated e.1.value

measure-dated : (o : Op) (entries : List Entry) → Every is_entry_dated entries → is_cell_dated (measure_of o entries) ≡ true
measure-dated Count entries p = number-dated _
measure-dated Sum entries p = number-dated _
measure-dated SumDistinct entries p = number-dated _
measure-dated CountDistinct entries p = number-dated _
measure-dated Average entries p = average-dated (total (pairs_of Average entries)) (known_count (pairs_of Average entries))
measure-dated AverageDistinct entries p = average-dated (total (pairs_of AverageDistinct entries)) (known_count (pairs_of AverageDistinct entries))
measure-dated Min entries p = least-dated (values_of_entries entries) (every-map is_dated is_entry_dated (λ e. e.1.value) (λ e h. h) entries p)
measure-dated Max entries p = greatest-dated (values_of_entries entries) (every-map is_dated is_entry_dated (λ e. e.1.value) (λ e h. h) entries p)
measure-dated Number entries p = refl

-- ---- given rows and groups

-- a row that gives dated values, in a dated group
abbrev is_given_dated : GivenRow → Bool
is_given_dated row = list_all is_dated row.group && list_all (λ (c : KeyValue). is_dated c.value) row.cells

entries-dated : (i : ℕ) (rows : List GivenRow) (group : List Value) → Every is_given_dated rows → Every is_entry_dated (entries_of i rows group)
entries-dated i rows group p =
    every-filter is_entry_dated _ (map (entry_at i) (filter _ rows))
    (every-map is_entry_dated is_given_dated (entry_at i)
    (λ row h. every-at (λ (c : KeyValue). is_dated c.value) row.cells i no_entry (second (list_all is_dated row.group) (list_all (λ (c : KeyValue). is_dated c.value) row.cells) h) refl)
    (filter _ rows) (every-filter is_given_dated _ rows p))

-- a group whose values and cells are dated
abbrev pub is_group_dated : GroupRow → Bool
is_group_dated row = list_all is_dated row.group && list_all is_cell_dated row.cells

groups-dated : (dims : ℕ) (rows : List GivenRow) → Every is_given_dated rows → Every (list_all is_dated) (groups_of dims rows)
groups-dated zero rows p = refl
groups-dated (suc n) rows p =
    every-set_of tuple_cmp (list_all is_dated) (map (λ row. row.group) rows)
    (every-map (list_all is_dated) is_given_dated (λ row. row.group) (λ row h. first (list_all is_dated row.group) (list_all (λ (c : KeyValue). is_dated c.value) row.cells) h) rows p)

group_rows-dated : (dims : ℕ) (ops : List Op) (rows : List GivenRow) → Every is_given_dated rows → Every is_group_dated (group_rows dims ops rows)
group_rows-dated dims ops rows p =
    every-map is_group_dated (list_all is_dated) (group_row ops rows)
    (λ group h. both (list_all is_dated group) _ h
    (every-map is_cell_dated (λ c. true) (λ (c : ℕ × Op). measure_of c.1 (entries_of c.0 rows group)) (λ c _. measure-dated c.1 (entries_of c.0 rows group) (entries-dated c.0 rows group p)) (enumerate_from 0 ops) (all_of (enumerate_from 0 ops))))
    (groups_of dims rows) (groups-dated dims rows p)

-- ---- lines

calculated-dated : (f : Option Fraction) → is_cell_dated (cell_of_frac f) ≡ true
calculated-dated None = refl
calculated-dated (Some f) = number-dated _

or_calculated-dated : (c : Cell) (known : ℕ → Option Fraction) (e : Option Calculation) → is_cell_dated c ≡ true → is_cell_dated (or_calculated c known e) ≡ true
or_calculated-dated c known None h = h
or_calculated-dated c known (Some e) h = calculated-dated (calculated known e)

module _ (x : Explore) (known : ℕ → Cell) (dated : (m : ℕ) → is_cell_dated (known m) ≡ true) where
  within-dated : (n m : ℕ) → is_cell_dated (cell_within x n known m) ≡ true
  within-dated zero m = dated m
  within-dated (suc n) m = or_calculated-dated (known m) (λ k. frac_of_cell (cell_within x n known k)) (measure_at x m).number (dated m)

  line_cells-dated : (picks : List Pick) (group : List Value) → Every is_dated group → Every is_cell_dated (line_cells x known picks group)
  line_cells-dated [] group p = refl
  line_cells-dated (Dim f ∷ picks) [] p = refl
  line_cells-dated (Dim f ∷ picks) (v ∷ group) p =
      both (is_dated v) _ (first (is_dated v) (list_all is_dated group) p) (line_cells-dated picks group (second (is_dated v) (list_all is_dated group) p))
  line_cells-dated (Mea m ∷ picks) group p = both (is_cell_dated (measure_cell x known m)) _ (within-dated (length x.measures) m) (line_cells-dated picks group p)

line-dated : (x : Explore) (b : Bound) (row : GroupRow) → is_group_dated row ≡ true → is_group_dated (line_of x b row) ≡ true
line-dated x b row h =
    let group = first (list_all is_dated row.group) (list_all is_cell_dated row.cells) h in
    both (list_all is_dated row.group) _ group
    (line_cells-dated x (component_cell (query_components x b) row.cells)
    (λ m. every-at is_cell_dated row.cells _ (cell.Value value.Null) (second (list_all is_dated row.group) (list_all is_cell_dated row.cells) h) refl) b.picks row.group group)

lines-dated : (x : Explore) (b : Bound) (rows : List GroupRow) → Every is_group_dated rows → Every is_group_dated (lines_of x b rows)
lines-dated x b rows p =
    every-set_of (line_cmp b.sorts) is_group_dated (map (line_of x b) (filter (passes_having x b) rows))
    (every-map is_group_dated is_group_dated (line_of x b) (line-dated x b) (filter (passes_having x b) rows) (every-filter is_group_dated (passes_having x b) rows p))

-- ---- over dated rows of an explore

module _ (x : Explore) (dated : is_explore_dated x ≡ true) where
  dim-dated : (row : Joined) → is_row_dated row ≡ true → (f : ℕ) → is_dated (dim_value x row f) ≡ true
  dim-dated row r f =
      shaped-dated (field_at x f).shape (field_at x f).kind (value_of (field_at x f).expr row)
      (value_of-dated (field_at x f).expr row r (every-at (λ g. are_literals_dated g.expr) x.fields f no_field (first (list_all (λ g. are_literals_dated g.expr) x.fields) _ dated) refl))

  taken-dated : (row : Joined) → is_row_dated row ≡ true → (m : ℕ) → is_dated (optional_value (measure_at x m).value row) ≡ true
  taken-dated row r m =
      optional-dated (measure_at x m).value row r (every-at (λ n. is_condition_dated n.value) x.measures m no_measure (second (list_all (λ g. are_literals_dated g.expr) x.fields) _ dated) refl)

  given-dated : (dims measures : List ℕ) (passing : List Joined) → Every is_row_dated passing → Every is_given_dated (given_rows x dims measures passing)
  given-dated dims measures passing p =
      every-map is_given_dated (λ (e : ℕ × Joined). is_row_dated e.1) (given_row x dims measures)
      (λ e r. both (list_all is_dated (tuple_of x dims e.1)) _
      (every-map is_dated (λ f. true) (dim_value x e.1) (λ f _. dim-dated e.1 r f) dims (all_of dims))
      (every-map (λ (c : KeyValue). is_dated c.value) (λ m. true) (λ m. key_value x (measure_at x m) e.1) (λ m _. taken-dated e.1 r m) measures (all_of measures)))
      (enumerate_from 0 passing) (every-enumerated is_row_dated 0 passing p)

  -- the lines of any query over dated rows
  pub answer-dated : (b : Bound) (passing : List Joined) → Every is_row_dated passing →
      Every is_group_dated (lines_of x b (rows_grouped x (dims_of b.picks) (query_components x b) passing))
  answer-dated b passing p =
      lines-dated x b (rows_grouped x (dims_of b.picks) (query_components x b) passing)
      (group_rows-dated (length (dims_of b.picks)) (ops_of x (query_components x b)) (given_rows x (dims_of b.picks) (query_components x b) passing) (given-dated (dims_of b.picks) (query_components x b) passing p))
