-- The cells of an answer over rows that fit their kinds have the kinds of what is picked.
use Rattle.std.proofs.Common.{◌≡◌, ℕ, ◌+◌, ◌<◌, zero, suc, Bool, true, false, ◌&&◌, ◌||◌, List, [], ◌∷◌, ◌++◌, map, length, refl, sym, ap, subst, ◌∙◌, arith}
use Rattle.std.specs.Prelude.{ℤ, pos, ◌*◌, ◌==◌, not, nat_eq, Option, Some, None, filter, flat_map, slice_index_or, position, unwrap_or, if◌then◌else◌}
use Rattle.std.proofs.Common.{cond, eq-eqb}
use Rattle.std.specs.List.{list_all, enumerate_from, position_or_len}
use Rattle.std.specs.Ordering.{is_gt, flip_args}
use Rattle.std.specs.declared.cmp.Ordering.{Ordering}
use Rattle.std.proofs.lemmas.Bool.{false≢true, eqb-true, lt-ltb}
use Rattle.lk_val.specs.Sets.{first_of}
use Rattle.lk_val.specs.Values.{tuple_cmp, null_last_cmp, value_cmp}
use Rattle.lk_val.specs.Fractions.{Fraction, reduced}
use Rattle.lk_val.specs.Rounding.{num_of_fraction}
use Rattle.lk_val.specs.declared.num.Num.{Num}
use Rattle.lk_val.specs.declared.value.Value.{Value}
use Rattle.lk_val.specs.declared.value.Value.TheVariants as value
use Rattle.lk_val.specs.declared.cell.Cell.{Cell}
use Rattle.lk_val.specs.declared.cell.Cell.TheVariants as cell
use Rattle.lk_types.specs.Formula.{Formula}
use Rattle.lk_types.specs.Calculation.{Calculation}
use Rattle.lk_types.specs.Expressions.{value_of, value_of_num, has_number}
use Rattle.lk_types.specs.Tables.{is_of_kind}
use Rattle.lk_types.specs.Kinds.{HasKinds, is_same_kind}
use Rattle.lk_types.specs.Shapes.{shaped, framed_kind}
use Rattle.lk_types.specs.declared.explore.Shape.{Shape}
use Rattle.lk_types.specs.declared.explore.Shape.TheVariants as shape
use Rattle.lk_semantics.specs.Rows.{field_at, dim_value, tuple_of}
use Rattle.lk_semantics.specs.Measures.{Entry, entry_at, no_entry, entries_of, values_of_entries, average_cell, total, known_count, pairs_of, least_of, greatest_of, measure_of, groups_of, group_row, group_rows}
use Rattle.lk_semantics.specs.Answers.{measure_at, no_measure, optional_value, key_value, given_row, given_rows, ops_of, rows_grouped, first_each, or_parts, parts_of_measure, components_of, picked_measures, filtered, component_cell, frac_of_cell, calculated, cell_of_frac, or_calculated, cell_within, measure_cell, line_cells, line_of, lines_of, passes_having, line_cmp, dims_of, query_components}
use Rattle.lk_semantics.specs.Derived.{value_of_cell}
use Rattle.lk_semantics.specs.Reading.{pick_kind}
use Rattle.lk_semantics.specs.Resolved.{is_typed, is_settled, settled_kind, is_time_kind, is_type_kind, has_shape_kind, is_typed_field, is_typed_measure, has_tiers, has_operands, has_own_kind, is_calculated_rightly, has_calculation, is_some_settled, is_no_formula}
use Rattle.lk_semantics.proofs.EveryLaws.{Every, both, first, second, every-filter, every-map}
use Rattle.lk_derived.specs.FittingRows.{fits_cells}
use Rattle.std.proofs.lemmas.List.{get_or-map, length-map}
use Rattle.lk_derived.proofs.DatedAnswers.{every-set_of, every-enumerated}
use Rattle.lk_derived.proofs.FittingJoins.{fits_row, has_kinds, typed-kind, settled-kind, same_kind, shaped_by}
use Rattle.lk_types.specs.declared.schema.Kind.{Kind}
use Rattle.lk_types.specs.declared.schema.Kind.TheVariants as kind
use Rattle.lk_types.specs.declared.kind_set.Leaves.{Leaves}
use Rattle.lk_types.specs.declared.rows.Joined.{Joined}
use Rattle.lk_types.specs.declared.explore.Measure.{Measure}
use Rattle.lk_types.specs.declared.explore.Explore.{Explore}
use Rattle.lk_types.specs.declared.explore.Op.{Op}
use Rattle.lk_types.specs.declared.explore.Op.TheVariants as op
use Rattle.lk_types.specs.declared.answer.KeyValue.{KeyValue}
use Rattle.lk_types.specs.declared.answer.GivenRow.{GivenRow}
use Rattle.lk_types.specs.declared.answer.GroupRow.{GroupRow}
use Rattle.lk_types.specs.declared.model.Pick.{Pick}
use Rattle.lk_types.specs.declared.model.Pick.TheVariants.{Dim, Mea}
use Rattle.lk_types.specs.declared.bound.Bound.{Bound}

-- ---- dimensions

shape-kind : (leaves : Leaves) (row : Joined) → HasKinds leaves row → (s : Shape) (k : Kind) (e : Formula) → has_shape_kind leaves s k e ≡ true → is_of_kind k (shaped s k (value_of e row)) ≡ true
shape-kind leaves row has shape.Plain k e h = shaped_by shape.Plain k k (value_of e row) refl (typed-kind leaves row has k e (second (is_type_kind k) (is_typed leaves k e) h))
shape-kind leaves row has (shape.Tier bounds) k e h =
    shaped_by (shape.Tier bounds) k kind.Number (value_of e row) (same_kind k kind.Number (first (is_same_kind k kind.Number) (is_typed leaves kind.Number e) h)) (typed-kind leaves row has kind.Number e (second (is_same_kind k kind.Number) (is_typed leaves kind.Number e) h))
shape-kind leaves row has (shape.Frame group frame) k e h =
    let base = settled_kind leaves kind.Moment e in
    let front = first (is_time_kind base && is_settled leaves kind.Moment base e) (is_same_kind k (framed_kind frame base)) h in
    shaped_by (shape.Frame group frame) k base (value_of e row) (same_kind k (framed_kind frame base) (second (is_time_kind base && is_settled leaves kind.Moment base e) (is_same_kind k (framed_kind frame base)) h))
    (settled-kind leaves row has kind.Moment base e (second (is_time_kind base) (is_settled leaves kind.Moment base e) front))

field-kind : (leaves : Leaves) (row : Joined) → HasKinds leaves row → (x : Explore) (f : ℕ) → is_typed_field leaves (field_at x f) ≡ true → is_of_kind (field_at x f).kind (dim_value x row f) ≡ true
field-kind leaves row has x f h =
    let g = field_at x f in
    shape-kind leaves row has g.shape g.kind g.expr (second (has_tiers g.shape) (has_shape_kind leaves g.shape g.kind g.expr) h)

-- ---- cells of measures

null_kind : (k : Kind) → is_of_kind k value.Null ≡ true
null_kind k = refl

number-kind : (n : Option Num) → is_of_kind kind.Number (value_of_num n) ≡ true
number-kind None = refl
number-kind (Some n) = refl

choice-kind : (k : Kind) (cmp : Value → Value → Ordering) (a b : Value) → is_of_kind k a ≡ true → is_of_kind k b ≡ true → is_of_kind k (first_of cmp a b) ≡ true
choice-kind k cmp a b p q = elim (is_gt (cmp a b)) as (λ g. is_of_kind k (if g then b else a) ≡ true) [ true ↦ q | false ↦ p ]

least-kind : (k : Kind) (vs : List Value) → Every (is_of_kind k) vs → is_of_kind k (least_of vs) ≡ true
least-kind k [] p = null_kind k
least-kind k (v ∷ vs) p = choice-kind k null_last_cmp v (least_of vs) (first (is_of_kind k v) (list_all (is_of_kind k) vs) p) (least-kind k vs (second (is_of_kind k v) (list_all (is_of_kind k) vs) p))

greatest-kind : (k : Kind) (vs : List Value) → Every (is_of_kind k) vs → is_of_kind k (greatest_of vs) ≡ true
greatest-kind k [] p = null_kind k
greatest-kind k (v ∷ vs) p = choice-kind k (flip_args value_cmp) v (greatest_of vs) (first (is_of_kind k v) (list_all (is_of_kind k) vs) p) (greatest-kind k vs (second (is_of_kind k v) (list_all (is_of_kind k) vs) p))

average-kind : (sum : ℤ) (count : ℕ) → is_of_kind kind.Number (value_of_cell (average_cell sum count)) ≡ true
average-kind sum count =
    elim (count == 0) as (λ b. is_of_kind kind.Number (value_of_cell (if b then cell.Value value.Null else cell.Frac (reduced sum (pos (10000 * count))))) ≡ true) [
      | true ↦ refl
      | false ↦ number-kind (num_of_fraction (reduced sum (pos (10000 * count))))
    ]

-- an entry's value is of the kind, where the type of measure runs over values
abbrev pub is_entry_of : Op → Kind → Entry → Bool
is_entry_of op.Min k e = is_of_kind k e.1.value
is_entry_of op.Max k e = is_of_kind k e.1.value
is_entry_of o k e = true

measure-kind : (o : Op) (k : Kind) (entries : List Entry) → has_own_kind o k ≡ true → Every (is_entry_of o k) entries → is_of_kind k (value_of_cell (measure_of o entries)) ≡ true
measure-kind op.Min k entries own p = least-kind k (values_of_entries entries) (every-map (is_of_kind k) (is_entry_of op.Min k) (λ e. e.1.value) (λ e h. h) entries p)
measure-kind op.Max k entries own p = greatest-kind k (values_of_entries entries) (every-map (is_of_kind k) (is_entry_of op.Max k) (λ e. e.1.value) (λ e h. h) entries p)
measure-kind op.Count k entries own p = subst (λ j. is_of_kind j (value_of_cell (measure_of op.Count entries)) ≡ true) (sym (same_kind k kind.Number own)) (number-kind _)
measure-kind op.CountDistinct k entries own p = subst (λ j. is_of_kind j (value_of_cell (measure_of op.CountDistinct entries)) ≡ true) (sym (same_kind k kind.Number own)) (number-kind _)
measure-kind op.Sum k entries own p = subst (λ j. is_of_kind j (value_of_cell (measure_of op.Sum entries)) ≡ true) (sym (same_kind k kind.Number own)) (number-kind _)
measure-kind op.SumDistinct k entries own p = subst (λ j. is_of_kind j (value_of_cell (measure_of op.SumDistinct entries)) ≡ true) (sym (same_kind k kind.Number own)) (number-kind _)
measure-kind op.Average k entries own p = subst (λ j. is_of_kind j (value_of_cell (measure_of op.Average entries)) ≡ true) (sym (same_kind k kind.Number own)) (average-kind (total (pairs_of op.Average entries)) (known_count (pairs_of op.Average entries)))
measure-kind op.AverageDistinct k entries own p = subst (λ j. is_of_kind j (value_of_cell (measure_of op.AverageDistinct entries)) ≡ true) (sym (same_kind k kind.Number own)) (average-kind (total (pairs_of op.AverageDistinct entries)) (known_count (pairs_of op.AverageDistinct entries)))
measure-kind op.Number k entries own p = null_kind k

-- ---- the place of a component

-- the place at which a number of a list is found is in the list, and the number stands there
found : (n : ℕ) (ns : List ℕ) → has_number n ns ≡ true → (position_or_len (nat_eq n) ns < length ns) × (slice_index_or ns (position_or_len (nat_eq n) ns) 0 ≡ n)
found n [] h = absurd (false≢true h)
found n (x ∷ xs) h =
    elim (nat_eq n x) as (λ b. nat_eq n x ≡ b → (b || has_number n xs) ≡ true → (cond (not b) (1 + position_or_len (nat_eq n) xs) 0 < suc (length xs)) × (slice_index_or (x ∷ xs) (cond (not b) (1 + position_or_len (nat_eq n) xs) 0) 0 ≡ n)) [
      | true ↦ λ same _. (omega arith, sym (eqb-true n x same))
      | false ↦ λ _ later. let rest = found n xs later in ((let less : position_or_len (nat_eq n) xs < length xs = rest.0 in omega arith), (let e : suc (position_or_len (nat_eq n) xs) ≡ 1 + position_or_len (nat_eq n) xs = omega arith in subst (λ j. slice_index_or (x ∷ xs) j 0 ≡ n) e rest.1))
    ] refl h

-- so the search answers it
search_found : (n : ℕ) (ns : List ℕ) → has_number n ns ≡ true → unwrap_or (position (nat_eq n) ns) 0 ≡ position_or_len (nat_eq n) ns
search_found n ns h = λ i. unwrap_or (cond (lt-ltb (position_or_len (nat_eq n) ns) (length ns) (found n ns h).0 i) (Some (position_or_len (nat_eq n) ns)) None) 0

-- the cell of a type of measure among those of a group
cell_at_place : (rows : List GivenRow) (group : List Value) (ops : List Op) (s i : ℕ) (d : Cell) → i < length ops →
    slice_index_or (map (λ (c : ℕ × Op). measure_of c.1 (entries_of c.0 rows group)) (enumerate_from s ops)) i d ≡ measure_of (slice_index_or ops i op.Count) (entries_of (s + i) rows group)
cell_at_place rows group [] s i d h = absurd (omega arith)
cell_at_place rows group (o ∷ ops) s zero d h = ap (λ k. measure_of o (entries_of k rows group)) (omega arith)
cell_at_place rows group (o ∷ ops) s (suc i) d h =
    cell_at_place rows group ops (s + 1) i d (omega arith) ∙ ap (λ k. measure_of (slice_index_or ops i op.Count) (entries_of k rows group)) (omega arith)

-- ---- components

or_second : (a b c : Bool) → (b ≡ true → c ≡ true) → (a || b) ≡ true → (a || c) ≡ true
or_second true b c f h = refl
or_second false b c f h = f h

or_right : (a b : Bool) → b ≡ true → (a || b) ≡ true
or_right true b h = refl
or_right false b h = h

in_left : (e : ℕ) (xs ys : List ℕ) → has_number e xs ≡ true → has_number e (xs ++ ys) ≡ true
in_left e [] ys h = absurd (false≢true h)
in_left e (x ∷ xs) ys h = or_second (nat_eq e x) (has_number e xs) (has_number e (xs ++ ys)) (in_left e xs ys) h

in_right : (e : ℕ) (xs ys : List ℕ) → has_number e ys ≡ true → has_number e (xs ++ ys) ≡ true
in_right e [] ys h = h
in_right e (x ∷ xs) ys h = or_right (nat_eq e x) (has_number e (xs ++ ys)) (in_right e xs ys h)

in_parts : (f : ℕ → List ℕ) (n : ℕ) (ns : List ℕ) → has_number n ns ≡ true → has_number n (f n) ≡ true → has_number n (flat_map f ns) ≡ true
in_parts f n [] h there = absurd (false≢true h)
in_parts f n (x ∷ xs) h there =
    elim (nat_eq n x) as (λ b. nat_eq n x ≡ b → (b || has_number n xs) ≡ true → has_number n (f x ++ flat_map f xs) ≡ true) [
      | true ↦ λ same _. in_left n (f x) (flat_map f xs) (subst (λ z. has_number n (f z) ≡ true) (eqb-true n x same) there)
      | false ↦ λ _ later. in_right n (f x) (flat_map f xs) (in_parts f n xs later there)
    ] refl h

-- taking out a number leaves the others
in_filter : (n x : ℕ) (ns : List ℕ) → nat_eq n x ≡ false → has_number n ns ≡ true → has_number n (filter (λ m. not (m == x)) ns) ≡ true
in_filter n x [] other h = h
in_filter n x (m ∷ ms) other h =
    elim (nat_eq n m) as (λ b. nat_eq n m ≡ b → (b || has_number n ms) ≡ true → has_number n (filter (λ k. not (k == x)) (m ∷ ms)) ≡ true) [
      | true ↦ λ same _.
          (λ i. has_number n (if not (kept same i) then m ∷ filter (λ k. not (k == x)) ms else filter (λ k. not (k == x)) ms)) ∙ (λ i. same i || has_number n (filter (λ k. not (k == x)) ms))
      | false ↦ λ _ later. elim (m == x) as (λ b. has_number n (if not b then m ∷ filter (λ k. not (k == x)) ms else filter (λ k. not (k == x)) ms) ≡ true) [
        | true ↦ in_filter n x ms other later
        | false ↦ or_right (nat_eq n m) (has_number n (filter (λ k. not (k == x)) ms)) (in_filter n x ms other later)
      ]
    ] refl h
  where
    kept : nat_eq n m ≡ true → (m == x) ≡ false
    kept same = subst (λ z. (z == x) ≡ false) (eqb-true n m same) other

pub in_first_each : (n : ℕ) (ns : List ℕ) → has_number n ns ≡ true → has_number n (first_each ns) ≡ true
in_first_each n [] h = h
in_first_each n (x ∷ xs) h =
    elim (nat_eq n x) as (λ b. nat_eq n x ≡ b → (b || has_number n xs) ≡ true → (nat_eq n x || has_number n (filter (λ m. not (m == x)) (first_each xs))) ≡ true) [
      | true ↦ λ same _. (λ i. same i || has_number n (filter (λ m. not (m == x)) (first_each xs)))
      | false ↦ λ other later. or_right (nat_eq n x) _ (in_filter n x (first_each xs) other (in_first_each n xs later))
    ] refl h

no_parts : (x : Explore) (ns : List ℕ) → flat_map (parts_of_measure x 0) ns ≡ []
no_parts x [] = refl
no_parts x (n ∷ ns) = no_parts x ns

-- ---- an answer over rows that fit

module _ (leaves : Leaves) (x : Explore) (fields : (f : ℕ) → is_typed_field leaves (field_at x f) ≡ true) (measures : (n : ℕ) → is_typed_measure leaves (measure_at x n) ≡ true) (passing : List Joined) (fit : Every (fits_row leaves.kinds) passing) where
  own_kind : (n : ℕ) → has_own_kind (measure_at x n).op (measure_at x n).kind ≡ true
  own_kind n = let g = measure_at x n in second (has_operands leaves g.op g.kind g.value g.key) (has_own_kind g.op g.kind) (first (has_operands leaves g.op g.kind g.value g.key && has_own_kind g.op g.kind) (is_calculated_rightly g.op g.number) (measures n))

  has_all : (n : ℕ) → has_operands leaves (measure_at x n).op (measure_at x n).kind (measure_at x n).value (measure_at x n).key ≡ true
  has_all n = let g = measure_at x n in first (has_operands leaves g.op g.kind g.value g.key) (has_own_kind g.op g.kind) (first (has_operands leaves g.op g.kind g.value g.key && has_own_kind g.op g.kind) (is_calculated_rightly g.op g.number) (measures n))

  -- what a row gives to a measure is of its kind
  typed_value : (e : Option Formula) (k : Kind) (row : Joined) → fits_row leaves.kinds row ≡ true → is_some_settled leaves kind.Text k e ≡ true → is_of_kind k (optional_value e row) ≡ true
  typed_value None k row r h = absurd (false≢true h)
  typed_value (Some e) k row r h = settled-kind leaves row (has_kinds leaves row r) kind.Text k e h

  entry_of : (o : Op) (k : Kind) (v key : Option Formula) (row : Joined) (place : ℕ) (given : KeyValue) → given.value ≡ optional_value v row → fits_row leaves.kinds row ≡ true → has_operands leaves o k v key ≡ true → is_entry_of o k (place, given) ≡ true
  entry_of op.Min k v key row place given is r h = subst (λ u. is_of_kind k u ≡ true) (sym is) (typed_value v k row r (first (is_some_settled leaves kind.Text k v) (is_no_formula key) h))
  entry_of op.Max k v key row place given is r h = subst (λ u. is_of_kind k u ≡ true) (sym is) (typed_value v k row r (first (is_some_settled leaves kind.Text k v) (is_no_formula key) h))
  entry_of op.Count k v key row place given is r h = refl
  entry_of op.CountDistinct k v key row place given is r h = refl
  entry_of op.Sum k v key row place given is r h = refl
  entry_of op.Average k v key row place given is r h = refl
  entry_of op.SumDistinct k v key row place given is r h = refl
  entry_of op.AverageDistinct k v key row place given is r h = refl
  entry_of op.Number k v key row place given is r h = refl

  module _ (dims comps : List ℕ) where
    abbrev rows : List GivenRow
    rows = given_rows x dims comps passing

    -- the entries of the component at a place
    entries-kind : (n i : ℕ) (group : List Value) → i < length comps → slice_index_or comps i 0 ≡ n → Every (is_entry_of (measure_at x n).op (measure_at x n).kind) (entries_of i rows group)
    entries-kind n i group less is =
        every-filter given_entry _ (map (entry_at i) (filter _ rows))
        (every-map given_entry fit_given (entry_at i) (λ row h. h) (filter _ rows)
        (every-filter fit_given _ rows
        (every-map fit_given (λ (e : ℕ × Joined). fits_row leaves.kinds e.1) (given_row x dims comps)
        (λ e r. entry_of (measure_at x n).op (measure_at x n).kind (measure_at x n).value (measure_at x n).key e.1 e.0 (slice_index_or (map (λ m. key_value x (measure_at x m) e.1) comps) i no_entry)
        (ap (λ c. c.value) (get_or-map (λ m. key_value x (measure_at x m) e.1) comps i 0 no_entry less) ∙ ap (λ m. optional_value (measure_at x m).value e.1) is) r (has_all n))
        (enumerate_from 0 passing) (every-enumerated (fits_row leaves.kinds) 0 passing fit))))
      where
        given_entry : Entry → Bool
        given_entry = is_entry_of (measure_at x n).op (measure_at x n).kind

        fit_given : GivenRow → Bool
        fit_given row = given_entry (entry_at i row)

    -- the cell of a component in a group
    component-kind : (n : ℕ) (group : List Value) → has_number n comps ≡ true → is_of_kind (measure_at x n).kind (value_of_cell (component_cell comps (group_row (ops_of x comps) rows group).cells n)) ≡ true
    component-kind n group h =
        let i = position_or_len (nat_eq n) comps in
        let there = found n comps h in
        subst (λ c. is_of_kind (measure_at x n).kind (value_of_cell c) ≡ true)
        (sym (ap (λ k. slice_index_or (group_row (ops_of x comps) rows group).cells k (cell.Value value.Null)) (search_found n comps h)
        ∙ cell_at_place rows group (ops_of x comps) 0 i (cell.Value value.Null) (subst (λ k. i < k) (sym (length-map comps (λ m. (measure_at x m).op))) there.0)
        ∙ ap (λ k. measure_of (slice_index_or (ops_of x comps) i op.Count) (entries_of k rows group)) (omega arith)
        ∙ ap (λ o. measure_of o (entries_of i rows group)) (get_or-map (λ m. (measure_at x m).op) comps i 0 op.Count there.0 ∙ ap (λ m. (measure_at x m).op) there.1)))
        (measure-kind (measure_at x n).op (measure_at x n).kind (entries_of i rows group) (own_kind n) (entries-kind n i group there.0 there.1))

    -- the components of picks, in as many rounds as there are measures
    known-kind : (rounds : ℕ) (ms : List ℕ) → comps ≡ first_each (flat_map (parts_of_measure x rounds) ms) → (n : ℕ) (group : List Value) → has_number n ms ≡ true → (measure_at x n).number ≡ None →
        is_of_kind (measure_at x n).kind (value_of_cell (component_cell comps (group_row (ops_of x comps) rows group).cells n)) ≡ true
    known-kind zero ms is n group h none =
        subst (λ cs. is_of_kind (measure_at x n).kind (value_of_cell (component_cell cs (group_row (ops_of x cs) (given_rows x dims cs passing) group).cells n)) ≡ true)
        (sym (is ∙ ap first_each (no_parts x ms))) (null_kind (measure_at x n).kind)
    known-kind (suc k) ms is n group h none =
        component-kind n group (subst (λ cs. has_number n cs ≡ true) (sym is)
        (in_first_each n (flat_map (parts_of_measure x (suc k)) ms) (in_parts (parts_of_measure x (suc k)) n ms h
        (subst (λ e. has_number n (or_parts n (parts_of_measure x k) e) ≡ true) (sym none) (itself n)))))
      where
        itself : (n : ℕ) → (nat_eq n n || false) ≡ true
        itself n = λ i. eq-eqb n n refl i || false

    -- the cell of a picked measure
    calculation-kind : (o : Op) (k : Kind) (c : Cell) (known : ℕ → Option Fraction) (e : Option Calculation) → has_own_kind o k ≡ true → is_calculated_rightly o e ≡ true → (e ≡ None → is_of_kind k (value_of_cell c) ≡ true) → is_of_kind k (value_of_cell (or_calculated c known e)) ≡ true
    calculation-kind o k c known None own right plain = plain refl
    calculation-kind op.Number k c known (Some e) own right plain = subst (λ j. is_of_kind j (value_of_cell (cell_of_frac (calculated known e))) ≡ true) (sym (same_kind k kind.Number own)) (of_fraction (calculated known e))
      where
        of_fraction : (f : Option Fraction) → is_of_kind kind.Number (value_of_cell (cell_of_frac f)) ≡ true
        of_fraction None = refl
        of_fraction (Some f) = number-kind (num_of_fraction f)
    calculation-kind op.Count k c known (Some e) own right plain = absurd (false≢true right)
    calculation-kind op.CountDistinct k c known (Some e) own right plain = absurd (false≢true right)
    calculation-kind op.Sum k c known (Some e) own right plain = absurd (false≢true right)
    calculation-kind op.Average k c known (Some e) own right plain = absurd (false≢true right)
    calculation-kind op.Min k c known (Some e) own right plain = absurd (false≢true right)
    calculation-kind op.Max k c known (Some e) own right plain = absurd (false≢true right)
    calculation-kind op.SumDistinct k c known (Some e) own right plain = absurd (false≢true right)
    calculation-kind op.AverageDistinct k c known (Some e) own right plain = absurd (false≢true right)

    -- ---- groups and lines

    abbrev dim_kinds : List ℕ → List Kind
    dim_kinds fs = map (λ f. (field_at x f).kind) fs

    tuple-fits : (row : Joined) → fits_row leaves.kinds row ≡ true → (fs : List ℕ) → fits_cells (dim_kinds fs) (tuple_of x fs row) ≡ true
    tuple-fits row r [] = refl
    tuple-fits row r (f ∷ fs) = both (is_of_kind (field_at x f).kind (dim_value x row f)) _ (field-kind leaves row (has_kinds leaves row r) x f (fields f)) (tuple-fits row r fs)

    no_dims : (fs : List ℕ) → length fs ≡ 0 → fits_cells (dim_kinds fs) [] ≡ true
    no_dims [] e = refl
    no_dims (f ∷ fs) e = absurd (omega arith)

    groups-fit : (n : ℕ) → length dims ≡ n → Every (fits_cells (dim_kinds dims)) (groups_of n rows)
    groups-fit zero e = both (fits_cells (dim_kinds dims) []) true (no_dims dims e) refl
    groups-fit (suc n) e =
        every-set_of tuple_cmp (fits_cells (dim_kinds dims)) (map (λ row. row.group) rows)
        (every-map (fits_cells (dim_kinds dims)) (λ (row : GivenRow). fits_cells (dim_kinds dims) row.group) (λ row. row.group) (λ row h. h) rows
        (every-map (λ (row : GivenRow). fits_cells (dim_kinds dims) row.group) (λ (e : ℕ × Joined). fits_row leaves.kinds e.1) (given_row x dims comps) (λ e r. tuple-fits e.1 r dims)
        (enumerate_from 0 passing) (every-enumerated (fits_row leaves.kinds) 0 passing fit)))

    module _ (ms : List ℕ) (is : comps ≡ components_of x ms) where
      -- the group fits its dimensions, and each plain measure that is picked has its kind
      abbrev has_kind_in : GroupRow → ℕ → Bool
      has_kind_in row n = has_calculation (measure_at x n).number || is_of_kind (measure_at x n).kind (value_of_cell (component_cell comps row.cells n))

      abbrev is_group : GroupRow → Bool
      is_group row = fits_cells (dim_kinds dims) row.group && list_all (has_kind_in row) ms

      each_of : (t : ℕ → Bool) (ns : List ℕ) → ((n : ℕ) → has_number n ns ≡ true → t n ≡ true) → Every t ns
      each_of t [] h = refl
      each_of t (n ∷ ns) h = both (t n) (list_all t ns) (h n (λ i. eq-eqb n n refl i || has_number n ns)) (each_of t ns (λ k there. h k (or_right (nat_eq k n) (has_number k ns) there)))

      calculated_or : (e : Option Calculation) (b : Bool) → (e ≡ None → b ≡ true) → (has_calculation e || b) ≡ true
      calculated_or None b h = h refl
      calculated_or (Some e) b h = refl

      plain_of : (e : Option Calculation) (b : Bool) → (has_calculation e || b) ≡ true → e ≡ None → b ≡ true
      plain_of None b h none = h
      plain_of (Some e) b h none = cc

      group_rows-fit : (n : ℕ) → length dims ≡ n → Every is_group (group_rows n (ops_of x comps) rows)
      group_rows-fit n e =
          every-map is_group (fits_cells (dim_kinds dims)) (group_row (ops_of x comps) rows)
          (λ group h. both (fits_cells (dim_kinds dims) group) _ h
          (each_of (has_kind_in (group_row (ops_of x comps) rows group)) ms
          (λ k there. calculated_or (measure_at x k).number _ (known-kind (length x.measures) ms is k group there))))
          (groups_of n rows) (groups-fit n e)

      none_without : (list : List Measure) (n : ℕ) → length list ≡ 0 → (slice_index_or list n no_measure).number ≡ None
      none_without [] n e = refl
      none_without (k ∷ ks) n e = absurd (omega arith)

      within-kind : (rounds n : ℕ) (known : ℕ → Cell) → (rounds ≡ 0 → (measure_at x n).number ≡ None) → ((measure_at x n).number ≡ None → is_of_kind (measure_at x n).kind (value_of_cell (known n)) ≡ true) →
          is_of_kind (measure_at x n).kind (value_of_cell (cell_within x rounds known n)) ≡ true
      within-kind zero n known none plain = plain (none refl)
      within-kind (suc k) n known none plain =
          calculation-kind (measure_at x n).op (measure_at x n).kind (known n) (λ j. frac_of_cell (cell_within x k known j)) (measure_at x n).number (own_kind n)
          (second (has_operands leaves (measure_at x n).op (measure_at x n).kind (measure_at x n).value (measure_at x n).key && has_own_kind (measure_at x n).op (measure_at x n).kind) _ (measures n)) plain

      line_fits : (known : ℕ → Cell) (picks : List Pick) (group : List Value) → fits_cells (dim_kinds (dims_of picks)) group ≡ true →
          ((n : ℕ) → has_number n (picked_measures picks) ≡ true → is_of_kind (measure_at x n).kind (value_of_cell (measure_cell x known n)) ≡ true) →
          fits_cells (map (pick_kind x) picks) (map value_of_cell (line_cells x known picks group)) ≡ true
      line_fits known [] group g h = refl
      line_fits known (Dim f ∷ picks) [] g h = absurd (false≢true g)
      line_fits known (Dim f ∷ picks) (v ∷ group) g h =
          both (is_of_kind (field_at x f).kind v) _ (first (is_of_kind (field_at x f).kind v) _ g) (line_fits known picks group (second (is_of_kind (field_at x f).kind v) _ g) h)
      line_fits known (Mea n ∷ picks) group g h =
          both (is_of_kind (measure_at x n).kind (value_of_cell (measure_cell x known n))) _ (h n (λ i. eq-eqb n n refl i || has_number n (picked_measures picks)))
          (line_fits known picks group g (λ k there. h k (or_right (nat_eq k n) (has_number k (picked_measures picks)) there)))

-- the rows of an answer fit the kinds of what is picked
module _ (leaves : Leaves) (x : Explore) (fields : (f : ℕ) → is_typed_field leaves (field_at x f) ≡ true) (measures : (n : ℕ) → is_typed_measure leaves (measure_at x n) ≡ true) (passing : List Joined) (fit : Every (fits_row leaves.kinds) passing) (b : Bound) where
  abbrev asked : List ℕ
  asked = picked_measures b.picks ++ filtered b.having

  abbrev is_line : GroupRow → Bool
  is_line line = fits_cells (map (pick_kind x) b.picks) (map value_of_cell line.cells)

  of_each : (t : ℕ → Bool) (n : ℕ) (ns : List ℕ) → Every t ns → has_number n ns ≡ true → t n ≡ true
  of_each t n [] all there = absurd (false≢true there)
  of_each t n (k ∷ ks) all there =
      elim (nat_eq n k) as (λ c. nat_eq n k ≡ c → (c || has_number n ks) ≡ true → t n ≡ true) [
        | true ↦ λ same _. subst (λ z. t z ≡ true) (sym (eqb-true n k same)) (first (t k) (list_all t ks) all)
        | false ↦ λ _ later. of_each t n ks (second (t k) (list_all t ks) all) later
      ] refl there

  pub answer-fits : Every (fits_cells (map (pick_kind x) b.picks)) (map (λ line. map value_of_cell line.cells) (lines_of x b (rows_grouped x (dims_of b.picks) (query_components x b) passing)))
  answer-fits =
      let comps = query_components x b in
      let dims = dims_of b.picks in
      let grouped = rows_grouped x dims comps passing in
      every-map (fits_cells (map (pick_kind x) b.picks)) is_line (λ line. map value_of_cell line.cells) (λ line h. h) (lines_of x b grouped)
      (every-set_of (line_cmp b.sorts) is_line (map (line_of x b) (filter (passes_having x b) grouped))
      (every-map is_line (is_group leaves x fields measures passing fit dims comps asked refl) (line_of x b)
      (λ row h. line_fits leaves x fields measures passing fit dims comps asked refl (component_cell comps row.cells) b.picks row.group (first (fits_cells (dim_kinds leaves x fields measures passing fit dims comps dims) row.group) _ h)
      (λ n there. within-kind leaves x fields measures passing fit dims comps asked refl (length x.measures) n (component_cell comps row.cells)
      (none_without leaves x fields measures passing fit dims comps asked refl x.measures n)
      (plain_of leaves x fields measures passing fit dims comps asked refl (measure_at x n).number _
      (of_each (has_kind_in leaves x fields measures passing fit dims comps asked refl row) n asked (second (fits_cells (dim_kinds leaves x fields measures passing fit dims comps dims) row.group) _ h) (in_left n (picked_measures b.picks) (filtered b.having) there)))))
      (filter (passes_having x b) grouped)
      (every-filter (is_group leaves x fields measures passing fit dims comps asked refl) (passes_having x b) grouped
      (group_rows-fit leaves x fields measures passing fit dims comps asked refl (length dims) refl))))
