-- A batch's canonical text reads as the batch.
use Rattle.std.proofs.Common.{◌≡◌, ◌≢◌, ◌<◌, ◌+◌, ◌++◌, ◌∷◌, ◌==◌, ◌||◌, ◌&&◌, [], ℕ, zero, suc, Bool, true, false, not, List, Option, Some, None, length, map, refl, sym, ap, ap₂, arith, ◌∙◌, get_or, append_assoc, nat_eq, if◌then◌else◌, take, inl, inr, ◌-◌}
use Rattle.std.specs.List.{All, list_any, position, range_with_len, starts_with}
use Rattle.std.specs.Prelude.{Result, Ok, Err}
use Rattle.std.proofs.lemmas.Bool.{cases_Bool, eq-eqb, eqb-true, ne_eqb, true≢false}
use Rattle.std.proofs.lemmas.List.{get_or-append_right, get_or-map, get_or_append_left, length-append, length-map, length_push, map-append}
use Rattle.std.proofs.lemmas.List.Elements.{All-head, All-tail}
use Rattle.std.proofs.lemmas.List.Folds.{list_any-append, list_any_none}
use Rattle.std.proofs.lemmas.List.FromFn.{fill_by_all, get_or-range_with_len, length-range_with_len, get_or-map-range_with_len}
use Rattle.std.proofs.lemmas.List.Quantifiers.{position-Some}
use Rattle.std.proofs.lemmas.Slice.Eq.{bytes_eq-Decides}
use Rattle.csv.specs.Machine.{next_record}
use Rattle.csv.specs.Reading.{strip_bom}
use Rattle.csv.specs.Writing.{read_back}
use Rattle.csv.specs.declared.parser.State.TheVariants as st
use Rattle.csv.proofs.RoundTrip.{read-write}
use Rattle.lk_csv.specs.Records.{HasAField, record_text, records_of, records_text}
use Rattle.lk_csv.specs.Reading.{records_after}
use Rattle.lk_csv.proofs.ReadingLaws.{records-end, records-more}
use Rattle.lk_val.specs.Distinct.{do_differ}
use Rattle.lk_val.specs.Texts.{are_different, is_same_text}
use Rattle.lk_val.specs.declared.value.Value.{Value}
use Rattle.lk_val.specs.declared.value.Value.TheVariants as value
use Rattle.lk_types.specs.Printing.{value_text}
use Rattle.lk_types.specs.Tables.{Cells, Rows}
use Rattle.lk_types.specs.declared.schema.Kind.{Kind}
use Rattle.lk_types.specs.declared.schema.ColumnDef.{ColumnDef}
use Rattle.lk_types.specs.declared.schema.TableDef.{TableDef}
use Rattle.lk_cell.specs.CellValues.{cell_value}
use Rattle.lk_table.specs.Contents.{Content, cell_at, content_of, lacks_key}
use Rattle.lk_table.specs.Batches.{Fields, and_then, batch_from, batch_of, column_at, content_from, in_front, no_column, or_wrong, place_named, places_of, record_values, row_from, rows_behind, rows_from, sources_of, unless_null, value_from, value_then, values_of, with_keys}
use Rattle.lk_table.specs.BatchTexts.{HasNamedColumns, batch_text, byte_order_mark, fields_of_row, marked, names_of, text_records}
use Rattle.lk_table.specs.declared.fault.BatchFault.{BatchFault}
use Rattle.lk_table.proofs.ColumnLaws.{all_cons}
use Rattle.lk_table.proofs.ReadLaws.{first_place, record_long}
use Rattle.lk_table.proofs.RowLaws.{map_range_same}

-- ---- the records of a text

same_fields : (fields : Fields) → HasAField fields → read_back fields ≡ fields
same_fields [] has = absurd (has refl)
same_fields (field ∷ rest) has = refl

records_back : (records : List Fields) → All HasAField records → records_after st.StartRecord (records_text records) ≡ records
unfolding records_text record_text next_record
records_back [] has = records-end st.StartRecord [] refl
records_back (fields ∷ rest) has =
    records-more st.StartRecord _ _ refl (read-write fields (records_text rest))
    ∙ ap (λ (first : Fields). first ∷ records_after st.StartRecord (records_text rest)) (same_fields fields (All-head HasAField fields rest has))
    ∙ ap (λ (others : List Fields). fields ∷ others) (records_back rest (All-tail HasAField fields rest has))

-- a text is the mark's where it begins as the mark does
three_bytes : (a b c : ℕ) → ((a == 0xEF) && (b == 0xBB) && (c == 0xBF)) ≡ true → a ∷ b ∷ c ∷ [] ≡ 0xEF ∷ 0xBB ∷ 0xBF ∷ []
three_bytes a b c e = elim (cases_Bool (a == 0xEF)) [
  | inr other ↦ cc (rw other at e)
  | inl first ↦ elim (cases_Bool (b == 0xBB)) [
    | inr other ↦ cc (rw (first, other) at e)
    | inl second ↦
        let third : (c == 0xBF) ≡ true = rw (first, second) at e in
        rw (eqb-true a 0xEF first, eqb-true b 0xBB second, eqb-true c 0xBF third) refl
  ]
]

unmarked : (text : List ℕ) → (take 3 text ≡ byte_order_mark → ⊥) → strip_bom text ≡ text
unfolding strip_bom
unmarked [] plain = refl
unmarked (a ∷ []) plain = refl
unmarked (a ∷ b ∷ []) plain = refl
unmarked (a ∷ b ∷ c ∷ rest) plain = elim (cases_Bool ((a == 0xEF) && (b == 0xBB) && (c == 0xBF))) [
  | inl is_mark ↦ absurd (plain (three_bytes a b c is_mark))
  | inr unlike ↦ rw unlike refl
]

strip_marked_by : (text : List ℕ) (b : Bool) → starts_with nat_eq text byte_order_mark ≡ b
    → strip_bom (if b then (byte_order_mark ++ text) else text) ≡ text
unfolding strip_bom
strip_marked_by text true e = refl
strip_marked_by text false e =
    unmarked text (λ same. true≢false (sym ((bytes_eq-Decides byte_order_mark (take 3 text)).1 (sym same)) ∙ e))

strip_marked : (text : List ℕ) → strip_bom (marked text) ≡ text
strip_marked text = strip_marked_by text (starts_with nat_eq text byte_order_mark) refl

pub records_of_marked : (records : List Fields) → All HasAField records → records_of (marked (records_text records)) ≡ records
unfolding records_of records_after
records_of_marked records has = rw (strip_marked (records_text records)) (records_back records has)

-- ---- the header

or_both : (a b c : Bool) → (a || (b || c)) ≡ false → b ≡ false
or_both true b c e = cc e
or_both false true c e = cc e
or_both false false c e = refl

not_true : (a b : Bool) → (not a && b) ≡ true → (a ≡ false) × (b ≡ true)
not_true true b e = cc e
not_true false b e = (refl, e)

differ_at : (xs ys : Fields) (x : List ℕ) (k : ℕ) → do_differ is_same_text (xs ++ x ∷ ys) ≡ true → k < length xs
    → is_same_text (get_or xs k []) x ≡ false
differ_at [] ys x k e below = absurd (omega (arith, below))
differ_at (y ∷ xs) ys x zero e below =
    let none = (not_true (list_any (is_same_text y) (xs ++ x ∷ ys)) (do_differ is_same_text (xs ++ x ∷ ys)) e).0 in
    or_both (list_any (is_same_text y) xs) (is_same_text y x) (list_any (is_same_text y) ys)
    (sym (list_any-append (is_same_text y) xs (x ∷ ys)) ∙ none)
differ_at (y ∷ xs) ys x (suc k) e below =
    differ_at xs ys x k (not_true (list_any (is_same_text y) (xs ++ x ∷ ys)) (do_differ is_same_text (xs ++ x ∷ ys)) e).1 (omega (arith, below))

-- the column in the middle is found by its name
named_there : (before after : List ColumnDef) (column : ColumnDef) → do_differ is_same_text (names_of (before ++ column ∷ after)) ≡ true
    → place_named (before ++ column ∷ after) column.name ≡ Some (length before)
named_there before after column differ =
    let all = before ++ column ∷ after in
    let names = map-append (λ (c : ColumnDef). c.name) before (column ∷ after) in
    sym (first_place (λ (c : ColumnDef). is_same_text c.name column.name) all (length before) no_column
    (omega (arith, length-append before (column ∷ after)))
    (λ k below.
    ap (λ (c : ColumnDef). is_same_text c.name column.name) (get_or_append_left before (column ∷ after) no_column k below)
    ∙ ap (λ (name : List ℕ). is_same_text name column.name) (sym (get_or-map (λ (c : ColumnDef). c.name) before k no_column [] below))
    ∙ differ_at (names_of before) (names_of after) column.name k (rw names at differ)
    (omega (arith, below, length-map before (λ (c : ColumnDef). c.name))))
    (ap (λ (c : ColumnDef). is_same_text c.name column.name) (get_or-append_right before (column ∷ after) (length before) (length before) no_column refl (omega arith) ∙ first_there)
    ∙ (bytes_eq-Decides column.name column.name).1 refl))
  where
    first_there : get_or (column ∷ after) (length before - length before) no_column ≡ column
    first_there =
        let none : length before - length before ≡ 0 = omega arith in
        ap (λ (n : ℕ). get_or (column ∷ after) n no_column) none

not_among : (n : ℕ) → list_any (λ other. other == n) (range_with_len 0 n) ≡ false
not_among n = list_any_none (λ other. other == n) (range_with_len 0 n)
    (λ k d below. ne_eqb (get_or (range_with_len 0 n) k d) n (λ same. absurd (omega (arith, below, same, length-range_with_len 0 n, get_or-range_with_len 0 n k d (omega (arith, below, length-range_with_len 0 n))))))

range_more : (a n : ℕ) → range_with_len a (suc n) ≡ range_with_len a n ++ (a + n) ∷ []
range_more a zero =
    let same : a ≡ a + zero = omega arith in
    ap (λ (m : ℕ). m ∷ []) same
range_more a (suc n) =
    let same : a + 1 + n ≡ a + suc n = omega arith in
    ap (λ (rest : List ℕ). a ∷ rest) (range_more (a + 1) n ∙ ap (λ (m : ℕ). range_with_len (a + 1) n ++ m ∷ []) same)

one_more : (n : ℕ) → range_with_len 0 n ++ n ∷ [] ≡ range_with_len 0 (n + 1)
one_more n =
    let here : n ≡ 0 + n = omega arith in
    let more : suc n ≡ n + 1 = omega arith in
    ap (λ (m : ℕ). range_with_len 0 n ++ m ∷ []) here ∙ sym (range_more 0 n) ∙ ap (range_with_len 0) more

places_behind : (before rest : List ColumnDef) → do_differ is_same_text (names_of (before ++ rest)) ≡ true
    → places_of (before ++ rest) (range_with_len 0 (length before)) (names_of rest) ≡ Ok (range_with_len 0 (length before + length rest))
places_behind before [] differ =
    let same : length before ≡ length before + 0 = omega arith in
    ap (λ (n : ℕ). Ok (range_with_len 0 n)) same
places_behind before (column ∷ rest) differ =
    let same : length (before ++ column ∷ []) + length rest ≡ length before + length (column ∷ rest) = omega (arith, length_push before column) in
    rw (named_there before rest column differ, not_among (length before), one_more (length before))
    (ap₂ (λ (all : List ColumnDef) (n : ℕ). places_of all (range_with_len 0 n) (names_of rest)) (sym (append_assoc before (column ∷ []) rest)) (sym (length_push before column))
    ∙ places_behind (before ++ column ∷ []) rest (rw append_assoc differ)
    ∙ ap (λ (n : ℕ). Ok (range_with_len 0 n)) same)

pub places_found : (columns : List ColumnDef) → are_different (names_of columns) ≡ true
    → places_of columns [] (names_of columns) ≡ Ok (range_with_len 0 (length columns))
places_found columns differ =
    let same : 0 + length columns ≡ length columns = omega arith in
    places_behind [] columns differ ∙ ap (λ (n : ℕ). Ok (range_with_len 0 n)) same

pub columns_found : (columns : List ColumnDef) → map (column_at columns) (range_with_len 0 (length columns)) ≡ columns
columns_found columns = sym (fill_by_all (column_at columns) columns (length columns) no_column refl (λ k below. refl))

source_found : (n i : ℕ) → i < n → position (λ place. place == i) (range_with_len 0 n) ≡ Some i
source_found n i below =
    sym (first_place (λ place. place == i) (range_with_len 0 n) i 0 (omega (arith, below, length-range_with_len 0 n))
    (λ k before. ne_eqb (get_or (range_with_len 0 n) k 0) i (λ same. absurd (omega (arith, before, below, same, get_or-range_with_len 0 n k 0 (omega (arith, before, below))))))
    (eq-eqb (get_or (range_with_len 0 n) i 0) i (let same : 0 + i ≡ i = omega arith in get_or-range_with_len 0 n i 0 below ∙ same)))

map_map : {A B C : Type 0} (f : B → C) (g : A → B) (xs : List A) → map f (map g xs) ≡ map (λ x. f (g x)) xs
map_map f g [] = refl
map_map {A} {B} {C} f g (x ∷ xs) = ap (λ (rest : List C). f (g x) ∷ rest) (map_map f g xs)

pub row_found : (values : Cells) (n : ℕ) → length values ≡ n → row_from (sources_of n (range_with_len 0 n)) values ≡ values
row_found values n long =
    map_map (value_from values) (λ column. position (λ place. place == column) (range_with_len 0 n)) (range_with_len 0 n)
    ∙ map_range_same (λ column. value_from values (position (λ place. place == column) (range_with_len 0 n))) (λ column. cell_at values column) 0 n
    (λ i below. ap (value_from values) (source_found n i (omega (arith, below))))
    ∙ sym (fill_by_all (λ column. cell_at values column) values n value.Null long (λ k below. refl))

-- ---- cells that read as they print

abbrev pub Back : Kind → Value → Type 0
Back k v = cell_value k (value_text v) ≡ Some v

abbrev pub AreBack : List ColumnDef → Cells → Type 0
AreBack [] [] = Unit {0}
AreBack (column ∷ columns) (v ∷ cells) = Back column.kind v × AreBack columns cells
AreBack columns cells = ⊥

abbrev pub RowsBack : List ColumnDef → Rows → Type 0
RowsBack columns [] = Unit {0}
RowsBack columns (row ∷ rows) = AreBack columns row × RowsBack columns rows

back_long : (columns : List ColumnDef) (row : Cells) → AreBack columns row → length row ≡ length columns
back_long [] [] back = refl
back_long [] (v ∷ row) back = absurd back
back_long (column ∷ columns) [] back = absurd back
back_long (column ∷ columns) (v ∷ row) back = ap suc (back_long columns row back.1)

back_at : (columns : List ColumnDef) (row : Cells) (i : ℕ) → AreBack columns row → i < length columns → Back (column_at columns i).kind (cell_at row i)
back_at [] row i back below = absurd (omega (arith, below))
back_at (column ∷ columns) [] i back below = absurd back
back_at (column ∷ columns) (v ∷ row) zero back below = back.0
back_at (column ∷ columns) (v ∷ row) (suc i) back below = back_at columns row i back.1 (omega (arith, below))

back_from_each : (columns : List ColumnDef) (row : Cells) → length row ≡ length columns
    → ((i : ℕ) → i < length columns → Back (column_at columns i).kind (cell_at row i)) → AreBack columns row
back_from_each [] [] long each = tt
back_from_each [] (v ∷ row) long each = absurd (omega (arith, long))
back_from_each (column ∷ columns) [] long each = absurd (omega (arith, long))
back_from_each (column ∷ columns) (v ∷ row) long each =
    (each 0 (omega arith), back_from_each columns row (omega (arith, long)) (λ i below. each (suc i) (omega (arith, below))))

-- a row that is printed reads
values_back : (columns : List ColumnDef) (row : Cells) → AreBack columns row → values_of columns (fields_of_row row) ≡ Ok row
values_back [] [] back = refl
values_back [] (v ∷ row) back = absurd back
values_back (column ∷ columns) [] back = absurd back
values_back (column ∷ columns) (v ∷ row) back = rw (back.0, values_back columns row back.1) refl

record_back : (columns : List ColumnDef) (row : Cells) → AreBack columns row → record_values columns (fields_of_row row) ≡ Ok row
record_back columns row back =
    record_long columns (fields_of_row row) (length-map row value_text ∙ back_long columns row back) ∙ values_back columns row back

rows_printed : (columns : List ColumnDef) (number : ℕ) (rows : Rows) → RowsBack columns rows
    → rows_from columns (sources_of (length columns) (range_with_len 0 (length columns))) number (map fields_of_row rows) ≡ Ok rows
rows_printed columns number [] back = refl
rows_printed columns number (row ∷ rows) back =
    rw (record_back columns row back.0, row_found row (length columns) (back_long columns row back.0), rows_printed columns (number + 1) rows back.1) refl

-- ---- what was read reads back

module _ (cell_back : (k : Kind) (cell : List ℕ) (v : Value) → cell_value k cell ≡ Some v → Back k v) where
  abbrev BackOr : List ColumnDef → Result Cells (List ℕ) → Type 0
  BackOr named (Err name) = Unit {0}
  BackOr named (Ok values) = AreBack named values

  back_then : (column : ColumnDef) (named : List ColumnDef) (o : Option Value) (rest : Result Cells (List ℕ))
      → ((v : Value) → o ≡ Some v → Back column.kind v) → BackOr named rest → BackOr (column ∷ named) (value_then column.name o rest)
  back_then column named None rest each back = tt
  back_then column named (Some v) (Err name) each back = tt
  back_then column named (Some v) (Ok values) each back = (each v refl, back)

  read_back_values : (named : List ColumnDef) (fields : Fields) → length fields ≡ length named → BackOr named (values_of named fields)
  read_back_values [] [] long = tt
  read_back_values [] (field ∷ fields) long = absurd (omega (arith, long))
  read_back_values (column ∷ named) [] long = absurd (omega (arith, long))
  read_back_values (column ∷ named) (field ∷ fields) long =
      back_then column named (cell_value column.kind field) (values_of named fields) (λ v e. cell_back column.kind field v e)
      (read_back_values named fields (omega (arith, long)))

  record_back_by : (named : List ColumnDef) (fields : Fields) (b : Bool) → (length fields == length named) ≡ b
      → BackOr named (if b then values_of named fields else (Err []))
  record_back_by named fields true e = read_back_values named fields (eqb-true (length fields) (length named) e)
  record_back_by named fields false e = tt

  read_back_record : (named : List ColumnDef) (fields : Fields) (values : Cells) → record_values named fields ≡ Ok values → AreBack named values
  read_back_record named fields values e = rw e at (record_back_by named fields (length fields == length named) refl)

  module _ (columns : List ColumnDef) (places : List ℕ) where
    abbrev the_source : ℕ → Option ℕ
    the_source column = position (λ place. place == column) places

    source_back : (values : Cells) (i : ℕ) (o : Option ℕ) → AreBack (map (column_at columns) places) values → the_source i ≡ o
        → Back (column_at columns i).kind (value_from values o)
    source_back values i None back is = refl
    source_back values i (Some j) back is =
        let found = position-Some (λ place. place == i) places j 0 is in
        let same = eqb-true (get_or places j 0) i found.1 in
        let there = get_or-map (column_at columns) places j 0 no_column found.0 in
        let one = back_at (map (column_at columns) places) values j back (omega (arith, found.0, length-map places (column_at columns))) in
        rw (there, same) at one

    read_back_row : (values : Cells) → AreBack (map (column_at columns) places) values
        → AreBack columns (row_from (sources_of (length columns) places) values)
    read_back_row values back =
        back_from_each columns (row_from (sources_of (length columns) places) values)
        (length-map (sources_of (length columns) places) (value_from values) ∙ length-map (range_with_len 0 (length columns)) the_source ∙ length-range_with_len 0 (length columns))
        (λ i below.
        let source = get_or-map-range_with_len the_source 0 (length columns) i i None below (omega arith) in
        let cell = get_or-map (value_from values) (sources_of (length columns) places) i None value.Null
        (omega (arith, below, length-map (range_with_len 0 (length columns)) the_source, length-range_with_len 0 (length columns))) in
        rw (cell, source) (source_back values i (the_source i) back refl))

    rows_then : (row : Cells) (rest : Result Rows BatchFault) (rows : Rows) → AreBack columns row
        → ((others : Rows) → rest ≡ Ok others → RowsBack columns others) → in_front (row ∷ []) rest ≡ Ok rows → RowsBack columns rows
    rows_then row (Err fault) rows back behind e = cc e
    rows_then row (Ok others) rows back behind e = let same : row ∷ others ≡ rows = cc in rw (← same) (back, behind others refl)

    record_then : (number : ℕ) (r : Result Cells (List ℕ)) (rest : Result Rows BatchFault) (rows : Rows)
        → ((values : Cells) → r ≡ Ok values → AreBack (map (column_at columns) places) values)
        → ((others : Rows) → rest ≡ Ok others → RowsBack columns others)
        → and_then (or_wrong number r) (λ values. in_front (row_from (sources_of (length columns) places) values ∷ []) rest) ≡ Ok rows → RowsBack columns rows
    record_then number (Err name) rest rows back behind e = cc e
    record_then number (Ok values) rest rows back behind e =
        rows_then (row_from (sources_of (length columns) places) values) rest rows (read_back_row values (back values refl)) behind e

    read_back_rows : (number : ℕ) (records : List Fields) (rows : Rows)
        → rows_from (map (column_at columns) places) (sources_of (length columns) places) number records ≡ Ok rows → RowsBack columns rows
    read_back_rows number [] rows e = let same : [] ≡ rows = cc in rw (← same) tt
    read_back_rows number (fields ∷ records) rows e =
        record_then number (record_values (map (column_at columns) places) fields)
        (rows_from (map (column_at columns) places) (sources_of (length columns) places) (number + 1) records) rows
        (λ values f. read_back_record (map (column_at columns) places) fields values f)
        (λ others f. read_back_rows (number + 1) records others f) e

  -- ---- the batch

  -- what is known of a batch that was read
  record IsRead (def : TableDef) (content : Content) : Type 0 where
    rows : Rows
    same : content ≡ content_of def rows
    back : RowsBack def.columns rows
    kept : with_keys (content_of def rows) ≡ Ok (content_of def rows)

  kept_by : (def : TableDef) (rows : Rows) (content : Content) (o : Option ℕ) → position (lacks_key def.key) rows ≡ o
      → unless_null (content_of def rows) o ≡ Ok content → (content ≡ content_of def rows) × (with_keys (content_of def rows) ≡ Ok (content_of def rows))
  kept_by def rows content None is e = (cc, rw is refl)
  kept_by def rows content (Some place) is e = cc e

  rows_read : (def : TableDef) (r : Result Rows BatchFault) (content : Content) → ((rows : Rows) → r ≡ Ok rows → RowsBack def.columns rows)
      → and_then (content_from def r) with_keys ≡ Ok content → IsRead def content
  rows_read def (Err fault) content back e = cc e
  rows_read def (Ok rows) content back e =
      let kept = kept_by def rows content (position (lacks_key def.key) rows) refl e in
      record { rows = rows; same = kept.0; back = back rows refl; kept = kept.1 }

  places_read : (def : TableDef) (records : List Fields) (p : Result (List ℕ) (List ℕ)) (content : Content)
      → and_then (or_wrong 0 p) (λ places. and_then (content_from def (rows_behind def.columns records places)) with_keys) ≡ Ok content → IsRead def content
  places_read def records (Err name) content e = cc e
  places_read def records (Ok places) content e =
      rows_read def (rows_behind def.columns records places) content (λ rows f. read_back_rows def.columns places 1 records rows f) e

  batch_read : (def : TableDef) (records : List Fields) (content : Content) → batch_from def records ≡ Ok content → IsRead def content
  batch_read def [] content e = cc e
  batch_read def (header ∷ records) content e = places_read def records (places_of def.columns [] header) content e

  printed_reads : (def : TableDef) (rows : Rows) → are_different (names_of def.columns) ≡ true → RowsBack def.columns rows
      → with_keys (content_of def rows) ≡ Ok (content_of def rows) → batch_from def (text_records def rows) ≡ Ok (content_of def rows)
  printed_reads def rows differ back kept =
      rw (places_found def.columns differ, columns_found def.columns, rows_printed def.columns 1 rows back) kept

  -- each record of the text has a field
  rows_have : (columns : List ColumnDef) (rows : Rows) → columns ≢ [] → RowsBack columns rows → All HasAField (map fields_of_row rows)
  rows_have columns [] some back = λ k d below. absurd (omega (arith, below))
  rows_have columns (row ∷ rows) some back =
      all_cons HasAField (fields_of_row row) (map fields_of_row rows) (has_field columns row some back.0) (rows_have columns rows some back.1)
    where
      has_field : (columns : List ColumnDef) (row : Cells) → columns ≢ [] → AreBack columns row → HasAField (fields_of_row row)
      has_field [] row some back = absurd (some refl)
      has_field (column ∷ columns) [] some back = absurd back
      has_field (column ∷ columns) (v ∷ row) some back = λ e. cc e

  names_have : (columns : List ColumnDef) → columns ≢ [] → HasAField (names_of columns)
  names_have [] some = absurd (some refl)
  names_have (column ∷ columns) some = λ e. cc e

  pub text_reads : (def : TableDef) (text : List ℕ) (content : Content) → HasNamedColumns def → batch_of def text ≡ Ok content
      → batch_of def (batch_text def content) ≡ Ok content
  text_reads def text content named e =
      let read = batch_read def (records_of text) content e in
      let has = all_cons HasAField (names_of def.columns) (map fields_of_row read.rows) (names_have def.columns named.0) (rows_have def.columns read.rows named.0 read.back) in
      ap (λ (c : Content). batch_of def (batch_text def c)) read.same
      ∙ ap (batch_from def) (records_of_marked (text_records def read.rows) has)
      ∙ printed_reads def read.rows named.1 read.back read.kept
      ∙ ap Ok (sym read.same)
