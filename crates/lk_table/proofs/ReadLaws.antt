-- Steps of reading a batch: field by field, and record by record.
use Rattle.std.proofs.Common.{◌≡◌, ◌<◌, ◌+◌, ◌++◌, ◌∷◌, [], ℕ, Bool, true, false, List, Option, Some, None, length, drop, refl, sym, ap, arith, ◌∙◌, append_assoc, add-one, drop-cons, get_or, suc, eq-eqb}
use Rattle.std.specs.Prelude.{Result, Ok, Err, map}
use Rattle.std.specs.List.{position}
use Rattle.std.proofs.lemmas.Bool.{le-ltb, lt-ltb}
use Rattle.std.proofs.lemmas.List.Sums.{position_or_len_is}
use Rattle.std.specs.Borrow.{Bor}
use Rattle.std.proofs.lemmas.List.{append-nil, get_or_default, get_or-map, length-map, length_push, map-append}
use Rattle.lk_val.specs.declared.value.Value.{Value}
use Rattle.lk_types.specs.Tables.{Cells, Rows}
use Rattle.lk_types.specs.declared.schema.Kind.{Kind}
use Rattle.lk_types.specs.declared.schema.ColumnDef.{ColumnDef}
use Rattle.csv.specs.Records.{field_at}
use Rattle.lk_csv.proofs.FieldLaws.{field-first}
use Rattle.lk_cell.specs.CellValues.{cell_value}
use Rattle.lk_table.specs.declared.fault.BatchFault.{BatchFault}
use Rattle.lk_table.specs.declared.fault.BatchFault.TheVariants.{L3}
use Rattle.lk_types.specs.declared.schema.TableDef.{TableDef}
use Rattle.lk_table.specs.Contents.{Content, content_of, kind_of, lacks_key}
use Rattle.lk_table.specs.Versions.{IsShaped}
use Rattle.lk_table.specs.Columns.{with_row}
use Rattle.lk_val.specs.Memory.{IsUnlessMemory, Unless}
use Rattle.lk_table.specs.Faults.{is_no_memory}
use Rattle.lk_table.specs.Reading.{no_rows, record_added, rows_added}
use Rattle.lk_table.specs.Widening.{widened}
use Rattle.lk_table.specs.Batches.{Fields, and_then, carried, column_at, content_from, in_front, or_wrong, place_named, places_of, record_values, row_from, rows_behind, rows_from, sources_of, unless_among, unless_null, values_of, with_keys}

pub in_front-in_front : {A E : Type 0} (front more : List A) (rest : Result (List A) E)
    → in_front (front ++ more) rest ≡ in_front front (in_front more rest)
in_front-in_front front more (Err fault) = refl
in_front-in_front front more (Ok items) = ap Ok (append_assoc front more items)

-- what a list of references has from a place on
pub drop_there : {A : Type 0} (refs : List (Bor A)) (i : ℕ) (x : Bor A) → i < length refs → x ≡ get_or refs i x
    → drop i (map (λ r. r.now) refs) ≡ x.now ∷ drop (i + 1) (map (λ r. r.now) refs)
drop_there {A} refs i x within is =
    rw add-one (
    drop-cons (map (λ (r : Bor A). r.now) refs) i x.now (omega (arith, within, length-map refs (λ (r : Bor A). r.now)))
    ∙ ap (λ (y : A). y ∷ drop (suc i) (map (λ (r : Bor A). r.now) refs))
    (get_or-map (λ (r : Bor A). r.now) refs i x x.now within ∙ ap (λ (r : Bor A). r.now) (sym is))
    )

module _ (named : List ColumnDef) (fields : Fields) (i : ℕ) (column : ColumnDef) (field : List ℕ) (front : Cells)
    (column_is : drop i named ≡ column ∷ drop (i + 1) named) (field_is : drop i fields ≡ field ∷ drop (i + 1) fields) where
  pub value_reads : (v : Value) → Some v ≡ cell_value column.kind field
      → in_front (front ++ v ∷ []) (values_of (drop (i + 1) named) (drop (i + 1) fields))
      ≡ in_front front (values_of (drop i named) (drop i fields))
  value_reads v reads = rw (column_is, field_is, ← reads) (in_front-in_front front (v ∷ []) (values_of (drop (i + 1) named) (drop (i + 1) fields)))

  pub value_fails : None ≡ cell_value column.kind field
      → in_front front (values_of (drop i named) (drop i fields)) ≡ Err column.name
  value_fails fails = rw (column_is, field_is, ← fails) refl

pub record_long : (named : List ColumnDef) (fields : Fields) → length fields ≡ length named
    → record_values named fields ≡ values_of named fields
record_long named fields long = rw (eq-eqb (length fields) (length named) long) refl

-- the same of a list of references, and of the field at a place
module _ (named : List (Bor ColumnDef)) (fields : Fields) (i : ℕ) (column : Bor ColumnDef) (field : List ℕ)
    (in_named : i < length named) (is : column ≡ get_or named i column) (here : field_at fields i ≡ Some field) (front : Cells) where
  column_there : drop i (map (λ (c : Bor ColumnDef). c.now) named) ≡ column.now ∷ drop (i + 1) (map (λ (c : Bor ColumnDef). c.now) named)
  column_there = drop_there named i column in_named is

  pub reads_there : (v : Value) → Some v ≡ cell_value column.now.kind field
      → in_front front (values_of (drop i (map (λ c. c.now) named)) (drop i fields)) ≡ values_of (map (λ c. c.now) named) fields
      → in_front (front ++ v ∷ []) (values_of (drop (i + 1) (map (λ c. c.now) named)) (drop (i + 1) fields))
      ≡ values_of (map (λ c. c.now) named) fields
  reads_there v reads rest =
      value_reads (map (λ c. c.now) named) fields i column.now field front column_there (field-first fields i field here) v reads ∙ rest

  pub fails_there : length fields ≡ length named → None ≡ cell_value column.now.kind field
      → in_front front (values_of (drop i (map (λ c. c.now) named)) (drop i fields)) ≡ values_of (map (λ c. c.now) named) fields
      → record_values (map (λ c. c.now) named) fields ≡ Err column.now.name
  fails_there long fails rest =
      record_long (map (λ c. c.now) named) fields (long ∙ sym (length-map named (λ (c : Bor ColumnDef). c.now)))
      ∙ sym rest
      ∙ value_fails (map (λ c. c.now) named) fields i column.now field front column_there (field-first fields i field here) fails

-- ---- names of a header

module _ (columns : List ColumnDef) (names : List (Bor (List ℕ))) (places : List ℕ) (i : ℕ) (none : Bor (List ℕ)) (within : i < length names) where
  name_there : drop i (map (λ (n : Bor (List ℕ)). n.now) names) ≡ (get_or names i none).now ∷ drop (i + 1) (map (λ (n : Bor (List ℕ)). n.now) names)
  name_there = drop_there names i (get_or names i none) within (get_or_default names i none (get_or names i none) within)

  pub place_reads : (place : ℕ) → Some place ≡ unless_among places (place_named columns (get_or names i none).now)
      → places_of columns (places ++ place ∷ []) (drop (i + 1) (map (λ n. n.now) names)) ≡ places_of columns places (drop i (map (λ n. n.now) names))
  place_reads place is = rw (name_there, ← is) refl

  pub place_fails : None ≡ unless_among places (place_named columns (get_or names i none).now)
      → places_of columns places (drop i (map (λ n. n.now) names)) ≡ Err (carried (get_or names i none).now)
  place_fails is = rw (name_there, ← is) refl

-- ---- the first place at which a test passes

pub first_place : {X : Type 0} (p : X → Bool) (xs : List X) (i : ℕ) (d : X) → i < length xs → ((k : ℕ) → k < i → p (get_or xs k d) ≡ false)
    → p (get_or xs i d) ≡ true → Some i ≡ position p xs
first_place p xs i d within before here =
    let first = position_or_len_is p xs i d (omega arith) before (λ inside. here) in
    rw (first, lt-ltb i (length xs) within) refl

pub no_place : {X : Type 0} (p : X → Bool) (xs : List X) (d : X) → ((k : ℕ) → k < length xs → p (get_or xs k d) ≡ false)
    → None ≡ position p xs
no_place p xs d before =
    let first = position_or_len_is p xs (length xs) d (omega arith) before (λ inside. absurd (omega (arith, inside))) in
    rw (first, le-ltb (length xs) (length xs) (omega arith)) refl

-- ---- a record more

pub or_wrong_ok : {A : Type 0} (row : ℕ) (r : Result A (List ℕ)) (v : A) → or_wrong row r ≡ Ok v → r ≡ Ok v
or_wrong_ok row (Err name) v e = cc e
or_wrong_ok row (Ok w) v e = let same : w ≡ v = cc in ap Ok same

module _ (named : List ColumnDef) (content : Content) (fields : Fields) (row : ℕ) (row_is : row ≡ length content.rows + 1) where
  pub record_gives : (values : Cells) → or_wrong row (record_values named fields) ≡ Ok values
      → Ok (with_row content values) ≡ record_added named content fields
  record_gives values e = rw (← row_is, e) refl

pub added_kinds : (content more : Content) (row : ℕ) (r : Result Cells (List ℕ))
    → Ok more ≡ and_then (or_wrong row r) (λ values. Ok (with_row content values)) → more.kinds ≡ content.kinds
added_kinds content more row (Err name) e = cc e
added_kinds content more row (Ok values) e =
    let same : more ≡ with_row content values = cc in ap (λ (c : Content). c.kinds) same

pub added_step : (named : List ColumnDef) (content more : Content) (fields : Fields) (left all : List Fields)
    → all ≡ fields ∷ left → Ok more ≡ record_added named content fields
    → rows_added named more left ≡ rows_added named content all
added_step named content more fields left all is e = rw (is, ← e) refl

-- ---- all records

abbrev fault_at : ℕ → List ℕ → Result Content BatchFault
fault_at row name = Err (L3 row name)

module _ (kinds : List Kind) (key : Option ℕ) (sources : List (Option ℕ)) where
  abbrev ok_rows : Rows → Result Content BatchFault
  ok_rows rows = Ok (record { kinds = kinds; key = key; rows = rows })

  -- the rows of a content, widened, and more behind them
  abbrev followed : Content → Rows → Result Content BatchFault
  followed content rows = ok_rows (map (row_from sources) content.rows ++ rows)

  front_then : (content : Content) (values : Cells) (r : Result Rows BatchFault)
      → and_then r (followed (with_row content values)) ≡ and_then (in_front (row_from sources values ∷ []) r) (followed content)
  front_then content values (Err fault) = refl
  front_then content values (Ok rows) =
      ap ok_rows
      (ap (λ (front : Rows). front ++ rows) (map-append (row_from sources) content.rows (values ∷ []))
      ∙ append_assoc (map (row_from sources) content.rows) (row_from sources values ∷ []) rows)

  pub all_added : (named : List ColumnDef) (content : Content) (number : ℕ) (records : List Fields) → number ≡ length content.rows + 1
      → and_then (rows_added named content records) (λ narrow. Ok (widened kinds key sources narrow))
      ≡ and_then (rows_from named sources number records) (followed content)
  all_added named content number [] is = ap ok_rows (sym (append-nil (map (row_from sources) content.rows)))
  all_added named content number (fields ∷ records) is = by (record_values named fields)
      (λ values. all_added named (with_row content values) (number + 1) records (omega (arith, is, length_push content.rows values)))
    where
      by : (r : Result Cells (List ℕ))
          → ((values : Cells) → and_then (rows_added named (with_row content values) records) (λ narrow. Ok (widened kinds key sources narrow))
          ≡ and_then (rows_from named sources (number + 1) records) (followed (with_row content values)))
          → and_then (and_then (and_then (or_wrong (length content.rows + 1) r) (λ values. Ok (with_row content values)))
          (λ more. rows_added named more records)) (λ narrow. Ok (widened kinds key sources narrow))
          ≡ and_then (and_then (or_wrong number r) (λ values. in_front (row_from sources values ∷ []) (rows_from named sources (number + 1) records)))
          (followed content)
      by (Err name) behind = ap (λ (n : ℕ). fault_at n name) (sym is)
      by (Ok values) behind = behind values ∙ front_then content values (rows_from named sources (number + 1) records)

-- of the columns that a header names, widened to those of the table
module _ (def : TableDef) (places : List ℕ) (named : List ColumnDef) (kinds : List Kind) (records : List Fields)
    (named_are : named ≡ map (column_at def.columns) places) (kinds_are : kinds ≡ map kind_of def.columns) where
  abbrev wide_of : Result Content BatchFault → Result Content BatchFault
  wide_of read = and_then read (λ narrow. Ok (widened kinds def.key (sources_of (length kinds) places) narrow))

  all_behind : wide_of (rows_added named (no_rows named) records) ≡ content_from def (rows_behind def.columns records places)
  all_behind = rw (named_are, kinds_are, length-map def.columns kind_of)
      (all_added (map kind_of def.columns) def.key (sources_of (length def.columns) places) (map (column_at def.columns) places)
      (no_rows (map (column_at def.columns) places)) 1 records (omega arith))

  pub behind_ok : (narrow wide : Content) → Ok narrow ≡ rows_added named (no_rows named) records
      → wide ≡ widened kinds def.key (sources_of (length kinds) places) narrow
      → Ok wide ≡ content_from def (rows_behind def.columns records places)
  behind_ok narrow wide e is = ap Ok is ∙ ap wide_of e ∙ all_behind

  pub behind_err : (fault : BatchFault) → IsUnlessMemory is_no_memory (Err fault) (rows_added named (no_rows named) records)
      → IsUnlessMemory is_no_memory (Err fault) (content_from def (rows_behind def.columns records places))
  behind_err fault = by (is_no_memory fault)
    where
      by : (b : Bool) → Unless b (Err fault ≡ rows_added named (no_rows named) records)
          → Unless b (Err fault ≡ content_from def (rows_behind def.columns records places))
      by true any = tt
      by false e = ap wide_of e ∙ all_behind

-- ---- what a batch has of its table

pub shape_from : (def : TableDef) (rows : Result Rows BatchFault) (content : Content) → Ok content ≡ content_from def rows
    → IsShaped (map kind_of def.columns) def.key content
shape_from def (Err fault) content e = cc e
shape_from def (Ok rows) content e =
    let same : content ≡ content_of def rows = cc in
    (ap (λ (c : Content). c.kinds) same, ap (λ (c : Content). c.key) same)

keys_kept_by : (content more : Content) (place : Option ℕ) → Ok more ≡ unless_null content place → more ≡ content
keys_kept_by content more None e = cc
keys_kept_by content more (Some place) e = cc e

pub keys_kept : (content more : Content) → Ok more ≡ with_keys content → more ≡ content
keys_kept content more e = keys_kept_by content more (position (lacks_key content.key) content.rows) e
