-- A schema that reads has columns for each table, and no two of one name.
use Rattle.std.proofs.Common.{◌≡◌, ◌≢◌, ◌∙◌, ◌++◌, ◌∷◌, ◌+◌, [], ℕ, Bool, true, false, List, Option, Some, None, length, map, refl, sym, ap, append_assoc, subst}
use Rattle.std.specs.List.{All, list_any}
use Rattle.std.specs.Option.{option_or}
use Rattle.std.specs.Prelude.{◌&&◌, ◌||◌, if◌then◌else◌, codes, Result, Ok, Err}
use Rattle.std.proofs.lemmas.List.{append-nil, map-append}
use Rattle.std.proofs.lemmas.List.Elements.{All-cons, All-map, All-nil, All-weaker, filter-append}
use Rattle.std.proofs.lemmas.Slice.Eq.{bytes_eq-Decides}
use Rattle.lk_val.specs.Distinct.{do_differ}
use Rattle.lk_val.specs.Texts.{is_same_text}
use Rattle.lk_val.specs.declared.fault.FaultLine.{FaultLine}
use Rattle.lk_val.specs.declared.fault.ModelFault.{ModelFault}
use Rattle.lk_types.specs.declared.schema.Schema.{Schema}
use Rattle.lk_csv.specs.Records.{records_of}
use Rattle.lk_table.specs.BatchTexts.{HasNamedColumns, names_of}
use Rattle.lk_schema.specs.Rows.{first_again, rows_of, stands_again}
use Rattle.lk_schema.specs.Schemas.{column_line, column_of, declared_of, fault_in, is_header, is_same_column, rows_in, schema_of, schema_unless, schema_with, second_column, second_key, table_of, tables_in, tables_of}
use Rattle.lk_schema.specs.declared.schema.Declared.{Declared}
use Rattle.lk_kept.proofs.DifferLaws.{differ_behind, neither, same_text}

-- ---- the columns of a table differ

abbrev stood : List Declared → Declared → Bool
stood before row = stands_again is_same_column (λ (r : Declared). Some (r.table, r.column)) (column_line (codes "C2")) before row

abbrev first_twice : List Declared → List Declared → Option FaultLine
first_twice before rows = first_again is_same_column (λ (r : Declared). Some (r.table, r.column)) (column_line (codes "C2")) before rows

abbrev column_names : List ℕ → List Declared → List (List ℕ)
column_names table rows = map (λ (r : Declared). r.column) (rows_in table rows)

apart_by : (other row : Declared) (before : List Declared) (b : Bool) → is_same_text other.table row.table ≡ b
    → ((b && is_same_text other.column row.column) || stood before row) ≡ false
    → list_any (λ (name : List ℕ). is_same_text name row.column) (column_names row.table before) ≡ false
    → list_any (λ (name : List ℕ). is_same_text name row.column)
    (map (λ (r : Declared). r.column) (if b then other ∷ rows_in row.table before else rows_in row.table before)) ≡ false
apart_by other row before true is none rest =
    ap (λ (b : Bool). b || list_any (λ (name : List ℕ). is_same_text name row.column) (column_names row.table before))
    (neither (is_same_text other.column row.column) (stood before row) none).0
    ∙ rest
apart_by other row before false is none rest = rest

apart : (before : List Declared) (row : Declared) → stood before row ≡ false
    → list_any (λ (name : List ℕ). is_same_text name row.column) (column_names row.table before) ≡ false
apart [] row none = refl
apart (other ∷ before) row none =
    apart_by other row before (is_same_text other.table row.table) refl none
    (apart before row (neither (is_same_text other.table row.table && is_same_text other.column row.column) (stood before row) none).1)

one_behind_by : (table : List ℕ) (before : List Declared) (row : Declared) (b : Bool) → is_same_text row.table table ≡ b → stood before row ≡ false
    → do_differ is_same_text (column_names table before) ≡ true
    → do_differ is_same_text (column_names table before ++ map (λ (r : Declared). r.column) (if b then row ∷ [] else [])) ≡ true
one_behind_by table before row true is none differ =
    differ_behind (column_names table before) row.column differ
    (ap (λ (t : List ℕ). list_any (λ (name : List ℕ). is_same_text name row.column) (column_names t before)) (sym ((bytes_eq-Decides row.table table).0 is))
    ∙ apart before row none)
one_behind_by table before row false is none differ = ap (do_differ is_same_text) (append-nil (column_names table before)) ∙ differ

one_behind : (table : List ℕ) (before : List Declared) (row : Declared) → stood before row ≡ false
    → do_differ is_same_text (column_names table before) ≡ true → do_differ is_same_text (column_names table (before ++ row ∷ [])) ≡ true
one_behind table before row none differ =
    ap (do_differ is_same_text)
    (ap (map (λ (r : Declared). r.column)) (filter-append (λ (r : Declared). is_same_text r.table table) before (row ∷ []))
    ∙ map-append (λ (r : Declared). r.column) (rows_in table before) (rows_in table (row ∷ [])))
    ∙ one_behind_by table before row (is_same_text row.table table) refl none differ

all_behind_by : (table : List ℕ) (before : List Declared) (row : Declared) (rows : List Declared) (b : Bool) → stood before row ≡ b
    → ((none : stood before row ≡ false) → first_twice (before ++ row ∷ []) rows ≡ None
    → do_differ is_same_text (column_names table ((before ++ row ∷ []) ++ rows)) ≡ true)
    → (if b then Some (column_line (codes "C2") (length before + 1) row) else first_twice (before ++ row ∷ []) rows) ≡ None
    → do_differ is_same_text (column_names table (before ++ row ∷ rows)) ≡ true
all_behind_by table before row rows true is rest e = cc e
all_behind_by table before row rows false is rest e =
    ap (λ (all : List Declared). do_differ is_same_text (column_names table all)) (sym (append_assoc before (row ∷ []) rows)) ∙ rest is e

all_behind : (table : List ℕ) (before rows : List Declared) → first_twice before rows ≡ None
    → do_differ is_same_text (column_names table before) ≡ true → do_differ is_same_text (column_names table (before ++ rows)) ≡ true
all_behind table before [] e differ = ap (λ (all : List Declared). do_differ is_same_text (column_names table all)) (append-nil before) ∙ differ
all_behind table before (row ∷ rows) e differ =
    all_behind_by table before row rows (stood before row) refl
    (λ none f. all_behind table (before ++ row ∷ []) rows f (one_behind table before row none differ)) e

-- ---- a table has a column

abbrev IsThere : List Declared → List ℕ → Type 0
IsThere rows table = list_any (λ (row : Declared). is_same_text row.table table) rows ≡ true

there_later : (first : Declared) (rows : List Declared) (table : List ℕ) → IsThere rows table → IsThere (first ∷ rows) table
there_later first rows table there = either (is_same_text first.table table) (list_any (λ (row : Declared). is_same_text row.table table) rows) there
  where
    either : (a b : Bool) → b ≡ true → (a || b) ≡ true
    either true b e = refl
    either false b e = e

there_first : (first : Declared) (rows : List Declared) → IsThere (first ∷ rows) first.table
there_first first rows =
    ap (λ (b : Bool). b || list_any (λ (row : Declared). is_same_text row.table first.table) rows) (same_text first.table)

tables_by : (row : Declared) (rows : List Declared) (b : Bool) (tables : List (List ℕ)) → All (IsThere rows) tables
    → All (IsThere (row ∷ rows)) (if b then tables else row.table ∷ tables)
tables_by row rows true tables there = All-weaker (IsThere rows) (IsThere (row ∷ rows)) (there_later row rows) tables there
tables_by row rows false tables there =
    All-cons (IsThere (row ∷ rows)) row.table tables (there_first row rows)
    (All-weaker (IsThere rows) (IsThere (row ∷ rows)) (there_later row rows) tables there)

tables_there : (before rows : List Declared) → All (IsThere rows) (tables_in before rows)
tables_there before [] = All-nil (IsThere [])
tables_there before (row ∷ rows) =
    tables_by row rows (list_any (λ (other : Declared). is_same_text other.table row.table) before) (tables_in (before ++ row ∷ []) rows)
    (tables_there (before ++ row ∷ []) rows)

column_by : (row : Declared) (others : List Declared) (b : Bool) → (b ≡ false → map column_of others ≢ [])
    → map column_of (if b then row ∷ others else others) ≢ []
column_by row others true rest = λ e. cc e
column_by row others false rest = rest refl

has_column : (table : List ℕ) (rows : List Declared) → IsThere rows table → map column_of (rows_in table rows) ≢ []
has_column table [] there = cc there
has_column table (row ∷ rows) there =
    column_by row (rows_in table rows) (is_same_text row.table table)
    (λ differs. has_column table rows (ap (λ (b : Bool). b || list_any (λ (r : Declared). is_same_text r.table table) rows) (sym differs) ∙ there))

-- ---- the schema

names_are : (rows : List Declared) → names_of (map column_of rows) ≡ map (λ (r : Declared). r.column) rows
names_are [] = refl
names_are (row ∷ rows) = ap (λ (names : List (List ℕ)). row.column ∷ names) (names_are rows)

first_none : (a b : Option FaultLine) → option_or a b ≡ None → a ≡ None
first_none None b e = refl
first_none (Some line) b e = cc e

tables_named : (rows : List Declared) → second_column rows ≡ None → All HasNamedColumns (tables_of rows)
tables_named rows none =
    All-map HasNamedColumns (λ (table : List ℕ). table_of table (rows_in table rows)) (tables_in [] rows)
    (All-weaker (IsThere rows) (λ (table : List ℕ). HasNamedColumns (table_of table (rows_in table rows)))
    (λ table there. (
      has_column table rows there,
      ap (do_differ is_same_text) (names_are (rows_in table rows)) ∙ all_behind table [] rows none refl,
    ))
    (tables_in [] rows) (tables_there [] rows))

schema_by : (o : Option FaultLine) (rows : List Declared) (schema : Schema) → fault_in rows ≡ o → schema_unless o rows ≡ Ok schema
    → All HasNamedColumns schema.tables
schema_by (Some line) rows schema is e = cc e
schema_by None rows schema is e =
    let same : record { tables = tables_of rows } ≡ schema = cc e in
    subst (λ (s : Schema). All HasNamedColumns s.tables) same (tables_named rows (first_none (second_column rows) (second_key rows) is))

schema_over : (r : Result (List Declared) ModelFault) (schema : Schema) → schema_with r ≡ Ok schema → All HasNamedColumns schema.tables
schema_over (Err fault) schema e = cc e
schema_over (Ok rows) schema e = schema_by (fault_in rows) rows schema refl e

pub schema_named : (text : List ℕ) (schema : Schema) → schema_of text ≡ Ok schema → All HasNamedColumns schema.tables
schema_named text schema e = schema_over (rows_of (codes "C1") (codes "schema.csv") is_header declared_of (records_of text)) schema e
