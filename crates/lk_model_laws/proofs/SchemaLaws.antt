-- The key of each table of a schema is one of its columns.
use Rattle.std.proofs.Common.{◌≡◌, ℕ, Bool, true, false, List, [], ◌∷◌, map, length, refl, sym, ap, subst, Option, Some, None}
use Rattle.std.specs.Prelude.{Result, Ok, Err, codes, nat_lt}
use Rattle.std.specs.List.{list_all, position}
use Rattle.std.proofs.lemmas.Bool.{false≢true}
use Rattle.std.proofs.lemmas.List.{length-map}
use Rattle.lk_val.specs.declared.fault.FaultLine.{FaultLine}
use Rattle.lk_val.specs.declared.fault.ModelFault.{ModelFault}
use Rattle.lk_types.specs.declared.schema.Schema.{Schema}
use Rattle.lk_types.specs.declared.schema.TableDef.{TableDef}
use Rattle.lk_csv.specs.Records.{records_of}
use Rattle.lk_schema.specs.declared.schema.Declared.{Declared}
use Rattle.lk_schema.specs.Rows.{rows_of}
use Rattle.lk_schema.specs.Schemas.{column_of, declared_of, fault_in, is_header, rows_in, schema_of, schema_unless, schema_with, table_of, tables_in, tables_of}
use Rattle.lk_semantics.specs.Resolved.{is_none_or_below}
use Rattle.lk_semantics.proofs.EveryLaws.{Every, both}
use Rattle.lk_model_laws.proofs.ListLaws.{position_within}
use Rattle.lk_model_laws.proofs.NumberLaws.{test_below}

-- a table's key is one of its columns, if it has one
abbrev pub has_key_column : TableDef → Bool
has_key_column t = is_none_or_below (length t.columns) t.key

key_within : (rows : List Declared) (key : Option ℕ) → position (λ row. row.is_key) rows ≡ key → is_none_or_below (length (map column_of rows)) key ≡ true
key_within rows None at = refl
key_within rows (Some n) at =
    subst (λ count. nat_lt n count ≡ true) (sym (length-map rows column_of)) (test_below n (length rows) (position_within (λ (row : Declared). row.is_key) rows n at))

tables_keyed : (rows : List Declared) (names : List (List ℕ)) → Every has_key_column (map (λ table. table_of table (rows_in table rows)) names)
tables_keyed rows [] = refl
tables_keyed rows (name ∷ names) =
    both (has_key_column (table_of name (rows_in name rows))) (list_all has_key_column (map (λ table. table_of table (rows_in table rows)) names))
    (key_within (rows_in name rows) (position (λ row. row.is_key) (rows_in name rows)) refl) (tables_keyed rows names)

schema_in : Schema → Result Schema ModelFault → Schema
schema_in other (Ok schema) = schema
schema_in other (Err fault) = other

is_schema : Result Schema ModelFault → Bool
is_schema (Ok schema) = true
is_schema (Err fault) = false

keyed_unless : (o : Option FaultLine) (rows : List Declared) (schema : Schema) → schema_unless o rows ≡ Ok schema → Every has_key_column schema.tables
unfolding schema_in is_schema
keyed_unless None rows schema h =
    let same : record { tables = tables_of rows } ≡ schema = ap (schema_in schema) h in
    subst (λ (s : Schema). Every has_key_column s.tables) same (tables_keyed rows (tables_in [] rows))
keyed_unless (Some line) rows schema h = absurd (false≢true (ap is_schema h))

keyed_with : (r : Result (List Declared) ModelFault) (schema : Schema) → schema_with r ≡ Ok schema → Every has_key_column schema.tables
unfolding is_schema
keyed_with (Err fault) schema h = absurd (false≢true (ap is_schema h))
keyed_with (Ok rows) schema h = keyed_unless (fault_in rows) rows schema h

-- the schema that a text declares
pub keys_are_columns : (text : List ℕ) (schema : Schema) → schema_of text ≡ Ok schema → Every has_key_column schema.tables
keys_are_columns text schema h = keyed_with (rows_of (codes "C1") (codes "schema.csv") is_header declared_of (records_of text)) schema h
