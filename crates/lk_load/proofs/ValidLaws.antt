-- A table that a text is loaded into stays valid.
use Rattle.std.proofs.Common.{◌≡◌, ◌++◌, ◌∷◌, ◌∙◌, [], ℕ, Bool, true, false, List, Option, Some, None, refl, ap}
use Rattle.std.specs.List.{list_all, position}
use Rattle.std.specs.Prelude.{Result, Ok, Err}
use Rattle.std.proofs.lemmas.List.Folds.{list_all-append}
use Rattle.lk_val.proofs.FractionSteps.{both, together}
use Rattle.lk_val.specs.declared.value.Value.{Value}
use Rattle.lk_types.specs.Tables.{Rows, are_of_kinds, has_keys, is_valid_table}
use Rattle.lk_types.specs.declared.schema.TableDef.{TableDef}
use Rattle.lk_csv.specs.Records.{records_of}
use Rattle.lk_table.specs.Batches.{Fields, and_then, batch_from, batch_of, content_from, or_wrong, places_of, rows_behind, unless_null, with_keys}
use Rattle.lk_table.specs.Contents.{Content, content_of, keys_of, lacks_key}
use Rattle.lk_table.specs.Loads.{first_conflict, loaded, unless_conflict}
use Rattle.lk_table.specs.declared.fault.BatchFault.{BatchFault}
use Rattle.lk_load.specs.Loading.{IsTable, LoadedTable, table_loaded, with_batch}
use Rattle.lk_load.proofs.KeyLaws.{rows_keyed}
use Rattle.lk_load.proofs.RowLaws.{rows_behind-fit}

-- ---- a batch

-- what is known of a batch that was read
record IsRead (def : TableDef) (content : Content) : Type 0 where
  fit : list_all (are_of_kinds def.columns) content.rows ≡ true
  keyed : position (lacks_key def.key) content.rows ≡ None

kept_by : (def : TableDef) (rows : Rows) (content : Content) (o : Option ℕ) → list_all (are_of_kinds def.columns) rows ≡ true
    → position (lacks_key def.key) rows ≡ o → unless_null (content_of def rows) o ≡ Ok content → IsRead def content
kept_by def rows content None fit is e =
    let same : content_of def rows ≡ content = cc in
    rw (← same) (record { fit = fit; keyed = is })
kept_by def rows content (Some place) fit is e = cc e

rows_read : (def : TableDef) (r : Result Rows BatchFault) (content : Content)
    → ((rows : Rows) → r ≡ Ok rows → list_all (are_of_kinds def.columns) rows ≡ true)
    → and_then (content_from def r) with_keys ≡ Ok content → IsRead def content
rows_read def (Err fault) content fit e = cc e
rows_read def (Ok rows) content fit e = kept_by def rows content (position (lacks_key def.key) rows) (fit rows refl) refl e

places_read : (def : TableDef) (records : List Fields) (p : Result (List ℕ) (List ℕ)) (content : Content)
    → and_then (or_wrong 0 p) (λ places. and_then (content_from def (rows_behind def.columns records places)) with_keys) ≡ Ok content
    → IsRead def content
places_read def records (Err name) content e = cc e
places_read def records (Ok places) content e =
    rows_read def (rows_behind def.columns records places) content (λ rows f. rows_behind-fit def.columns places records rows f) e

batch_read : (def : TableDef) (records : List Fields) (content : Content) → batch_from def records ≡ Ok content → IsRead def content
batch_read def [] content e = cc e
batch_read def (header ∷ records) content e = places_read def records (places_of def.columns [] header) content e

nothing_valid_by : (key : Option ℕ) → has_keys key [] ≡ true
nothing_valid_by None = refl
nothing_valid_by (Some column) = refl

pub nothing_valid : (def : TableDef) → is_valid_table def [] ≡ true
nothing_valid def = nothing_valid_by def.key

-- ---- a table

conflict_by : (def : TableDef) (before held : Rows) (batch content : Content) (o : Option Value) → is_valid_table def held ≡ true → IsRead def batch
    → first_conflict (keys_of def.key held) (keys_of def.key batch.rows) ≡ o
    → unless_conflict o (content_of def before) (held ++ batch.rows) ≡ Ok content → IsTable def content
conflict_by def before held batch content None valid read is e =
    let same : content_of def (held ++ batch.rows) ≡ content = cc in
    let parts = both (list_all (are_of_kinds def.columns) held) (has_keys def.key held) valid in
    rw (← same) (record {
      valid = together (list_all-append (are_of_kinds def.columns) held batch.rows ∙ together parts.0 read.fit)
          (rows_keyed def.key held batch.rows parts.1 read.keyed is);
      shaped = refl;
    })
conflict_by def before held batch content (Some key) valid read is e = cc e

loaded_by : (def : TableDef) (rows : Rows) (batch content : Content) (replace : Bool) → is_valid_table def rows ≡ true → IsRead def batch
    → loaded (content_of def rows) batch replace ≡ Ok content → IsTable def content
loaded_by def rows batch content true valid read e =
    conflict_by def rows [] batch content (first_conflict (keys_of def.key []) (keys_of def.key batch.rows)) (nothing_valid def) read refl e
loaded_by def rows batch content false valid read e =
    conflict_by def rows rows batch content (first_conflict (keys_of def.key rows) (keys_of def.key batch.rows)) valid read refl e

text_kept : (def : TableDef) (rows : Rows) (r : Result Content BatchFault) (content : Content) (replace : Bool)
    → is_valid_table def rows ≡ true → ((batch : Content) → r ≡ Ok batch → IsRead def batch)
    → and_then r (λ batch. loaded (content_of def rows) batch replace) ≡ Ok content → IsTable def content
text_kept def rows (Err fault) content replace valid read e = cc e
text_kept def rows (Ok batch) content replace valid read e = loaded_by def rows batch content replace valid (read batch refl) e

-- a text that is loaded into the table without rows
pub text_valid : (def : TableDef) (text : List ℕ) (content : Content)
    → and_then (batch_of def text) (λ batch. loaded (content_of def []) batch true) ≡ Ok content → is_valid_table def content.rows ≡ true
text_valid def text content e =
    (text_kept def [] (batch_of def text) content true (nothing_valid def) (λ batch f. batch_read def (records_of text) batch f) e).valid

-- ---- a load

version_by : (def : TableDef) (batch : Content) (r : Result Content BatchFault) (t : LoadedTable) → with_batch def batch r ≡ Ok t → r ≡ Ok t.version
version_by def batch (Err fault) t e = cc e
version_by def batch (Ok content) t e = let same : content ≡ t.version = cc in ap Ok same

load_by : (def : TableDef) (rows : Rows) (r : Result Content BatchFault) (t : LoadedTable) (replace : Bool) → is_valid_table def rows ≡ true
    → ((batch : Content) → r ≡ Ok batch → IsRead def batch)
    → and_then r (λ batch. with_batch def batch (loaded (content_of def rows) batch replace)) ≡ Ok t → IsTable def t.version
load_by def rows (Err fault) t replace valid read e = cc e
load_by def rows (Ok batch) t replace valid read e =
    loaded_by def rows batch t.version replace valid (read batch refl)
    (version_by def batch (loaded (content_of def rows) batch replace) t e)

pub load_kept : (def : TableDef) (rows : Rows) (text : List ℕ) (replace : Bool) (t : LoadedTable) → is_valid_table def rows ≡ true
    → table_loaded def rows text replace ≡ Ok t → IsTable def t.version
load_kept def rows text replace t valid e =
    load_by def rows (batch_of def text) t replace valid (λ batch f. batch_read def (records_of text) batch f) e
