-- The canonical text of a load's batch loads what the load's body did.
use Rattle.std.proofs.Common.{◌≡◌, ◌∙◌, ◌++◌, ℕ, Bool, List, Option, Some, None, refl, ap}
use Rattle.std.specs.Prelude.{Result, Ok, Err}
use Rattle.lk_val.specs.declared.value.Value.{Value}
use Rattle.lk_types.specs.Tables.{Rows}
use Rattle.lk_types.specs.declared.schema.TableDef.{TableDef}
use Rattle.lk_table.specs.Batches.{and_then, batch_of}
use Rattle.lk_table.specs.BatchTexts.{HasNamedColumns, batch_text}
use Rattle.lk_table.specs.Contents.{Content, content_of, keys_of}
use Rattle.lk_table.specs.Loads.{first_conflict, kept_rows, loaded, unless_conflict}
use Rattle.lk_table.specs.declared.fault.BatchFault.{BatchFault}
use Rattle.lk_load.specs.Loading.{LoadedTable, table_loaded, with_batch}

conflict_same : (def : TableDef) (before others rows : Rows) (o : Option Value)
    → unless_conflict o (content_of def before) rows ≡ unless_conflict o (content_of def others) rows
conflict_same def before others rows None = refl
conflict_same def before others rows (Some key) = refl

-- what a batch leaves depends on the rows that stay alone
loaded_same : (def : TableDef) (before others : Rows) (batch : Content) (a b : Bool) → kept_rows a before ≡ kept_rows b others
    → loaded (content_of def before) batch a ≡ loaded (content_of def others) batch b
loaded_same def before others batch a b same =
    ap (λ (stay : Rows). unless_conflict (first_conflict (keys_of def.key stay) (keys_of def.key batch.rows)) (content_of def before) (stay ++ batch.rows)) same
    ∙ conflict_same def before others (kept_rows b others ++ batch.rows)
    (first_conflict (keys_of def.key (kept_rows b others)) (keys_of def.key batch.rows))

text_by : (def : TableDef) (batch : Content) (r : Result Content BatchFault) (t : LoadedTable) → with_batch def batch r ≡ Ok t
    → t.text ≡ batch_text def batch
text_by def batch (Err fault) t e = cc e
text_by def batch (Ok content) t e = cc e

module _ (back : (def : TableDef) (text : List ℕ) (content : Content) → HasNamedColumns def → batch_of def text ≡ Ok content
    → batch_of def (batch_text def content) ≡ Ok content)
    (def : TableDef) (named : HasNamedColumns def) (before others : Rows) (text : List ℕ) (a b : Bool)
    (same : kept_rows a others ≡ kept_rows b before) (t : LoadedTable) where
  again_by : (r : Result Content BatchFault) → batch_of def text ≡ r
      → and_then r (λ batch. with_batch def batch (loaded (content_of def before) batch b)) ≡ Ok t → table_loaded def others t.text a ≡ Ok t
  again_by (Err fault) is e = cc e
  again_by (Ok batch) is e =
      ap (λ (canonical : List ℕ). table_loaded def others canonical a) (text_by def batch (loaded (content_of def before) batch b) t e)
      ∙ ap (λ (r : Result Content BatchFault). and_then r (λ batch. with_batch def batch (loaded (content_of def others) batch a))) (back def text batch named is)
      ∙ ap (with_batch def batch) (loaded_same def others before batch a b same)
      ∙ e

  -- over rows of which as many stay
  pub text_again : table_loaded def before text b ≡ Ok t → table_loaded def others t.text a ≡ Ok t
  text_again e = again_by (batch_of def text) refl e
