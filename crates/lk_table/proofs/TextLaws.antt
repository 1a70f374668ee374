-- The text of a batch, record by record.
use Rattle.std.proofs.Common.{◌≡◌, ◌<◌, ◌+◌, ◌++◌, ◌∷◌, [], ℕ, List, length, take, map, refl, sym, ap, ◌∙◌, append_assoc}
use Rattle.std.proofs.lemmas.List.{append-nil, map-append, take_more}
use Rattle.lk_csv.specs.Records.{record_text, records_text}
use Rattle.lk_types.specs.Tables.{Rows}
use Rattle.lk_table.specs.Batches.{Fields}
use Rattle.lk_table.specs.BatchTexts.{fields_of_row}
use Rattle.lk_table.specs.Contents.{row_at}

pub no_records : (text : List ℕ) → text ≡ text ++ records_text []
unfolding records_text
no_records text = sym (append-nil text)

pub records_text-cons : (fields : Fields) (records : List Fields) → record_text fields ++ records_text records ≡ records_text (fields ∷ records)
unfolding records_text
records_text-cons fields records = refl

records_text-push : (records : List Fields) (fields : Fields) → records_text (records ++ fields ∷ []) ≡ records_text records ++ record_text fields
unfolding records_text
records_text-push [] fields = append-nil (record_text fields)
records_text-push (first ∷ records) fields =
    ap (λ (text : List ℕ). record_text first ++ text) (records_text-push records fields)
    ∙ sym (append_assoc (record_text first) (records_text records) (record_text fields))

pub record_more : (text : List ℕ) (rows : Rows) (i : ℕ) → i < length rows
    → (text ++ records_text (map fields_of_row (take i rows))) ++ record_text (fields_of_row (row_at rows i))
    ≡ text ++ records_text (map fields_of_row (take (i + 1) rows))
record_more text rows i within =
    append_assoc text (records_text (map fields_of_row (take i rows))) (record_text (fields_of_row (row_at rows i)))
    ∙ ap (λ (more : List ℕ). text ++ more)
    (sym (records_text-push (map fields_of_row (take i rows)) (fields_of_row (row_at rows i)))
    ∙ ap records_text (sym (map-append fields_of_row (take i rows) (row_at rows i ∷ [])))
    ∙ ap (λ (those : Rows). records_text (map fields_of_row those)) (sym (take_more rows i [] within)))
