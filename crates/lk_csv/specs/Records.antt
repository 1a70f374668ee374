-- The records of a text of comma-separated fields, and the text of a record.
use Rattle.std.specs.Prelude.{◌≢◌, ℕ, List, [], ◌∷◌, ◌++◌, take}
use Rattle.csv.specs.Reading.{default_config, records, strip_bom}
use Rattle.csv.specs.Writing.{default_writer, row_text}

-- the records of a text, with no header row; a byte order mark is skipped (RFC 4180)
unfoldable pub records_of : List ℕ → List (List (List ℕ))
records_of text = records default_config (strip_bom text)

-- the text of a record and its line feed; a field has quotes where it needs them (RFC 4180)
unfoldable pub record_text : List (List ℕ) → List ℕ
record_text fields = row_text default_writer fields

-- the texts of these records, one after the other
unfoldable pub records_text : List (List (List ℕ)) → List ℕ
records_text [] = []
records_text (fields ∷ rows) = record_text fields ++ records_text rows

-- the record has a field: none at all and one empty field have the same text
abbrev pub HasAField : List (List ℕ) → Type 0
HasAField fields = fields ≢ []

-- the text does not begin with the byte order mark, which is U+FEFF in UTF-8
abbrev pub HasNoMark : List ℕ → Type 0
HasNoMark text = take 3 text ≢ 0xEF ∷ 0xBB ∷ 0xBF ∷ []
