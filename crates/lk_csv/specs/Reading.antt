-- What a reader over a slice has yet to give.
use Rattle.std.specs.Borrow.{Bor}
use Rattle.std.specs.Prelude.{◌≡◌, ◌+◌, ◌∷◌, Bool, true, false, ℕ, List, [], Option, Some, None, IsSome, length, if◌then◌else◌}
use Rattle.csv.specs.Machine.{ends_at_end}
use Rattle.csv.specs.Reading.{Ready, default_config, is_flexible, reader_config, reader_state, reader_trim, records_from, source_of}
use Rattle.csv.specs.declared.parser.State.{State}
use Rattle.csv.specs.declared.reader.Reader.{Reader}
use Rattle.csv.specs.declared.reader.Trim.TheVariants as trim

-- the bytes that the reader has yet to read, if it has not failed
abbrev pub text_left : Reader (Bor (List ℕ)) → Option (List ℕ)
text_left reader = source_of (λ slice. Some slice.now) reader

-- how many bytes a text has, and none where it is not known
abbrev pub known_length : Option (List ℕ) → ℕ
known_length None = 0
known_length (Some text) = length text

-- how many bytes the reader has yet to read
abbrev pub bytes_left : Reader (Bor (List ℕ)) → ℕ
bytes_left reader = known_length (text_left reader)

-- the records of a text that a reader takes up in this state: no more than it has bytes
unfoldable pub records_after : State → List ℕ → List (List (List ℕ))
records_after state text = records_from default_config (length text + 1) state text

-- the same, and none where the text is not known
abbrev pub known_records : State → Option (List ℕ) → List (List (List ℕ))
known_records state None = []
known_records state (Some text) = records_after state text

-- the records that the reader has yet to give
abbrev pub records_left : Reader (Bor (List ℕ)) → List (List (List ℕ))
records_left reader = known_records (reader_state reader) (text_left reader)

-- the record that was found, and those after it; or none
abbrev pub before : Bool → List (List ℕ) → List (List (List ℕ)) → List (List (List ℕ))
before found fields rows = if found then fields ∷ rows else []

-- the reader stands between two records of a known text, and takes each as it is, of any length
pub record IsReading (reader : Reader (Bor (List ℕ))) : Type 0 where
  pub ready : Ready reader
  pub config : reader_config reader ≡ default_config
  pub trim : reader_trim reader ≡ trim.None
  pub flexible : is_flexible reader ≡ true
  pub between : ends_at_end (reader_state reader) ≡ false
  pub known : IsSome (text_left reader)
