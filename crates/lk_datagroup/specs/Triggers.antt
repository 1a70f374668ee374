-- What the text of a trigger watches. (Looker, LookML reference: sql_trigger; lookd)
use Rattle.std.specs.Prelude.{ℕ, ◌==◌, Bool, not, ◌&&◌, ◌||◌, nat_eq, if◌then◌else◌, List, [], ◌∷◌, Option, Some, None, codes, length}
use Rattle.std.specs.Char.{is_ascii_alphanumeric}
use Rattle.std.specs.List.{filter, flat_map, list_all, slice_split}
use Rattle.std.specs.Option.{option_and_then, option_map}
use Rattle.std.specs.Str.{str_eq_ignore_ascii_case}
use Rattle.lk_val.specs.Texts.{is_same_text}
use Rattle.lk_types.specs.declared.schema.Schema.{Schema}
use Rattle.lk_types.specs.declared.model.Trigger.{Trigger}
use Rattle.lk_types.specs.declared.model.Trigger.TheVariants as trigger
use Rattle.lk_written.specs.SchemaNames.{column_number, table_number}

-- ---- words and signs

-- a letter, a digit or an underscore
abbrev pub is_name_byte : ℕ → Bool
is_name_byte c = is_ascii_alphanumeric c || c == 95

-- a space, a tab, or a line's end
abbrev pub is_white : ℕ → Bool
is_white c = c == 32 || c == 9 || c == 13 || c == 10

-- a byte with a space on either side of a sign, and with white space as a space
abbrev pub spaced : ℕ → List ℕ
spaced c = if is_name_byte c then c ∷ [] else if is_white c then 32 ∷ [] else 32 ∷ c ∷ 32 ∷ []

abbrev pub is_given : List ℕ → Bool
is_given piece = not (nat_eq (length piece) 0)

-- the words of a text, and its other bytes, each by itself
abbrev pub pieces_of : List ℕ → List (List ℕ)
pieces_of text = filter is_given (slice_split (λ c. c == 32) (flat_map spaced text))

-- ---- what they watch

-- letters in any case
abbrev pub is_keyword : List ℕ → List ℕ → Bool
is_keyword keyword piece = str_eq_ignore_ascii_case piece keyword

abbrev pub is_name : List ℕ → Bool
is_name piece = list_all is_name_byte piece

-- the table of the name, if it is one of the schema
abbrev pub table_in : Schema → List ℕ → Option ℕ
table_in schema name = if is_name name then table_number schema name else None

abbrev pub greatest_of : Schema → List ℕ → ℕ → Option Trigger
greatest_of schema column table =
    if is_name column then option_map (trigger.Max table) (column_number schema table column) else None

-- `MAX` of a column, or `COUNT` of `*`, in a table
abbrev pub aggregate_of : Schema → List ℕ → List ℕ → ℕ → Option Trigger
aggregate_of schema function argument table =
    if is_keyword (codes "max") function then greatest_of schema argument table
    else if is_keyword (codes "count") function && is_same_text argument (codes "*") then Some (trigger.Count table)
    else None

abbrev pub are_brackets : List ℕ → List ℕ → Bool
are_brackets left right = is_same_text left (codes "(") && is_same_text right (codes ")")

abbrev pub today_of : List ℕ → List ℕ → Option Trigger
today_of select today =
    if is_keyword (codes "select") select && is_keyword (codes "current_date") today then Some trigger.Today else None

-- the words and signs round an aggregate are those of a SELECT
abbrev pub is_select : List ℕ → List ℕ → List ℕ → List ℕ → Bool
is_select select left right from = is_keyword (codes "select") select && (are_brackets left right && is_keyword (codes "from") from)

abbrev pub watched_in : Schema → List ℕ → List ℕ → List ℕ → Option Trigger
watched_in schema function argument table = option_and_then (aggregate_of schema function argument) (table_in schema table)

-- `SELECT MAX(c) FROM t`, `SELECT COUNT(*) FROM t`, `SELECT CURRENT_DATE`
abbrev pub trigger_in : Schema → List (List ℕ) → Option Trigger
trigger_in schema (select ∷ today ∷ []) = today_of select today
trigger_in schema (select ∷ function ∷ left ∷ argument ∷ right ∷ from ∷ table ∷ []) =
    if is_select select left right from then watched_in schema function argument table else None
trigger_in schema pieces = None

abbrev pub trigger_of : Schema → List ℕ → Option Trigger
trigger_of schema text = trigger_in schema (pieces_of text)
