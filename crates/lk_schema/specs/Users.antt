-- The users that a text declares with their attributes, or its first fault. (lookd)
use Rattle.std.specs.Prelude.{ℕ, Bool, false, not, ◌&&◌, ◌==◌, if◌then◌else◌, List, [], ◌∷◌, length, Option, Some, None, Result, Ok, Err, codes}
use Rattle.std.specs.List.{find, list_any}
use Rattle.std.specs.Option.{option_and_then}
use Rattle.lk_val.specs.Texts.{is_same_text, text_of}
use Rattle.lk_val.specs.declared.fault.FaultLine.{FaultLine}
use Rattle.lk_val.specs.declared.fault.ModelFault.{ModelFault}
use Rattle.lk_val.specs.declared.fault.ModelFault.TheVariants.{Fault}
use Rattle.lk_csv.specs.Records.{records_of}
use Rattle.lk_schema.specs.declared.users.Users.{Users}
use Rattle.lk_schema.specs.Rows.{Fields, row_line, rows_of, first_again}

-- ---- rows

-- a user, an attribute and its value
abbrev pub User : Type 0
User = List ℕ × List ℕ × List ℕ

-- `user,attribute,value`
abbrev pub is_header : Fields → Bool
is_header (user ∷ attribute ∷ value ∷ []) =
    is_same_text user (codes "user") && is_same_text attribute (codes "attribute")
    && is_same_text value (codes "value")
is_header fields = false

-- the user of the parts, if there are all and the name is not empty
abbrev pub user_as : Option (List ℕ) → Option (List ℕ) → Option (List ℕ) → Option User
user_as (Some user) (Some attribute) (Some value) =
    if length user == 0 then None else Some (user, attribute, value)
user_as user attribute value = None

-- a record declares a user, an attribute and its value, in UTF-8
abbrev pub user_of : Fields → Option User
user_of (user ∷ attribute ∷ value ∷ []) = user_as (text_of user) (text_of attribute) (text_of value)
user_of fields = None

-- ---- faults

abbrev pub attribute_line : ℕ → User → FaultLine
attribute_line number row = row_line (codes "U2") (codes "users.csv") number row.0 row.1

abbrev pub is_same_attribute : List ℕ × List ℕ → List ℕ × List ℕ → Bool
is_same_attribute a b = is_same_text a.0 b.0 && is_same_text a.1 b.1

-- the user and the attribute of a row; one with an empty attribute only declares the user
abbrev pub attribute_in : User → Option (List ℕ × List ℕ)
attribute_in row = if length row.1 == 0 then None else Some (row.0, row.1)

-- a user has each attribute once
abbrev pub second_attribute : List User → Option FaultLine
second_attribute rows = first_again is_same_attribute attribute_in attribute_line [] rows

-- ---- the users

-- the users, unless there is a fault
abbrev pub users_unless : Option FaultLine → List User → Result Users ModelFault
users_unless (Some line) rows = Err (Fault line)
users_unless None rows = Ok (record { rows = rows })

abbrev pub users_with : Result (List User) ModelFault → Result Users ModelFault
users_with (Err fault) = Err fault
users_with (Ok rows) = users_unless (second_attribute rows) rows

-- the users of the records: a row of another shape goes before an attribute that stands twice
abbrev pub users_from : List Fields → Result Users ModelFault
users_from records = users_with (rows_of (codes "U1") (codes "users.csv") is_header user_of records)

-- the users that a text declares, or its first fault (lookd)
abbrev pub users_of : List ℕ → Result Users ModelFault
users_of text = users_from (records_of text)

-- ---- what is asked of them

-- some row has the user
abbrev pub has_user : Users → List ℕ → Bool
has_user users user = list_any (λ row. is_same_text row.0 user) users.rows

-- the row gives the user a value of the attribute, which has a name
abbrev pub gives : List ℕ → List ℕ → User → Bool
gives user attribute row =
    is_same_text row.0 user && is_same_text row.1 attribute && not (length attribute == 0)

-- an empty value counts as none
abbrev pub value_in : User → Option (List ℕ)
value_in row = if length row.2 == 0 then None else Some row.2

-- the value of a user's attribute, if the user has it
abbrev pub attribute_of : Users → List ℕ → List ℕ → Option (List ℕ)
attribute_of users user attribute = option_and_then value_in (find (gives user attribute) users.rows)
