-- Small schemas and users with what they declare, or their first faults.
use Rattle.std.proofs.Common.{◌≡◌, ℕ, true, false, List, [], ◌∷◌, Some, None, refl}
use Rattle.std.specs.Prelude.{Ok, Err, codes}
use Rattle.std.specs.Str.{is_utf8, chars}
use Rattle.lk_val.specs.declared.fault.ModelFault.TheVariants.{Fault}
use Rattle.lk_types.specs.declared.schema.Kind.TheVariants as kind
use Rattle.lk_schema.specs.declared.users.Users.{Users}
use Rattle.lk_schema.specs.Rows.{Fields, row_line}
use Rattle.lk_schema.specs.Schemas.{schema_from}
use Rattle.lk_schema.specs.Users.{attribute_of, has_user, users_from}

-- ---- schemas

abbrev header : Fields
header = codes "table" ∷ codes "column" ∷ codes "kind" ∷ codes "key" ∷ []

abbrev row : List ℕ → List ℕ → List ℕ → List ℕ → Fields
row table column k key = table ∷ column ∷ k ∷ key ∷ []

-- tables in the order of first standing, each with its columns in order
two_tables : schema_from (header ∷ row (codes "b") (codes "x") (codes "text") [] ∷ row (codes "a") (codes "y") (codes "yesno") []
    ∷ row (codes "b") (codes "z") (codes "moment") (codes "yes") ∷ [])
    ≡ Ok (record {
      tables =
          record { name = codes "b"; columns = record { name = codes "x"; kind = kind.Text } ∷ record { name = codes "z"; kind = kind.Moment } ∷ []; key = Some 1 }
          ∷ record { name = codes "a"; columns = record { name = codes "y"; kind = kind.Truth } ∷ []; key = None } ∷ [];
    })
unfolding is_utf8 chars lib.Utf8.encode
two_tables = refl

nothing : schema_from [] ≡ Err (Fault (row_line (codes "C1") (codes "schema.csv") 0 [] []))
nothing = refl

header_alone : schema_from (header ∷ []) ≡ Ok (record { tables = [] })
header_alone = refl

without_header : schema_from (row (codes "t") (codes "c") (codes "text") [] ∷ [])
    ≡ Err (Fault (row_line (codes "C1") (codes "schema.csv") 0 [] []))
without_header = refl

-- a row of an unknown kind goes before a column that stands twice further up
shape_first : schema_from (header ∷ row (codes "t") (codes "c") (codes "text") [] ∷ row (codes "t") (codes "c") (codes "text") []
    ∷ row (codes "t") (codes "d") (codes "texts") [] ∷ [])
    ≡ Err (Fault (row_line (codes "C1") (codes "schema.csv") 3 [] []))
unfolding is_utf8 chars lib.Utf8.encode
shape_first = refl

-- a column twice goes before a second key further up
column_before_key : schema_from (header ∷ row (codes "t") (codes "a") (codes "text") (codes "yes") ∷ row (codes "t") (codes "b") (codes "text") (codes "yes")
    ∷ row (codes "t") (codes "a") (codes "text") [] ∷ [])
    ≡ Err (Fault (row_line (codes "C2") (codes "schema.csv") 3 (codes "t") (codes "a")))
unfolding is_utf8 chars lib.Utf8.encode
column_before_key = refl

second_key : schema_from (header ∷ row (codes "t") (codes "a") (codes "text") (codes "yes") ∷ row (codes "u") (codes "a") (codes "text") (codes "yes")
    ∷ row (codes "t") (codes "b") (codes "text") (codes "yes") ∷ [])
    ≡ Err (Fault (row_line (codes "C3") (codes "schema.csv") 3 (codes "t") (codes "b")))
unfolding is_utf8 chars lib.Utf8.encode
second_key = refl

-- only `yes` marks a key, letter by letter
upper_case : schema_from (header ∷ row (codes "t") (codes "a") (codes "text") (codes "YES") ∷ [])
    ≡ Err (Fault (row_line (codes "C1") (codes "schema.csv") 1 [] []))
unfolding is_utf8 chars lib.Utf8.encode
upper_case = refl

-- ---- users

abbrev users_header : Fields
users_header = codes "user" ∷ codes "attribute" ∷ codes "value" ∷ []

abbrev user : List ℕ → List ℕ → List ℕ → Fields
user name attribute value = name ∷ attribute ∷ value ∷ []

-- an empty attribute only declares the user, as often as it stands
declared_twice : users_from (users_header ∷ user (codes "ann") [] [] ∷ user (codes "ann") [] (codes "x") ∷ [])
    ≡ Ok (record { rows = (codes "ann", [], []) ∷ (codes "ann", [], codes "x") ∷ [] })
unfolding is_utf8 chars lib.Utf8.encode
declared_twice = refl

-- an attribute stands twice also where its value is empty
attribute_twice : users_from (users_header ∷ user (codes "ann") (codes "a") [] ∷ user (codes "bob") (codes "a") [] ∷ user (codes "ann") (codes "a") (codes "x") ∷ [])
    ≡ Err (Fault (row_line (codes "U2") (codes "users.csv") 3 (codes "ann") (codes "a")))
unfolding is_utf8 chars lib.Utf8.encode
attribute_twice = refl

-- an empty user further down goes before it
shape_before_attribute : users_from (users_header ∷ user (codes "ann") (codes "a") [] ∷ user (codes "ann") (codes "a") [] ∷ user [] [] [] ∷ [])
    ≡ Err (Fault (row_line (codes "U1") (codes "users.csv") 3 [] []))
unfolding is_utf8 chars lib.Utf8.encode
shape_before_attribute = refl

abbrev some_users : Users
some_users = record {
  rows = (codes "ann", codes "a", codes "x")
      ∷ (codes "bob", codes "a", []) ∷ (codes "bob", [], codes "y") ∷ [];
}

there : has_user some_users (codes "bob") ≡ true
there = refl

not_there : has_user some_users (codes "a") ≡ false
not_there = refl

given : attribute_of some_users (codes "ann") (codes "a") ≡ Some (codes "x")
given = refl

empty_value : attribute_of some_users (codes "bob") (codes "a") ≡ None
empty_value = refl

empty_attribute : attribute_of some_users (codes "bob") [] ≡ None
empty_attribute = refl
