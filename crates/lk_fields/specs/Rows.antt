-- What each field of a scope names, by numbers, and the rounds by which fields are lost.
use Rattle.std.specs.Prelude.{ℕ, zero, suc, ◌+◌, Bool, true, false, not, ◌||◌, ◌&&◌, List, [], ◌∷◌, ◌++◌, map, Option, Some, None, is_none, is_some, length, slice_index_or}
use Rattle.std.specs.Bool.{beq}
use Rattle.std.specs.Cmp.Lexicographic.{pointwise}
use Rattle.std.specs.List.{list_all, list_any, position}
use Rattle.std.specs.Option.{option_and_then}
use Rattle.lk_objects.specs.declared.field.DeclaredField.{DeclaredField}
use Rattle.lk_objects.specs.declared.view.DeclaredView.{DeclaredView}
use Rattle.lk_fields.specs.declared.scope.Found.{Found}
use Rattle.lk_fields.specs.declared.scope.Place.{Place}
use Rattle.lk_fields.specs.declared.scope.Scope.{Scope}
use Rattle.lk_fields.specs.declared.rows.Row.{Row}
use Rattle.lk_fields.specs.declared.rows.Rule.{Rule}
use Rattle.lk_fields.specs.declared.rows.Rule.TheVariants as rule
use Rattle.lk_fields.specs.Existing.{all_places, field_at, is_same_place, named_by, referred}

-- the number of a place among all places
abbrev pub number_of : List Place → Place → Option ℕ
number_of all place = position (is_same_place place) all

abbrev pub option_list : {A : Type 0} → Option A → List A
option_list None = []
option_list (Some x) = x ∷ []

-- the number of the field that a name means
abbrev pub number_named : List Place → Option Found → Option ℕ
number_named all name = option_and_then (λ f. number_of all f.place) name

-- the numbers of the fields that some names mean
abbrev pub numbers_in : List Place → List (Option Found) → List ℕ
numbers_in all [] = []
numbers_in all (name ∷ names) = option_list (number_named all name) ++ numbers_in all names

-- a name without which a field is lost, or that never ends: one that means no field, or one that is not among all
abbrev pub is_lacking : Rule → List Place → Option Found → Bool
is_lacking rule.Loses all name = is_none name
is_lacking rule.Ends all None = false
is_lacking rule.Ends all (Some f) = is_none (number_of all f.place)

-- what counts of a field: all that its text names, or what it refers to
abbrev pub names_of : Rule → List DeclaredView → Scope → ℕ → DeclaredField → List (Option Found)
names_of rule.Loses views scope part field = named_by views scope part field
names_of rule.Ends views scope part field = referred views scope part field

abbrev pub row_with : Rule → List Place → List (Option Found) → Row
row_with r all found = record { lacks = list_any (is_lacking r all) found; names = numbers_in all found }

-- a place without a field is lost, and refers to nothing
abbrev pub no_row : Rule → Row
no_row rule.Loses = record { lacks = true; names = [] }
no_row rule.Ends = record { lacks = false; names = [] }

abbrev pub row_by : Rule → List DeclaredView → Scope → List Place → ℕ → Option DeclaredField → Row
row_by r views scope all part None = no_row r
row_by r views scope all part (Some field) = row_with r all (names_of r views scope part field)

abbrev pub row_at : Rule → List DeclaredView → Scope → List Place → Place → Row
row_at r views scope all place = row_by r views scope all place.part (field_at views scope place)

-- ---- rounds over marks, one for each field

abbrev pub is_marked : List Bool → ℕ → Bool
is_marked marks n = slice_index_or marks n false

-- there is a number, and its field is not marked
abbrev pub is_unmarked : List Bool → Option ℕ → Bool
is_unmarked marks n = is_some n && not (list_any (is_marked marks) (option_list n))

-- a field that lacks a name or names a marked field; or one that lacks none, and of which all names are marked
abbrev pub is_taken : Rule → List Bool → Row → Bool
is_taken rule.Loses marks row = row.lacks || list_any (is_marked marks) row.names
is_taken rule.Ends marks row = not row.lacks && list_all (is_marked marks) row.names

-- the marks after one more round, from a number on
abbrev pub marks_from : Rule → List Bool → ℕ → List Row → List Bool
marks_from r marks n [] = []
marks_from r marks n (row ∷ rows) = (is_marked marks n || is_taken r marks row) ∷ marks_from r marks (n + 1) rows

abbrev pub next_marks : Rule → List Row → List Bool → List Bool
next_marks r rows marks = marks_from r marks 0 rows

-- no field is marked
abbrev pub no_marks : List Row → List Bool
no_marks rows = map (λ row. false) rows

abbrev pub marks_after : Rule → ℕ → List Row → List Bool
marks_after r zero rows = no_marks rows
marks_after r (suc n) rows = next_marks r rows (marks_after r n rows)

-- the marks of all fields of a scope, after as many rounds as there are fields
abbrev pub marks_of : Rule → List DeclaredView → Scope → List Bool
marks_of r views scope =
    let rows = map (row_at r views scope (all_places views scope)) (all_places views scope) in marks_after r (length rows) rows

-- the marks are the same, one by one
abbrev pub are_same : List Bool → List Bool → Bool
are_same = pointwise beq
