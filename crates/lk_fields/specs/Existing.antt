-- Which declared fields are fields of an explore, and which of them stand on cycles. (Looker, LookML reference: substitution operators; lookd)
use Rattle.std.specs.Prelude.{ℕ, ◌+◌, ◌==◌, Bool, true, not, ◌&&◌, List, [], ◌∷◌, ◌++◌, map, Option, Some, None, slice_get}
use Rattle.std.specs.List.{flat_map, list_all, list_any}
use Rattle.lk_val.specs.Least.{is_in, least_set}
use Rattle.lk_objects.specs.declared.code.Code.{Code}
use Rattle.lk_objects.specs.declared.code.Code.TheVariants as code
use Rattle.lk_objects.specs.declared.code.Reference.{Reference}
use Rattle.lk_objects.specs.declared.code.Reference.TheVariants as reference
use Rattle.lk_objects.specs.declared.field.DeclaredField.{DeclaredField}
use Rattle.lk_objects.specs.declared.filter_text.FilterText.{FilterText}
use Rattle.lk_objects.specs.declared.view.DeclaredView.{DeclaredView}
use Rattle.lk_fields.specs.declared.scope.Found.{Found}
use Rattle.lk_fields.specs.declared.scope.Place.{Place}
use Rattle.lk_fields.specs.declared.scope.Scope.{Scope}
use Rattle.lk_fields.specs.declared.scope.ScopePart.{ScopePart}
use Rattle.lk_fields.specs.declared.scope.Sort.{Sort}
use Rattle.lk_fields.specs.declared.scope.Sort.TheVariants as sort
use Rattle.lk_fields.specs.declared.scope.Writer.TheVariants as writer
use Rattle.lk_fields.specs.Scopes.{found_by, found_in, view_at}

-- ---- places

abbrev pub is_same_place : Place → Place → Bool
is_same_place a b = (a.part == b.part) && (a.field == b.field)

abbrev pub fields_with : Option DeclaredView → List DeclaredField
fields_with None = []
fields_with (Some view) = view.fields

-- the declared fields of a part
abbrev pub fields_at : List DeclaredView → Scope → ℕ → List DeclaredField
fields_at views scope part = fields_with (view_at views scope part)

-- the declared field at a place
abbrev pub field_at : List DeclaredView → Scope → Place → Option DeclaredField
field_at views scope place = slice_get (fields_at views scope place.part) place.field

-- the places of a part's fields, from one on
abbrev pub places_from : ℕ → ℕ → List DeclaredField → List Place
places_from part n [] = []
places_from part n (field ∷ fields) = record { part = part; field = n } ∷ places_from part (n + 1) fields

-- those of some parts, from one on
abbrev pub places_of_parts : List DeclaredView → Scope → ℕ → List ScopePart → List Place
places_of_parts views scope n [] = []
places_of_parts views scope n (part ∷ parts) =
    places_from n 0 (fields_at views scope n) ++ places_of_parts views scope (n + 1) parts

-- the places of all declared fields
abbrev pub all_places : List DeclaredView → Scope → List Place
all_places views scope = places_of_parts views scope 0 scope.parts

-- ---- what a field's text names

-- what a reference means in the text of a field of a part, where its place needs a field of this sort; a column is no field
abbrev pub meant : List DeclaredView → Scope → ℕ → Sort → Reference → List (Option Found)
meant views scope part s (reference.Own name) = found_in views scope (writer.Field part) None name s ∷ []
meant views scope part s (reference.Of view name) = found_in views scope (writer.Field part) (Some view) name s ∷ []
meant views scope part s (reference.Column name) = []

-- what code refers to: an expression to dimensions, that of a measure of type number to measures; one with an unknown call as
-- any other
abbrev pub meant_in : List DeclaredView → Scope → ℕ → Code → List (Option Found)
meant_in views scope part (code.Expr written) = flat_map (meant views scope part sort.Dimension) written.references
meant_in views scope part (code.Number written) = flat_map (meant views scope part sort.Measure) written.references
meant_in views scope part c = []

-- what the `sql` and the `sql_distinct_key` of a field refer to
abbrev pub referred : List DeclaredView → Scope → ℕ → DeclaredField → List (Option Found)
referred views scope part field = meant_in views scope part field.sql ++ meant_in views scope part field.key

-- the field that a measure's filter is on
abbrev pub filtered : List DeclaredView → Scope → ℕ → FilterText → Option Found
filtered views scope part filter = found_by views scope (writer.Field part) filter.name sort.Dimension

-- all that a field's text names
abbrev pub named_by : List DeclaredView → Scope → ℕ → DeclaredField → List (Option Found)
named_by views scope part field = referred views scope part field ++ map (filtered views scope part) field.filters

-- ---- which fields there are

-- a name that means no field, or one of those that are lost
abbrev pub is_lost_with : List Place → Option Found → Bool
is_lost_with lost None = true
is_lost_with lost (Some found) = is_in is_same_place found.place lost

abbrev pub loses : List DeclaredView → Scope → List Place → Place → Option DeclaredField → Bool
loses views scope lost place None = true
loses views scope lost place (Some field) = list_any (is_lost_with lost) (named_by views scope place.part field)

-- a field that loses one of its names
abbrev pub is_lost_after : List DeclaredView → Scope → List Place → Place → Bool
is_lost_after views scope lost place = loses views scope lost place (field_at views scope place)

-- the declared fields that are no fields of the explore: the least set that has each one that loses a name
abbrev pub lost : List DeclaredView → Scope → List Place
lost views scope = least_set is_same_place (all_places views scope) (is_lost_after views scope)

-- a declared field is one of the explore
abbrev pub exists : List DeclaredView → Scope → Place → Bool
exists views scope place = is_in is_same_place place (all_places views scope) && not (is_in is_same_place place (lost views scope))

-- ---- cycles

abbrev pub places_of : List (Option Found) → List Place
places_of [] = []
places_of (None ∷ more) = places_of more
places_of (Some found ∷ more) = found.place ∷ places_of more

abbrev pub targets_with : List DeclaredView → Scope → ℕ → Option DeclaredField → List Place
targets_with views scope part None = []
targets_with views scope part (Some field) = places_of (referred views scope part field)

-- the declared fields that a field refers to
abbrev pub targets : List DeclaredView → Scope → Place → List Place
targets views scope place = targets_with views scope place.part (field_at views scope place)

-- all that a field refers to is in the set
abbrev pub ends_after : List DeclaredView → Scope → List Place → Place → Bool
ends_after views scope set place = list_all (λ target. is_in is_same_place target set) (targets views scope place)

-- the fields whose references come to an end: the least set that has each one of which it has all targets
abbrev pub ending : List DeclaredView → Scope → List Place
ending views scope = least_set is_same_place (all_places views scope) (ends_after views scope)

-- the field stands on a cycle of references or reaches one: its references come to no end
abbrev pub reaches_cycle : List DeclaredView → Scope → Place → Bool
reaches_cycle views scope place = is_in is_same_place place (all_places views scope) && not (is_in is_same_place place (ending views scope))

-- a place is a target of a field, or of one of some
abbrev pub is_target_of : List DeclaredView → Scope → List Place → Place → Bool
is_target_of views scope fields place = list_any (λ from. is_in is_same_place place (targets views scope from)) fields

-- the declared fields that a field reaches by references: the least set
abbrev pub reached : List DeclaredView → Scope → Place → List Place
reached views scope place =
    least_set is_same_place (all_places views scope) (λ set other. is_target_of views scope (place ∷ set) other)

-- the field reaches itself
abbrev pub is_on_cycle : List DeclaredView → Scope → Place → Bool
is_on_cycle views scope place = is_in is_same_place place (reached views scope place)
