-- The measures of which measures are made. (Looker, LookML reference: measure types, number; lookd)
use Rattle.std.specs.Prelude.{ℕ, zero, suc, Bool, true, false, List, [], ◌∷◌, ◌++◌, length, Option, Some, None, if◌then◌else◌}
use Rattle.std.specs.List.{flat_map, fold, list_any}
use Rattle.lk_val.specs.Least.{is_in}
use Rattle.lk_objects.specs.declared.code.Code.{Code}
use Rattle.lk_objects.specs.declared.code.Code.TheVariants as code
use Rattle.lk_objects.specs.declared.code.Reference.{Reference}
use Rattle.lk_objects.specs.declared.field.DeclaredField.{DeclaredField}
use Rattle.lk_objects.specs.declared.view.DeclaredView.{DeclaredView}
use Rattle.lk_fields.specs.declared.scope.Found.{Found}
use Rattle.lk_fields.specs.declared.scope.Place.{Place}
use Rattle.lk_fields.specs.declared.scope.Scope.{Scope}
use Rattle.lk_fields.specs.declared.scope.Sort.TheVariants as sort
use Rattle.lk_fields.specs.declared.scope.Writer.TheVariants as writer
use Rattle.lk_fields.specs.Existing.{all_places, field_at, is_same_place}
use Rattle.lk_formulas.specs.Formulas.{field_named}

-- a place behind others, unless it stands among them
abbrev pub put_behind : List Place → Place → List Place
put_behind places place = if is_in is_same_place place places then places else places ++ place ∷ []

-- the place of what was found
abbrev pub place_found : Option Found → List Place
place_found None = []
place_found (Some found) = found.place ∷ []

-- the expression of a measure of type number
abbrev pub is_over_measures : Code → Bool
is_over_measures (code.Number written) = true
is_over_measures c = false

module _ (views : List DeclaredView) (scope : Scope) where
  -- the measure that a reference names in the text of a measure of a part
  abbrev pub measure_meant : ℕ → Reference → List Place
  measure_meant part r = place_found (field_named views scope (writer.Field part) sort.Measure r)

  abbrev pub over_code : Place → Code → List Place
  over_code place (code.Number written) = flat_map (measure_meant place.part) written.references
  over_code place c = place ∷ []

  abbrev pub over_field : Place → Option DeclaredField → List Place
  over_field place None = place ∷ []
  over_field place (Some field) = over_code place field.sql

  -- the measures that a measure of type number is over, from left to right; any other measure stands for itself
  abbrev pub over : Place → List Place
  over place = over_field place (field_at views scope place)

  -- each measure of type number replaced by those that it is over, with first standings kept
  abbrev pub replaced : List Place → List Place
  replaced places = fold put_behind [] (flat_map over places)

  abbrev pub is_field_over : Option DeclaredField → Bool
  is_field_over None = false
  is_field_over (Some field) = is_over_measures field.sql

  -- a measure of type number
  abbrev pub is_over_at : Place → Bool
  is_over_at place = is_field_over (field_at views scope place)

  -- again as long as one is left, at most so many times
  abbrev pub components_within : ℕ → List Place → List Place
  components_within zero places = places
  components_within (suc n) places = if list_any is_over_at places then components_within n (replaced places) else places

  -- the measures of which a measure is made, each once in the order of first standing; without a cycle no measure is over
  -- others through more than all fields
  abbrev pub components : Place → List Place
  components place = components_within (length (all_places views scope)) (place ∷ [])
