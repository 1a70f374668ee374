-- A name that two fields of a view make. (lookd)
use Rattle.std.specs.Prelude.{ℕ, List, [], ◌∷◌, map, Option, Some, None, if◌then◌else◌}
use Rattle.std.specs.List.{flat_map, list_any}
use Rattle.std.specs.Option.{option_map}
use Rattle.std.specs.Ordering.{is_lt, nat_cmp}
use Rattle.std.specs.Cmp.Lexicographic.{slice_cmp}
use Rattle.lk_val.specs.Texts.{is_same_text}
use Rattle.lk_val.specs.declared.fault.FaultLine.{FaultLine}
use Rattle.lk_types.specs.declared.schema.Frame.{Frame}
use Rattle.lk_objects.specs.declared.field.DeclaredField.{DeclaredField}
use Rattle.lk_objects.specs.declared.field.FieldSort.TheVariants as field_sort
use Rattle.lk_params.specs.declared.number.Number.TheVariants.{N1}
use Rattle.lk_params.specs.Findings.{named_line}
use Rattle.lk_fields.specs.Scopes.{made, made_with}

-- the names of some fields that a declaration makes
abbrev pub names_in : List (List ℕ × Option Frame) → List (List ℕ)
names_in fields = map (λ m. m.0) fields

-- the names that a declaration makes
abbrev pub names_of : DeclaredField → List (List ℕ)
names_of field = names_in (made field)

-- those of a dimension group
abbrev pub framed_names : List ℕ → List Frame → List (List ℕ)
framed_names group frames = names_in (made_with field_sort.Group group frames)

-- the names that all fields of a view make
abbrev pub names_made : List DeclaredField → List (List ℕ)
names_made fields = flat_map names_of fields

-- the lesser of a name and another, if there is one, by their bytes
abbrev pub lesser : List ℕ → Option (List ℕ) → List ℕ
lesser name None = name
lesser name (Some other) = if is_lt (slice_cmp nat_cmp other name) then other else name

-- the least of the names that stand more than once
abbrev pub least_twice : List (List ℕ) → Option (List ℕ)
least_twice [] = None
least_twice (name ∷ names) = if list_any (λ other. is_same_text other name) names then Some (lesser name (least_twice names)) else least_twice names

-- the fault of a view of which two fields make one name
abbrev pub twice_line : List ℕ → List DeclaredField → Option FaultLine
twice_line view fields = option_map (named_line N1 view) (least_twice (names_made fields))
