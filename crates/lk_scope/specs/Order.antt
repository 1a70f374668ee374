-- The fields of a scope by name. (lookd)
use Rattle.std.specs.Prelude.{ℕ, ◌+◌, Bool, List, [], ◌∷◌}
use Rattle.std.specs.Ordering.{is_lt, nat_cmp}
use Rattle.std.specs.Cmp.Lexicographic.{slice_cmp}
use Rattle.std.specs.List.{flat_map, fold, insert, position_or_len}
use Rattle.lk_objects.specs.declared.view.DeclaredView.{DeclaredView}
use Rattle.lk_fields.specs.declared.scope.Place.{Place}
use Rattle.lk_fields.specs.declared.scope.Scope.{Scope}
use Rattle.lk_fields.specs.declared.scope.ScopePart.{ScopePart}
use Rattle.lk_fields.specs.Existing.{fields_at, places_from}
use Rattle.lk_scope.specs.Scopes.{part_name}

-- the numbers of some parts, from one on
abbrev pub numbers_from : ℕ → List ScopePart → List ℕ
numbers_from n [] = []
numbers_from n (part ∷ parts) = n ∷ numbers_from (n + 1) parts

-- the first part's name stands before the second's, by its bytes
abbrev pub goes_before : Scope → ℕ → ℕ → Bool
goes_before scope a b = is_lt (slice_cmp nat_cmp (part_name scope a) (part_name scope b))

-- a part among parts in order: before the first that it goes before, and else at the end
abbrev pub put_in : Scope → List ℕ → ℕ → List ℕ
put_in scope parts part = insert parts (position_or_len (goes_before scope part) parts) part

-- the numbers of the parts, by their names; those of one name as they are declared
abbrev pub parts_by_name : Scope → List ℕ
parts_by_name scope = fold (put_in scope) [] (numbers_from 0 scope.parts)

abbrev pub places_in : List DeclaredView → Scope → ℕ → List Place
places_in views scope part = places_from part 0 (fields_at views scope part)

-- the places of all declared fields by the names of the parts and then by their own, as a view has its fields by name
abbrev pub places_by_name : List DeclaredView → Scope → List Place
places_by_name views scope = flat_map (places_in views scope) (parts_by_name scope)
