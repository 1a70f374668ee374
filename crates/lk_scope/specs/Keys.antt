-- The primary key of a part. (Looker, LookML reference: primary_key)
use Rattle.std.specs.Prelude.{ℕ, ◌+◌, List, [], ◌∷◌, Option, Some, None, if◌then◌else◌}
use Rattle.lk_objects.specs.declared.field.DeclaredField.{DeclaredField}
use Rattle.lk_objects.specs.declared.view.DeclaredView.{DeclaredView}
use Rattle.lk_fields.specs.declared.scope.Place.{Place}
use Rattle.lk_fields.specs.declared.scope.Scope.{Scope}
use Rattle.lk_fields.specs.Existing.{exists, fields_at}

-- the place of a field, where it is one of the explore
abbrev pub place_if_exists : List DeclaredView → Scope → Place → Option Place
place_if_exists views scope place = if exists views scope place then Some place else None

-- the first of some fields of a part, from a number on, that is marked as key, where it is a field of the explore
abbrev pub key_in : List DeclaredView → Scope → ℕ → ℕ → List DeclaredField → Option Place
key_in views scope part n [] = None
key_in views scope part n (field ∷ fields) =
    if field.is_key then place_if_exists views scope (record { part = part; field = n }) else key_in views scope part (n + 1) fields

-- the field that is a part's primary key; none where the key names what is not in the explore
abbrev pub key_of : List DeclaredView → Scope → ℕ → Option Place
key_of views scope part = key_in views scope part 0 (fields_at views scope part)
