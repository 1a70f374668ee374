-- Names of an explore's fields in its own text: they mean fields of the explore, and without a view those of the base view. (Looker, LookML reference: explore; lookd)
use Rattle.std.specs.Prelude.{ℕ, List, Option, Some, None, if◌then◌else◌}
use Rattle.lk_objects.specs.declared.view.DeclaredView.{DeclaredView}
use Rattle.lk_fields.specs.declared.scope.Found.{Found}
use Rattle.lk_fields.specs.declared.scope.Scope.{Scope}
use Rattle.lk_fields.specs.declared.scope.Sort.TheVariants as sort
use Rattle.lk_fields.specs.declared.scope.Writer.TheVariants as writer
use Rattle.lk_fields.specs.Existing.{exists}
use Rattle.lk_fields.specs.Scopes.{found_by, split_name}
use Rattle.lk_scope.specs.Scopes.{full_name, part_name}

-- a declared field, where it is one of the explore
abbrev pub if_exists : List DeclaredView → Scope → Option Found → Option Found
if_exists views scope None = None
if_exists views scope (Some found) = if exists views scope found.place then Some found else None

-- the dimension of the explore that a whole name means
abbrev pub dimension_named : List DeclaredView → Scope → List ℕ → Option Found
dimension_named views scope name = if_exists views scope (found_by views scope writer.Explore name sort.Dimension)

-- the measure of the explore that a whole name means
abbrev pub measure_named : List DeclaredView → Scope → List ℕ → Option Found
measure_named views scope name = if_exists views scope (found_by views scope writer.Explore name sort.Measure)

-- the name `part.field` of what a whole name means
abbrev pub full_name_of : Scope → Found → List ℕ → List ℕ
full_name_of scope found name = full_name (part_name scope found.place.part) ((split_name name).1)
