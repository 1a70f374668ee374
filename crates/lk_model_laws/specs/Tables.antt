-- Models whose derived tables take what the names of their columns' fields mean. (Looker, LookML reference: derived_table, explore_source)
use Rattle.std.specs.Prelude.{◌≡◌, ◌⊎◌, true, []}
use Rattle.std.specs.List.{AllByRecursion, list_all}
use Rattle.lk_types.specs.declared.model.Model.{Model}
use Rattle.lk_objects.specs.declared.view.Declared.{Declared}
use Rattle.lk_model_laws.specs.Named.{has_own_names}
use Rattle.lk_model_laws.specs.Typed.{has_code}

-- each field that is declared has the code that its type takes
abbrev pub HaveCodes : Declared → Type 0
HaveCodes declared = AllByRecursion (λ v. AllByRecursion (λ f. has_code f.sort f.sql ≡ true) v.fields) declared.views

-- there are no derived tables, or the views of each explore have names of their own and the fields have their codes
abbrev pub HavePlainTables : Model → Declared → Type 0
HavePlainTables model declared = (model.derived ≡ []) ⊎ ((list_all has_own_names model.explores ≡ true) × HaveCodes declared)
