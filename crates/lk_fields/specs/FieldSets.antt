-- What is kept of the fields of a scope. (lookd)
use Rattle.std.specs.Prelude.{◌≡◌, List, map}
use Rattle.lk_objects.specs.declared.view.DeclaredView.{DeclaredView}
use Rattle.lk_fields.specs.declared.existing.FieldSet.{FieldSet}
use Rattle.lk_fields.specs.declared.rows.Rule.TheVariants.{Ends, Loses}
use Rattle.lk_fields.specs.declared.scope.Scope.{Scope}
use Rattle.lk_fields.specs.Existing.{all_places}
use Rattle.lk_fields.specs.Rows.{marks_of, row_at}

-- the set was made of these views in this scope
pub record IsSetOf (views : List DeclaredView) (scope : Scope) (set : FieldSet) : Type 0 where
  pub places_are : set.places ≡ all_places views scope
  pub rows_are : set.rows ≡ map (row_at Ends views scope (all_places views scope)) (all_places views scope)
  pub lost_are : set.lost ≡ marks_of Loses views scope
  pub ending_are : set.ending ≡ marks_of Ends views scope
