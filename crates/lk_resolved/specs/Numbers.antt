-- What is named in an explore, told once.
use Rattle.std.specs.Prelude.{◌≡◌, List}
use Rattle.lk_objects.specs.declared.view.DeclaredView.{DeclaredView}
use Rattle.lk_fields.specs.declared.scope.Scope.{Scope}
use Rattle.lk_resolved.specs.declared.names.Named.{Named}
use Rattle.lk_resolved.specs.Names.{dimensions, groups, measures}

-- the dimensions, measures and dimension groups are those of the scope
pub record AreNamed (views : List DeclaredView) (scope : Scope) (named : Named) : Type 0 where
  pub dimensions_are : named.dimensions ≡ dimensions views scope
  pub measures_are : named.measures ≡ measures views scope
  pub groups_are : named.groups ≡ groups views scope
