-- One more round in which measures of type number are replaced.
use Rattle.std.proofs.Common.{◌≡◌, ℕ, suc, true, List, refl}
use Rattle.std.specs.List.{list_any}
use Rattle.lk_objects.specs.declared.view.DeclaredView.{DeclaredView}
use Rattle.lk_fields.specs.declared.scope.Place.{Place}
use Rattle.lk_fields.specs.declared.scope.Scope.{Scope}
use Rattle.lk_scope.specs.Components.{components_within, is_over_at, replaced}

pub one_more : (views : List DeclaredView) (scope : Scope) (n : ℕ) (places : List Place)
    → list_any (is_over_at views scope) places ≡ true
    → components_within views scope n (replaced views scope places) ≡ components_within views scope (suc n) places
one_more views scope n places e = rw e refl
