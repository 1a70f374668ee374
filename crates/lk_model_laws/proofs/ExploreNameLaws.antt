-- The names of the views of an explore, where these are their own in the model.
use Rattle.std.proofs.Common.{◌≡◌, ℕ, Bool, true, false, List, [], ◌∷◌, map, subst, Some}
use Rattle.std.specs.Prelude.{not, slice_get}
use Rattle.std.specs.List.{AllByRecursion, list_all, list_any}
use Rattle.lk_types.specs.declared.explore.Part.{Part}
use Rattle.lk_types.specs.declared.schema.Schema.{Schema}
use Rattle.lk_objects.specs.declared.explore.DeclaredExplore.{DeclaredExplore}
use Rattle.lk_objects.specs.declared.view.Declared.{Declared}
use Rattle.lk_fields.specs.declared.scope.Scope.{Scope}
use Rattle.lk_fields.specs.declared.scope.ScopePart.{ScopePart}
use Rattle.lk_fields.specs.Scopes.{is_dot}
use Rattle.lk_formulas.specs.declared.columns.ColumnKinds.{ColumnKinds}
use Rattle.lk_scope.specs.Scopes.{scope_of}
use Rattle.lk_semantics.proofs.EveryLaws.{first, second}
use Rattle.lk_resolved.specs.Explores.{parts_from}
use Rattle.lk_model.specs.Models.{resolved}
use Rattle.lk_model.specs.ViewKinds.{columns_in}
use Rattle.lk_model.specs.declared.view_kinds.ViewKinds.{ViewKinds}
use Rattle.lk_model_laws.specs.Named.{are_distinct, has_own_names}
use Rattle.lk_model_laws.proofs.ListLaws.{all_at}
use Rattle.lk_model_laws.proofs.MadeNameLaws.{part_names, plain_parts}
use Rattle.lk_model_laws.proofs.OwnNameLaws.{AreApart, distinct_apart}

-- what passes a test where it is made
pub every_map : {A B : Type 0} (t : B → Bool) (f : A → B) (xs : List A) → list_all t (map f xs) ≡ true → AllByRecursion (λ x. t (f x) ≡ true) xs
every_map t f [] h = tt
every_map t f (x ∷ xs) h = (first (t (f x)) (list_all t (map f xs)) h, every_map t f xs (second (t (f x)) (list_all t (map f xs)) h))

module _ (schema : Schema) (declared : Declared) (kinds : ViewKinds) (x : DeclaredExplore) where
  abbrev scope : Scope
  scope = scope_of declared.views x

  abbrev columns : ColumnKinds
  columns = columns_in kinds scope

  abbrev parts : List Part
  parts = parts_from schema declared.views scope columns 0 scope.parts

  pub names_apart : has_own_names (resolved schema declared kinds x) ≡ true → AreApart (map (λ (part : ScopePart). part.name) scope.parts)
  unfolding resolved
  names_apart h =
      subst AreApart (part_names schema declared.views scope columns 0 scope.parts)
      (distinct_apart (map (λ (part : Part). part.name) parts) (first (are_distinct (map (λ (part : Part). part.name) parts)) (list_all (λ (part : Part). not (list_any is_dot part.name)) parts) h))

  pub names_plain : has_own_names (resolved schema declared kinds x) ≡ true → (k : ℕ) (part : ScopePart) → slice_get scope.parts k ≡ Some part → list_any is_dot part.name ≡ false
  unfolding resolved
  names_plain h =
      all_at (λ (part : ScopePart). list_any is_dot part.name ≡ false) scope.parts
      (plain_parts schema declared.views scope columns 0 scope.parts (second (are_distinct (map (λ (part : Part). part.name) parts)) (list_all (λ (part : Part). not (list_any is_dot part.name)) parts) h))
