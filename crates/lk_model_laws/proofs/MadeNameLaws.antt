-- The names that the fields of views make, and those of the views of an explore.
use Rattle.std.proofs.Common.{◌≡◌, ℕ, suc, ◌+◌, Bool, true, false, List, [], ◌∷◌, map, refl, ap, sym, subst, Option, Some, None, arith}
use Rattle.std.specs.Prelude.{not, slice_get}
use Rattle.std.specs.List.{AllByRecursion, list_all, list_any}
use Rattle.std.specs.Option.{option_and_then}
use Rattle.lk_types.specs.declared.explore.Part.{Part}
use Rattle.lk_types.specs.declared.schema.Schema.{Schema}
use Rattle.lk_params.specs.Findings.{named_line}
use Rattle.lk_params.specs.declared.number.Number.TheVariants.{N1}
use Rattle.lk_objects.specs.declared.view.Declared.{Declared}
use Rattle.lk_objects.specs.declared.view.DeclaredView.{DeclaredView}
use Rattle.lk_fields.specs.declared.scope.Scope.{Scope}
use Rattle.lk_fields.specs.declared.scope.ScopePart.{ScopePart}
use Rattle.lk_fields.specs.Existing.{all_places, fields_at, fields_with}
use Rattle.lk_fields.specs.Scopes.{is_dot}
use Rattle.lk_formulas.specs.declared.columns.ColumnKinds.{ColumnKinds}
use Rattle.lk_scope.specs.Pieces.{first_at}
use Rattle.lk_scope.specs.Scopes.{alone, part_name}
use Rattle.lk_field_faults.specs.FieldFaults.{field_line}
use Rattle.lk_field_faults.specs.MadeNames.{least_twice, names_made, twice_line}
use Rattle.lk_explore_faults.specs.ViewFaults.{view_fault}
use Rattle.lk_semantics.proofs.EveryLaws.{first, second}
use Rattle.lk_resolved.specs.Explores.{parts_from}
use Rattle.lk_model.specs.Faults.{fields_line_in}
use Rattle.lk_model.specs.ViewKinds.{columns_in}
use Rattle.lk_model.specs.declared.view_kinds.ViewKinds.{ViewKinds}
use Rattle.lk_model_laws.proofs.FaultlessLaws.{IsClearProject}
use Rattle.lk_model_laws.proofs.ListLaws.{all_at}
use Rattle.lk_model_laws.proofs.OwnNameLaws.{AreApart, once_apart}
use Rattle.lk_model_laws.proofs.PieceLaws.{EachFrom, none_left, none_map, some_none}

-- ---- a view without a fault makes no name twice

module _ (schema : Schema) (declared : Declared) (kinds : ViewKinds) where
  view_once : (n : ℕ) (v : DeclaredView) → slice_get declared.views n ≡ Some v → fields_line_in schema declared kinds (alone n v) ≡ None → AreApart (names_made v.fields)
  view_once n v at h =
      let scope = alone n v in
      let columns = columns_in kinds scope in
      once_apart (names_made v.fields)
      (subst (λ o. least_twice (names_made (fields_with o)) ≡ None) at
      (none_map (named_line N1 (part_name scope 0)) (least_twice (names_made (fields_at declared.views scope 0)))
      (none_left (twice_line (part_name scope 0) (fields_at declared.views scope 0)) (first_at (field_line schema declared.views scope columns) (all_places declared.views scope)) h)))

  views_once : (n : ℕ) (vs : List DeclaredView) → ((j : ℕ) (v : DeclaredView) → slice_get vs j ≡ Some v → slice_get declared.views (n + j) ≡ Some v)
      → EachFrom (λ k view. (view_fault declared view ≡ None) × (fields_line_in schema declared kinds (alone k view) ≡ None)) n vs → AllByRecursion (λ v. AreApart (names_made v.fields)) vs
  views_once n [] h lines = tt
  views_once n (v ∷ vs) h lines = (
    view_once n v (subst (λ m. slice_get declared.views m ≡ Some v) (omega arith) (h 0 v refl)) lines.0.1,
    views_once (n + 1) vs (λ j w at. subst (λ m. slice_get declared.views m ≡ Some w) (omega arith) (h (suc j) w at)) lines.1,
  )

  pub all_once : IsClearProject schema declared kinds → AllByRecursion (λ v. AreApart (names_made v.fields)) declared.views
  all_once clear_project = views_once 0 declared.views (λ j v at. subst (λ m. slice_get declared.views m ≡ Some v) (omega arith) at) clear_project.views

module _ (views : List DeclaredView) (each : AllByRecursion (λ v. AreApart (names_made v.fields)) views) where
  none_apart : AreApart []
  none_apart i j a at other = absurd (some_none (sym at))

  view_apart : (n : ℕ) (o : Option DeclaredView) → slice_get views n ≡ o → AreApart (names_made (fields_with o))
  view_apart n None at = none_apart
  view_apart n (Some v) at = all_at (λ (w : DeclaredView). AreApart (names_made w.fields)) views each n v at

  number_apart : (o : Option ℕ) → AreApart (names_made (fields_with (option_and_then (slice_get views) o)))
  number_apart None = none_apart
  number_apart (Some n) = view_apart n (slice_get views n) refl

  part_apart : (o : Option ScopePart) → AreApart (names_made (fields_with (option_and_then (λ part. option_and_then (slice_get views) part.view) o)))
  part_apart None = none_apart
  part_apart (Some part) = number_apart part.view

  -- nor does one in an explore
  pub parts_apart : (scope : Scope) (part : ℕ) → AreApart (names_made (fields_at views scope part))
  parts_apart scope part = part_apart (slice_get scope.parts part)

-- ---- the names of an explore's views

module _ (schema : Schema) (views : List DeclaredView) (scope : Scope) (columns : ColumnKinds) where
  pub part_names : (n : ℕ) (parts : List ScopePart) → map (λ (part : Part). part.name) (parts_from schema views scope columns n parts) ≡ map (λ (part : ScopePart). part.name) parts
  part_names n [] = refl
  part_names n (part ∷ parts) = ap (λ names. part.name ∷ names) (part_names (n + 1) parts)

  pub plain_parts : (n : ℕ) (parts : List ScopePart) → list_all (λ (part : Part). not (list_any is_dot part.name)) (parts_from schema views scope columns n parts) ≡ true
      → AllByRecursion (λ (part : ScopePart). list_any is_dot part.name ≡ false) parts
  plain_parts n [] h = tt
  plain_parts n (part ∷ parts) h = (
    none_so (list_any is_dot part.name) (first (not (list_any is_dot part.name)) (list_all (λ (p : Part). not (list_any is_dot p.name)) (parts_from schema views scope columns (n + 1) parts)) h),
    plain_parts (n + 1) parts (second (not (list_any is_dot part.name)) (list_all (λ (p : Part). not (list_any is_dot p.name)) (parts_from schema views scope columns (n + 1) parts)) h),
  )
    where
      none_so : (b : Bool) → not b ≡ true → b ≡ false
      none_so true h = sym h
      none_so false h = refl
