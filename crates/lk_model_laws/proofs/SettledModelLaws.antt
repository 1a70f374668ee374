-- In a project without a fault the kinds of the columns of each view are known, and they are those of the model.
use Rattle.std.proofs.Common.{◌≡◌, ℕ, suc, true, List, [], ◌∷◌, length, refl, sym, subst, ⊎_elim, Some, None}
use Rattle.std.specs.Prelude.{flat_map, not, slice_get}
use Rattle.std.specs.List.{AllByRecursion, list_all}
use Rattle.lk_types.specs.declared.model.Model.{Model}
use Rattle.lk_types.specs.declared.schema.Schema.{Schema}
use Rattle.lk_merge.specs.declared.project.Merged.{Merged}
use Rattle.lk_objects.specs.declared.explore.DeclaredExplore.{DeclaredExplore}
use Rattle.lk_objects.specs.declared.view.Declared.{Declared}
use Rattle.lk_objects.specs.declared.view.DeclaredView.{DeclaredView}
use Rattle.lk_objects.specs.declared.view.Rows.{Rows}
use Rattle.lk_objects.specs.declared.view.Rows.TheVariants as rows
use Rattle.lk_fields.specs.declared.scope.ScopePart.{ScopePart}
use Rattle.lk_scope.specs.Scopes.{alone, scope_of}
use Rattle.lk_semantics.specs.Joins.{numbers_below}
use Rattle.lk_semantics.specs.Reading.{reads_itself}
use Rattle.lk_model.specs.Faults.{fields_line_in}
use Rattle.lk_model.specs.Models.{derived_of, derived_with, model_of, resolved}
use Rattle.lk_model.specs.ViewKinds.{kinds_of}
use Rattle.lk_model.specs.declared.view_kinds.ViewKinds.{ViewKinds}
use Rattle.lk_resolve.specs.Objects.{HasObjects}
use Rattle.lk_resolve.specs.Resolving.{first_fault}
use Rattle.lk_model_laws.specs.Named.{has_own_names}
use Rattle.lk_model_laws.specs.Tables.{HavePlainTables}
use Rattle.lk_model_laws.proofs.ColumnLaws.{columns_have}
use Rattle.lk_model_laws.proofs.ExploreNameLaws.{every_map, names_apart, names_plain}
use Rattle.lk_model_laws.proofs.ExploreObjectLaws.{IsRightExplore, right_explores}
use Rattle.lk_model_laws.proofs.FaultlessLaws.{IsClear, IsClearProject}
use Rattle.lk_model_laws.proofs.FixedModelLaws.{IsFixedRows, views_fixed}
use Rattle.lk_model_laws.proofs.KnownKindLaws.{IsSettled, IsSettledPart, IsStored, stored_settled}
use Rattle.lk_model_laws.proofs.KnownTypeLaws.{shown_codes, typed_views}
use Rattle.lk_model_laws.proofs.ListLaws.{all_at, all_more, all_with}
use Rattle.lk_model_laws.proofs.MadeNameLaws.{all_once}
use Rattle.lk_model_laws.proofs.ModelLaws.{clear, known_parts, views_right}
use Rattle.lk_model_laws.proofs.PartLaws.{AreKnownRows, IsKnownPart}
use Rattle.lk_model_laws.proofs.PieceLaws.{nil_left, nil_right}
use Rattle.lk_model_laws.proofs.SettledLaws.{IsSource, rows_stored, view_settled}
use Rattle.lk_model_laws.proofs.StoredLaws.{follows-acyclic}
use Rattle.lk_model_laws.proofs.TierLaws.{fields_fine}
use Rattle.lk_model_laws.proofs.ViewObjectLaws.{IsRightView, nil_no}

-- ---- without derived tables each view is stored

module _ (schema : Schema) (declared : Declared) where
  view_stored : (v : DeclaredView) (from : Rows) → v.rows ≡ from → AreKnownRows schema v.rows → derived_with declared v.name from ≡ [] → IsStored schema v.rows
  view_stored v (rows.Stored number) is known none = subst (IsStored schema) (sym is) (rows_stored schema number (subst (AreKnownRows schema) is known))
  view_stored v (rows.Derived table) is known none = absurd (nil_no _ [] none)

  views_stored : (views : List DeclaredView) → AllByRecursion (IsRightView schema declared) views → flat_map (derived_of declared) views ≡ [] → AllByRecursion (λ v. IsStored schema v.rows) views
  views_stored [] right none = tt
  views_stored (v ∷ views) right none = (
    view_stored v v.rows refl right.0.known (nil_left (derived_of declared v) (flat_map (derived_of declared) views) none),
    views_stored views right.1 (nil_right (derived_of declared v) (flat_map (derived_of declared) views) none),
  )

-- ---- a project

module _ (schema : Schema) (merged : Merged) (declared : Declared) (objects : HasObjects schema merged declared) (none : first_fault schema merged declared ≡ None) where
  abbrev kinds : ViewKinds
  kinds = kinds_of schema declared

  abbrev given : Model
  given = model_of schema declared kinds

  project : IsClearProject schema declared kinds
  project = clear schema merged declared objects none

  right : AllByRecursion (IsRightView schema declared) declared.views
  right = views_right schema merged declared objects none

  fixed : AllByRecursion (λ v. IsFixedRows schema declared kinds v.name v.rows) declared.views
  fixed = views_fixed schema declared kinds (λ k v. fields_line_in schema declared kinds (alone k v) ≡ None) 0 merged.views declared.views objects.views_are project.views right

  abbrev IsRightSource : DeclaredExplore → Type 0
  IsRightSource x = IsClear schema declared kinds x × IsRightExplore declared.datagroups x

  right_sources : AllByRecursion IsRightSource declared.explores
  right_sources =
      all_with (IsClear schema declared kinds) (IsRightExplore declared.datagroups) declared.explores project.explores (right_explores schema declared kinds merged.explores declared.explores objects.explores_are project.explores)

  parts_there : (x : DeclaredExplore) → IsRightSource x → (k : ℕ) (part : ScopePart) → slice_get (scope_of declared.views x).parts k ≡ Some part → IsKnownPart schema declared.views part
  parts_there x is = known_parts schema declared kinds right x is.0 is.1

  sources : list_all has_own_names given.explores ≡ true → AllByRecursion (IsSource schema declared) declared.explores
  sources own =
      all_more (λ x. IsRightSource x × (has_own_names (resolved schema declared kinds x) ≡ true)) (IsSource schema declared)
      (λ x is. record { clear = is.0.0; parts = parts_there x is.0; apart = names_apart schema declared kinds x is.1; plain = names_plain schema declared kinds x is.1 }) declared.explores
      (all_with IsRightSource (λ x. has_own_names (resolved schema declared kinds x) ≡ true) declared.explores right_sources (every_map has_own_names (resolved schema declared kinds) declared.explores own))

  acyclic : list_all (λ d. not (reads_itself given d)) (numbers_below (length given.derived)) ≡ true
  acyclic = follows-acyclic given project.stored

  -- each view, with derived tables and without
  pub settled : HavePlainTables given declared → (number : ℕ) (v : DeclaredView) → slice_get declared.views number ≡ Some v → IsSettled schema declared given (suc (length declared.views)) number
  settled tables number v at =
      ⊎_elim
      (λ stored. stored_settled schema declared given refl (length declared.views) number v at (all_at (λ (w : DeclaredView). IsStored schema w.rows) declared.views (views_stored schema declared declared.views right stored) number v at))
      (λ plain. view_settled schema declared right fixed (sources plain.0) (shown_codes schema merged.views declared.views objects.views_are) (columns_have schema declared kinds project) plain.1
      (typed_views schema merged.views declared.views objects.views_are (fields_fine schema declared kinds project)) (all_once schema declared kinds project) acyclic number v at) tables

  -- each part of an explore
  pub settled_part : HavePlainTables given declared → (x : DeclaredExplore) → IsRightSource x → (k : ℕ) (part : ScopePart) → slice_get (scope_of declared.views x).parts k ≡ Some part
      → IsSettledPart schema declared given (length declared.views) part
  settled_part tables x is k part at =
      let known = parts_there x is k part at in
      record {
        number = known.number;
        view = known.view;
        named = known.named;
        at = known.at;
        source = (all_at (IsRightView schema declared) declared.views right known.number known.view known.at).source;
        settled = settled tables known.number known.view known.at;
      }
