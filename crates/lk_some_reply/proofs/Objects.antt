-- The effective objects of a project say something, given that texts do.
use Rattle.std.proofs.Common.{List, [], ◌∷◌, map, refl}
use Rattle.lk_types.specs.declared.schema.Schema.{Schema}
use Rattle.lk_params.specs.Parameters.{items_of}
use Rattle.lk_merge.specs.declared.project.Merged.{Merged}
use Rattle.lk_merge.specs.declared.project.Object.{Object}
use Rattle.lk_view.specs.Views.{IsView}
use Rattle.lk_explore.specs.Explores.{IsExplore}
use Rattle.lk_resolve.specs.Objects.{AreExplores, AreViews, HasObjects, datagroup_read}
use Rattle.lk_complete_laws.specs.Holding.{HoldsOfSome}
use Rattle.lk_complete_laws.proofs.NotNot.{of_both, of_these, of_this}
use Rattle.lk_some_reply.proofs.Explores.{one_explore}
use Rattle.lk_some_reply.proofs.Parameters.{SomeCode, SomeFilters}
use Rattle.lk_some_reply.proofs.Views.{one_view}

module _ (some_code : SomeCode) (some_filters : SomeFilters) where
  some_views : (schema : Schema) (objects : List Object) → HoldsOfSome (AreViews schema objects)
  some_views schema [] = of_this {Holds = AreViews schema []} [] tt
  some_views schema (o ∷ objects) =
      of_both {One = IsView schema o.name (items_of o.tree)} {Other = AreViews schema objects} {Both = AreViews schema (o ∷ objects)}
      (one_view some_code some_filters schema o.name (items_of o.tree)) (some_views schema objects) (λ v vs. v ∷ vs) (λ v vs is are. (is, are))

  some_explores : (objects : List Object) → HoldsOfSome (AreExplores objects)
  some_explores [] = of_this {Holds = AreExplores []} [] tt
  some_explores (o ∷ objects) =
      of_both {One = IsExplore o.name (items_of o.tree)} {Other = AreExplores objects} {Both = AreExplores (o ∷ objects)}
      (one_explore some_code some_filters o.name (items_of o.tree)) (some_explores objects) (λ x xs. x ∷ xs) (λ x xs is are. (is, are))

  pub some_objects : (schema : Schema) (merged : Merged) → HoldsOfSome (HasObjects schema merged)
  some_objects schema merged =
      of_these {Holds = AreViews schema merged.views} {Fits = HasObjects schema merged} (some_views schema merged.views) (λ views views_are.
      of_these {Holds = AreExplores merged.explores} {Fits = HasObjects schema merged} (some_explores merged.explores) (λ explores explores_are.
      of_this {Holds = HasObjects schema merged}
      (record { views = views; explores = explores; datagroups = map (datagroup_read schema) merged.datagroups })
      (record { views_are = views_are; explores_are = explores_are; datagroups_are = refl })))
