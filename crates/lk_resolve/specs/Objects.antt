-- What the effective objects of a project say. (Looker, LookML reference: view, explore, datagroup)
use Rattle.std.specs.Prelude.{◌≡◌, List, [], ◌∷◌, map}
use Rattle.lk_types.specs.declared.schema.Schema.{Schema}
use Rattle.lk_params.specs.Parameters.{items_of}
use Rattle.lk_merge.specs.declared.project.Merged.{Merged}
use Rattle.lk_merge.specs.declared.project.Object.{Object}
use Rattle.lk_objects.specs.declared.datagroup.DeclaredDatagroup.{DeclaredDatagroup}
use Rattle.lk_objects.specs.declared.explore.DeclaredExplore.{DeclaredExplore}
use Rattle.lk_objects.specs.declared.view.Declared.{Declared}
use Rattle.lk_objects.specs.declared.view.DeclaredView.{DeclaredView}
use Rattle.lk_view.specs.Views.{IsView}
use Rattle.lk_datagroup.specs.Datagroups.{datagroup_of}
use Rattle.lk_explore.specs.Explores.{IsExplore}

-- each view is what its object says
abbrev pub AreViews : Schema → List Object → List DeclaredView → Type 0
AreViews schema [] [] = Unit {0}
AreViews schema (o ∷ os) (view ∷ views) = IsView schema o.name (items_of o.tree) view × AreViews schema os views
AreViews schema objects views = ⊥

-- each explore is what its object says
abbrev pub AreExplores : List Object → List DeclaredExplore → Type 0
AreExplores [] [] = Unit {0}
AreExplores (o ∷ os) (x ∷ xs) = IsExplore o.name (items_of o.tree) x × AreExplores os xs
AreExplores objects explores = ⊥

abbrev pub datagroup_read : Schema → Object → DeclaredDatagroup
datagroup_read schema o = datagroup_of schema o.name (items_of o.tree)

-- the views, explores and datagroups are what the effective objects say
pub record HasObjects (schema : Schema) (merged : Merged) (declared : Declared) : Type 0 where
  pub views_are : AreViews schema merged.views declared.views
  pub explores_are : AreExplores merged.explores declared.explores
  pub datagroups_are : declared.datagroups ≡ map (datagroup_read schema) merged.datagroups
