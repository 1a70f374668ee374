-- The shop is a resolved model.
use Rattle.std.proofs.Common.{ℕ, List, [], refl}
use Rattle.std.specs.List.{AllByRecursion}
use Rattle.lk_types.specs.declared.schema.Kind.{Kind}
use Rattle.lk_types.specs.declared.schema.Kind.TheVariants as kind
use Rattle.lk_types.specs.declared.schema.Frame.{Frame}
use Rattle.lk_types.specs.declared.schema.Frame.TheVariants as frame
use Rattle.lk_types.specs.declared.explore.Shape.TheVariants as shape
use Rattle.lk_types.specs.Kinds.{do_compare}
use Rattle.lk_semantics.specs.Shop.{shop_model, orders_explore, fields, plain, created}
use Rattle.lk_semantics.specs.Resolved.{IsResolved, IsResolvedExplore, AreOfOneGroup, HasGroupsOfOnePart}

-- a field that is no timeframe is in no group, and the three of an order's creation are in one
plain_alone : (name : List ℕ) (part : ℕ) (k : Kind) (column : ℕ) → AllByRecursion (AreOfOneGroup (plain name part k column)) fields
plain_alone name part k column = (tt, (tt, (tt, (tt, (tt, (tt, (tt, (tt, (tt, (tt, (tt, tt)))))))))))

created_together : (name : List ℕ) (f : Frame) → AllByRecursion (AreOfOneGroup (created name (shape.Frame 0 f))) fields
created_together name f = (tt, (tt, (tt, ((λ _. (refl, refl)), ((λ _. (refl, refl)), ((λ _. (refl, refl)), (tt, (tt, (tt, (tt, (tt, tt)))))))))))

shop_groups : HasGroupsOfOnePart orders_explore
shop_groups = (plain_alone [] 0 kind.Text 0, (plain_alone [] 0 kind.Text 0, (plain_alone [] 0 kind.Text 0, (created_together [] frame.Date, (created_together [] frame.Date, (created_together [] frame.Date, (plain_alone [] 0 kind.Text 0, (plain_alone [] 0 kind.Text 0, (plain_alone [] 0 kind.Text 0, (plain_alone [] 0 kind.Text 0, (plain_alone [] 0 kind.Text 0, tt)))))))))))

shop_explore : IsResolvedExplore shop_model orders_explore
unfolding do_compare
shop_explore = record { few_joins = refl; parts = refl; whole = refl; typed = refl; filters = refl; groups = shop_groups; keys = refl; grounded = refl; stored = refl; fixed = refl; one_datagroup = refl }

pub shop_resolved : IsResolved shop_model
shop_resolved = record { numbered = refl; explores = (shop_explore, tt); derived = tt; acyclic = refl }
