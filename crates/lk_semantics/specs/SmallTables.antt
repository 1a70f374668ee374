-- Two tables of one column on which the four kinds of join are computed, and a derived table of the shop.
use Rattle.std.specs.Prelude.{ℕ, List, [], ◌∷◌, Option, Some, None, codes}
use Rattle.lk_val.specs.declared.value.Value.{Value}
use Rattle.lk_types.specs.Formula.{Column}
use Rattle.lk_types.specs.declared.rows.Sources.{Sources}
use Rattle.lk_semantics.specs.Derived.{sources_of}
use Rattle.lk_semantics.specs.Shop.{users, orders, items, orders_explore, keyed_part, equals, plain, measure}
use Rattle.lk_types.specs.Samples.{units}
use Rattle.lk_types.specs.declared.rows.Joined.{Joined}
use Rattle.lk_types.specs.declared.schema.Kind.TheVariants as kind
use Rattle.lk_types.specs.declared.explore.Explore.{Explore}
use Rattle.lk_types.specs.declared.explore.JoinKind.{JoinKind}
use Rattle.lk_types.specs.declared.explore.JoinKind.TheVariants.{Left}
use Rattle.lk_types.specs.declared.explore.Relation.TheVariants.{ManyToMany, OneToMany}
use Rattle.lk_types.specs.declared.explore.Origin.TheVariants as origin
use Rattle.lk_types.specs.declared.explore.Op.TheVariants as op
use Rattle.lk_types.specs.declared.model.Derived.{Derived}
use Rattle.lk_types.specs.declared.model.Model.{Model}
use Rattle.lk_types.specs.declared.model.Pick.TheVariants.{Dim, Mea}

-- ---- two tables: `a` has the ids 1 and 2, and `b` has the ids 2 and 3

abbrev pub one : ℕ → List Value
one n = units n ∷ []

abbrev pub two_tables : Sources
two_tables = record { stored = (one 1 ∷ one 2 ∷ []) ∷ (one 2 ∷ one 3 ∷ []) ∷ []; derived = [] }

-- joined on equal ids
abbrev pub joined_as : JoinKind → Explore
joined_as kind = record orders_explore {
  parts = keyed_part (codes "a") 0 0 ∷ keyed_part (codes "b") 1 1 ∷ [];
  joins = record { kind = kind; relation = ManyToMany; on = Some (equals (Column 0 0) (Column 1 0)); required = [] } ∷ [];
}

abbrev pub both : Option (List Value) → Option (List Value) → Joined
both a b = record { parts = a ∷ b ∷ [] }

-- ---- a derived table: the totals by region, with an explore over it, and one that joins the users of each region

abbrev pub by_region : Derived
by_region = record { name = codes "by_region"; explore = 0; columns = (codes "region", Dim 7) ∷ (codes "total", Mea 1) ∷ []; filters = []; datagroup = Some 0 }

abbrev pub regions_explore : Explore
regions_explore = record orders_explore {
  name = codes "by_region";
  parts = record { name = codes "by_region"; origin = origin.Derived 0; key = None; enforced = None } ∷ [];
  joins = [];
  fields = plain (codes "by_region.region") 0 kind.Text 0 ∷ [];
  measures = measure (codes "by_region.sum_total") 0 op.Sum (Some (Column 0 1)) ∷ [];
  access = [];
  rollups = [];
}

abbrev pub regions_and_users : Explore
regions_and_users = record regions_explore {
  parts = record { name = codes "by_region"; origin = origin.Derived 0; key = None; enforced = None } ∷ keyed_part (codes "users") 0 1 ∷ [];
  joins = record { kind = Left; relation = OneToMany; on = Some (equals (Column 1 1) (Column 0 0)); required = [] } ∷ [];
  fields = plain (codes "by_region.region") 0 kind.Text 0 ∷ plain (codes "users.id") 1 kind.Number 0 ∷ [];
}

abbrev pub regions_model : Model
regions_model = record { schema = record { tables = [] }; explores = orders_explore ∷ regions_explore ∷ []; derived = by_region ∷ []; datagroups = [] }

abbrev pub regions_shop : Sources
regions_shop = sources_of regions_model (record { tables = users ∷ orders ∷ items ∷ [] })
