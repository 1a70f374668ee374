-- What is asked of a model's aggregate tables whenever a query is routed.
use Rattle.std.specs.Prelude.{◌≡◌, ℕ, ◌==◌, Bool, true, ◌&&◌, List, [], ◌∷◌, length, map, nat_lt}
use Rattle.std.specs.List.{list_all, list_any}
use Rattle.lk_types.specs.Expressions.{has_number}
use Rattle.lk_types.specs.declared.explore.Explore.{Explore}
use Rattle.lk_types.specs.declared.explore.Rollup.{Rollup}
use Rattle.lk_types.specs.declared.model.Model.{Model}
use Rattle.lk_semantics.specs.Answers.{components_of, measure_at}
use Rattle.lk_semantics.specs.Joins.{numbers_below}
use Rattle.lk_semantics.specs.Rollups.{keeps_rows, regroups, rollup_joins}
use Rattle.lk_fill.specs.Reached.{groups_reached}
use Rattle.lk_route.specs.declared.ready.Component.{Component}
use Rattle.lk_route.specs.declared.ready.ReadyJoin.{ReadyJoin}
use Rattle.lk_route.specs.declared.ready.ReadyMeasure.{ReadyMeasure}
use Rattle.lk_route.specs.declared.ready.ReadyRollup.{ReadyRollup}
use Rattle.lk_route.specs.declared.ready.Ready.{Ready}

-- a join, and whether it leaves the rows before it as they were
abbrev pub ready_join : Explore → ℕ → ReadyJoin
ready_join x j = record { join = j; keeps_rows = keeps_rows x j }

-- a component of an aggregate table's measures, and whether it may be put together from finer groups
abbrev pub ready_component : Explore → Rollup → ℕ → Component
ready_component x r m = record { measure = m; regroups = regroups x r (measure_at x m) }

abbrev pub ready_components : Explore → Rollup → List Component
ready_components x r = map (ready_component x r) (components_of x r.measures)

-- the aggregate table has the component
abbrev pub has_component : Explore → Rollup → ℕ → Bool
has_component x r m = has_number m (components_of x r.measures)

-- it has the component, which may be put together from finer groups
abbrev pub regroups_component : Explore → Rollup → ℕ → Bool
regroups_component x r m = has_component x r m && regroups x r (measure_at x m)

-- an aggregate table has all that a measure is put together from; and all of that may be put together from finer groups
abbrev pub ready_measure : Explore → Rollup → ℕ → ReadyMeasure
ready_measure x r m = record {
  is_had = list_all (has_component x r) (components_of x (m ∷ []));
  regroups = list_all (regroups_component x r) (components_of x (m ∷ []));
}

-- the joins of an aggregate table's query, and the measures of its explore
abbrev pub ready_rollup : Explore → Rollup → ReadyRollup
ready_rollup x r = record {
  joins = map (ready_join x) (rollup_joins x r);
  measures = map (ready_measure x r) (numbers_below (length x.measures));
}

-- the aggregate tables of an explore
abbrev pub ready_rollups : Explore → List ReadyRollup
ready_rollups x = map (ready_rollup x) x.rollups

-- and the datagroup to which reading each derived table comes first
abbrev pub ready_of : Model → Ready
ready_of m = record { rollups = map ready_rollups m.explores; groups = groups_reached m }

-- an aggregate table's number has 32 bits
abbrev pub has_few_rollups : Explore → Bool
has_few_rollups x = nat_lt (length x.rollups) 4294967296

-- it is that of the model, whose aggregate tables have their numbers
pub record IsReadyFor (m : Model) (ready : Ready) : Type 0 where
  pub is : ready ≡ ready_of m
  pub few : list_all has_few_rollups m.explores ≡ true

-- ---- how the program finds it: among the components that an aggregate table has

abbrev pub is_known : List Component → ℕ → Bool
is_known known m = list_any (λ c. m == c.measure) known

abbrev pub does_regroup : List Component → ℕ → Bool
does_regroup known m = list_any (λ c. (m == c.measure) && c.regroups) known

abbrev pub measure_over : List Component → List ℕ → ReadyMeasure
measure_over known components = record { is_had = list_all (is_known known) components; regroups = list_all (does_regroup known) components }
