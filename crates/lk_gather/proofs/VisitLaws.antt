-- A visitor that was given no row before, after its visit.
use Rattle.std.proofs.Common.{◌≡◌, ◌∙◌, ℕ, ℤ, List, [], ap, length, refl, subst, sym, arith}
use Rattle.std.specs.Prelude.{Option, Some, None, Err}
use Rattle.lk_types.specs.declared.bound.Plan.{Plan}
use Rattle.lk_types.specs.declared.explore.Explore.{Explore}
use Rattle.lk_types.specs.declared.explore.Op.{Op}
use Rattle.lk_types.specs.declared.rows.Joined.{Joined}
use Rattle.lk_semantics.specs.Answers.{dims_of, ops_of, query_components}
use Rattle.lk_exec.specs.Visits.{IsOver, IsVisit, IsWithin}
use Rattle.lk_exec.specs.declared.visit.ExecFault.{ExecFault}
use Rattle.lk_exec.specs.declared.visit.ExecFault.TheVariants.{Many}
use Rattle.lk_agg.specs.Gathering.{HasTaken}
use Rattle.lk_agg.specs.declared.acc.Acc.{Acc}
use Rattle.lk_filter.specs.PlacedModel.{placed_explore}
use Rattle.lk_gather.specs.Gathers.{HasGathered}
use Rattle.lk_placed_laws.proofs.PlacedLaws.{ops_are as same_ops, query_components_are}

pub none_within : (most : Option ℕ) → IsWithin most []
none_within None = tt
none_within (Some n) = omega arith

-- an accumulator of the query's dimensions and components that was given no row
begun : (x : Explore) (plan : Plan) (acc : Acc) (dims : ℕ) (ops : List Op) → HasTaken acc dims ops []
    → dims ≡ length (dims_of plan.bound.picks) → ops ≡ ops_of x (query_components x plan.bound) → HasGathered x plan acc 0 []
begun x plan acc dims ops taken dims_are ops_are = record {
  taken = subst (λ d. HasTaken acc d (ops_of x (query_components x plan.bound)) []) dims_are (subst (λ o. HasTaken acc dims o []) ops_are taken);
  places = refl;
}

-- so it is at each moment, and of what is equal to the explore and the plan
pub begun_at : (now : ℤ) (x other : Explore) (plan made : Plan) (acc : Acc) (dims : ℕ) (ops : List Op) → HasTaken acc dims ops []
    → dims ≡ length (dims_of plan.bound.picks) → ops ≡ ops_of x (query_components x plan.bound) → other ≡ x → made ≡ plan → HasGathered (placed_explore now other) made acc 0 []
begun_at now x other plan made acc dims ops taken dims_are ops_are other_is made_is =
    let y = placed_explore now x in
    let ops_then : ops ≡ ops_of y (query_components y plan.bound) =
    ops_are ∙ sym (same_ops now x (query_components x plan.bound)) ∙ ap (ops_of y) (sym (query_components_are now x plan.bound)) in
    subst (λ p. HasGathered (placed_explore now other) p acc 0 []) (sym made_is)
    (subst (λ z. HasGathered (placed_explore now z) plan acc 0 []) (sym other_is) (begun y plan acc dims ops taken dims_are ops_then))

-- what holds of an explore and a plan at a moment holds of those that are equal to them
pub moved : (Holds : ℤ → Explore → Plan → Type 0) (at now : ℤ) (x y : Explore) (plan other : Plan) → at ≡ now → x ≡ y → plan ≡ other
    → Holds at x plan → Holds now y other
moved Holds at now x y plan other now_is x_is plan_is h =
    subst (λ n. Holds n y other) now_is (subst (λ p. Holds at y p) plan_is (subst (λ z. Holds at z plan) x_is h))

-- a visit that the cap ended
pub over : {V : Type 0} (has_seen : V → List Joined → Type 0) (most : Option ℕ) (rows : List Joined) (before after : V) (fault : ExecFault)
    → fault ≡ Many → IsVisit has_seen most [] rows before after (Err fault) → IsOver most rows
over has_seen most rows before after fault is h =
    let ended : IsVisit has_seen most [] rows before after (Err Many) = subst (λ f. IsVisit has_seen most [] rows before after (Err f)) is h in
    ended.0
