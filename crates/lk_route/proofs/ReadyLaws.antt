-- What is found among the components that an aggregate table has.
use Rattle.std.proofs.Common.{◌≡◌, ℕ, Bool, true, false, ◌&&◌, ◌||◌, List, [], ◌∷◌, length, map, refl, sym, ap, ◌∙◌}
use Rattle.std.specs.Prelude.{nat_eq, nat_lt, slice_index_or}
use Rattle.std.specs.List.{list_all}
use Rattle.std.proofs.lemmas.Bool.{eqb-true}
use Rattle.std.proofs.lemmas.List.{get_or-map}
use Rattle.lk_types.specs.Expressions.{has_number}
use Rattle.lk_types.specs.declared.explore.Explore.{Explore}
use Rattle.lk_types.specs.declared.explore.Rollup.{Rollup}
use Rattle.lk_types.specs.declared.model.Model.{Model}
use Rattle.lk_semantics.specs.Answers.{components_of, measure_at}
use Rattle.lk_semantics.specs.Derived.{explore_at, no_explore}
use Rattle.lk_semantics.specs.Rollups.{no_rollup, regroups, rollup_at}
use Rattle.lk_route.specs.Ready.{does_regroup, is_known, measure_over, ready_component, ready_components, ready_measure, ready_rollup, ready_rollups}
use Rattle.lk_route.specs.declared.ready.Component.{Component}
use Rattle.lk_route.specs.declared.ready.ReadyRollup.{ReadyRollup}
use Rattle.lk_route.proofs.NumberLaws.{of_test}

module _ (x : Explore) (r : Rollup) where
  known_among : (ms : List ℕ) (m : ℕ) → is_known (map (ready_component x r) ms) m ≡ has_number m ms
  known_among [] m = refl
  known_among (k ∷ ms) m = ap (λ b. nat_eq m k || b) (known_among ms m)

  -- the one that is found is the measure itself
  or_itself : (m k : ℕ) (rest : Bool) → ((nat_eq m k && regroups x r (measure_at x k)) || (rest && regroups x r (measure_at x m))) ≡ ((nat_eq m k || rest) && regroups x r (measure_at x m))
  or_itself m k rest =
      elim (nat_eq m k) as (λ b. nat_eq m k ≡ b → ((b && regroups x r (measure_at x k)) || (rest && regroups x r (measure_at x m))) ≡ ((b || rest) && regroups x r (measure_at x m))) [
        | true ↦ λ same. ap (λ n. regroups x r (measure_at x n) || (rest && regroups x r (measure_at x m))) (sym (eqb-true m k same)) ∙ absorbed rest (regroups x r (measure_at x m))
        | false ↦ λ _. refl
      ] refl
    where
      absorbed : (a b : Bool) → (b || (a && b)) ≡ b
      absorbed a true = refl
      absorbed true false = refl
      absorbed false false = refl

  regroups_among : (ms : List ℕ) (m : ℕ) → does_regroup (map (ready_component x r) ms) m ≡ (has_number m ms && regroups x r (measure_at x m))
  regroups_among [] m = refl
  regroups_among (k ∷ ms) m =
      ap (λ b. (nat_eq m k && regroups x r (measure_at x k)) || b) (regroups_among ms m) ∙ or_itself m k (has_number m ms)

  -- what there is of a measure, from the components that the aggregate table has and those of the measure
  pub measure_found : (m : ℕ) (known : List Component) (components : List ℕ) → known ≡ ready_components x r → components ≡ components_of x (m ∷ [])
      → measure_over known components ≡ ready_measure x r m
  measure_found m known components own are =
      let ms = components_of x r.measures in
      (λ i. measure_over (own i) (are i))
      ∙ (λ i. record {
        is_had = list_all (λ c. known_among ms c i) (components_of x (m ∷ []));
        regroups = list_all (λ c. regroups_among ms c i) (components_of x (m ∷ []));
      })

-- what is found by an explore's number and an aggregate table's
pub ready_at : (m : Model) (e n : ℕ) (rollups : List (List ReadyRollup)) (of_explore own : List ReadyRollup) (found : ReadyRollup) → rollups ≡ map ready_rollups m.explores
    → nat_lt e (length m.explores) ≡ true → nat_lt n (length (explore_at m e).rollups) ≡ true
    → of_explore ≡ slice_index_or rollups e of_explore → own ≡ of_explore → found ≡ slice_index_or own n found
    → found ≡ ready_rollup (explore_at m e) (rollup_at (explore_at m e) n)
ready_at m e n rollups of_explore own found ready explore rollup is same at =
    let x = explore_at m e in
    let here = same ∙ is ∙ ap (λ all. slice_index_or all e of_explore) ready
    ∙ get_or-map ready_rollups m.explores e no_explore of_explore (of_test e (length m.explores) explore) in
    at ∙ ap (λ all. slice_index_or all n found) here
    ∙ get_or-map (ready_rollup x) x.rollups n no_rollup found (of_test n (length x.rollups) rollup)
