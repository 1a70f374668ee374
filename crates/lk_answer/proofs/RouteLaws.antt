-- Where queries are routed: to an aggregate table that fits, to a build that keeps its tables, or to the current ones; and the snapshot of each.
use Rattle.std.proofs.Common.{◌≡◌, ◌⊎◌, ℕ, zero, suc, ◌<◌, ◌≤◌, Bool, true, false, ◌&&◌, List, [], ◌∷◌, length, refl, sym, ap, subst, ◌∙◌, inl, inr, arith}
use Rattle.std.specs.Prelude.{◌||◌, Option, None, Some, filter, flat_map, if◌then◌else◌, nat_eq, nat_le, nat_lt, slice_index, slice_index_or}
use Rattle.std.specs.List.{All, list_all, list_any}
use Rattle.std.proofs.lemmas.Bool.{eqb-true, false≢true, ltb-false}
use Rattle.std.proofs.lemmas.List.{get_or-map, get_or_past}
use Rattle.std.proofs.lemmas.List.Elements.{All-head, All-tail}
use Rattle.lk_types.specs.Tables.{are_valid_tables}
use Rattle.lk_types.specs.declared.answer.RouteFrom.TheVariants as from
use Rattle.lk_types.specs.declared.bound.Bound.{Bound}
use Rattle.lk_types.specs.declared.explore.Explore.{Explore}
use Rattle.lk_types.specs.declared.explore.Origin.{Origin}
use Rattle.lk_types.specs.declared.explore.Origin.TheVariants as origin
use Rattle.lk_types.specs.declared.model.Derived.{Derived}
use Rattle.lk_types.specs.declared.model.Model.{Model}
use Rattle.lk_semantics.specs.Derived.{derived_query, explore_at, no_explore}
use Rattle.lk_semantics.specs.Joins.{numbers_below}
use Rattle.lk_semantics.specs.Resolved.{IsResolved, is_none_or_below}
use Rattle.lk_semantics.specs.Rollups.{best_rollup, better, datagroups_from, derived_at, fits, fitting, no_derived, or_within, origins_of, reached_by, reached_datagroups, rollup_at, route_of, route_or, route_to_build}
use Rattle.lk_semantics.proofs.EveryLaws.{Every, both, every-append, every-filter, first, second}
use Rattle.lk_semantics.proofs.JoinLaws.{numbers_equal}
use Rattle.lk_table.specs.Contents.{rows_of_each}
use Rattle.lk_trigger.specs.Builds.{build_at, no_build}
use Rattle.lk_trigger.specs.declared.build.Build.{Build}
use Rattle.lk_route.specs.Routes.{built_numbers}
use Rattle.lk_keeps.specs.Keeps.{Keeps, is_of, persists}
use Rattle.lk_keeps.proofs.AnewLaws.{derived_group, rollup_group}
use Rattle.lk_keeps.proofs.ListLaws.{at_below, is_there, of_test, passes_at}
use Rattle.lk_state.specs.States.{State}
use Rattle.lk_state.proofs.ContentLaws.{rows_valid}
use Rattle.lk_edition.specs.Histories.{IsState, Stands, is_built_at, numbered, states_of, tables_built}
use Rattle.lk_edition.specs.Standings.{Standing}
use Rattle.lk_answer.specs.Replies.{tables_at}
use Rattle.lk_answer.specs.Routes.{LeadsTo, routed}

-- ---- tests of lists

any_at : {A : Type 0} (t : A → Bool) (xs : List A) (i : ℕ) (none : A) → i < length xs → t (slice_index_or xs i none) ≡ true → list_any t xs ≡ true
any_at t [] i none less h = absurd (omega arith)
any_at t (x ∷ xs) zero none less h = ap (λ b. b || list_any t xs) h
any_at t (x ∷ xs) (suc i) none less h =
    elim (t x) as (λ b. (b || list_any t xs) ≡ true) [
      | true ↦ refl
      | false ↦ any_at t xs i none (omega arith) h
    ]

every_flat : {A B : Type 0} (t : B → Bool) (f : A → List B) → ((x : A) → Every t (f x)) → (xs : List A) → Every t (flat_map f xs)
every_flat t f each [] = refl
every_flat t f each (x ∷ xs) = every-append t (f x) (flat_map f xs) (each x) (every_flat t f each xs)

-- ---- of the aggregate tables that fit a query one is chosen

of_better : (x : Explore) (n : ℕ) (o : Option ℕ) (r : ℕ) → better x n o ≡ Some r → (n ≡ r) ⊎ (o ≡ Some r)
of_better x n None r is = inl (cc is)
of_better x n (Some k) r is =
    elim (nat_le (length (rollup_at x n).dims) (length (rollup_at x k).dims)) as (λ b. (if b then Some n else Some k) ≡ Some r → (n ≡ r) ⊎ (Some k ≡ Some r)) [
      | true ↦ λ here. inl (cc here)
      | false ↦ λ there. inr there
    ] is

passes_either : (t : ℕ → Bool) (x : Explore) (n : ℕ) (ns : List ℕ) (r : ℕ) → Every t (n ∷ ns) → (best_rollup x ns ≡ Some r → t r ≡ true)
    → (n ≡ r) ⊎ (best_rollup x ns ≡ Some r) → t r ≡ true
passes_either t x n ns r all later (inl same) = subst (λ k. t k ≡ true) same (first (t n) (list_all t ns) all)
passes_either t x n ns r all later (inr is) = later is

-- the best of some is one of them
best_passes : (t : ℕ → Bool) (x : Explore) (ns : List ℕ) (r : ℕ) → Every t ns → best_rollup x ns ≡ Some r → t r ≡ true
best_passes t x [] r all is = absurd (cc is)
best_passes t x (n ∷ ns) r all is =
    passes_either t x n ns r all (λ later. best_passes t x ns r (second (t n) (list_all t ns) all) later) (of_better x n (best_rollup x ns) r is)

filtered_pass : (t : ℕ → Bool) (ns : List ℕ) → Every t (filter t ns)
filtered_pass t [] = refl
filtered_pass t (n ∷ ns) =
    elim (t n) as (λ b. t n ≡ b → Every t (if b then n ∷ filter t ns else filter t ns)) [
      | true ↦ λ is. both (t n) (list_all t (filter t ns)) is (filtered_pass t ns)
      | false ↦ λ _. filtered_pass t ns
    ] refl

less_than : (n k : ℕ) → suc n ≤ k → nat_lt n k ≡ true
less_than n k h = grind (arith, h)

all_less : (n k : ℕ) → n ≤ k → Every (λ r. nat_lt r k) (numbers_below n)
all_less zero k h = refl
all_less (suc n) k h =
    every-append (λ r. nat_lt r k) (numbers_below n) (n ∷ []) (all_less n k (omega (arith, h))) (both (nat_lt n k) true (less_than n k h) refl)

-- so the one that is chosen is there, and it fits
pub chosen_fits : (x : Explore) (b : Bound) (r : ℕ) → (if b.fresh then None else best_rollup x (fitting x b)) ≡ Some r
    → (nat_lt r (length x.rollups) ≡ true) × (fits x (rollup_at x r) b ≡ true)
chosen_fits x b r is =
    let count = length x.rollups in
    let fit : ℕ → Bool = λ n. fits x (rollup_at x n) b in
    elim b.fresh as (λ f. (if f then None else best_rollup x (fitting x b)) ≡ Some r → (nat_lt r count ≡ true) × (fits x (rollup_at x r) b ≡ true)) [
      | true ↦ λ none. absurd (cc none)
      | false ↦ λ best. (
        best_passes (λ n. nat_lt n count) x (fitting x b) r (every-filter (λ n. nat_lt n count) fit (numbers_below count) (all_less count count (omega arith))) best,
        best_passes fit x (fitting x b) r (filtered_pass fit (numbers_below count)) best,
      )
    ] is

-- ---- the datagroups that a query reaches persist a derived table

module _ (m : Model) (resolved : IsResolved m) where
  abbrev pub is_persisting : ℕ → Bool
  is_persisting g = nat_lt g (length m.datagroups) && persists m g

  own_persists : (d g : ℕ) → d < length m.derived → (derived_at m d).datagroup ≡ Some g → is_persisting g ≡ true
  own_persists d g there own =
      both (nat_lt g (length m.datagroups)) (persists m g)
      (subst (λ o. is_none_or_below (length m.datagroups) o ≡ true) own (derived_group m resolved d there))
      (any_at (λ (t : Derived). is_of (g ∷ []) t.datagroup) m.derived d no_derived there (ap (is_of (g ∷ [])) own ∙ is_there g))

  some_there : (d g : ℕ) → (derived_at m d).datagroup ≡ Some g → d < length m.derived
  some_there d g own =
      elim (nat_lt d (length m.derived)) as (λ b. nat_lt d (length m.derived) ≡ b → d < length m.derived) [
        | true ↦ λ less. of_test d (length m.derived) less
        | false ↦ λ more.
            let none : no_derived.datagroup ≡ Some g = sym (ap (λ (t : Derived). t.datagroup) (get_or_past m.derived d no_derived (ltb-false d (length m.derived) more))) ∙ own in
            absurd (cc none)
      ] refl

  module _ (deeper : Derived → List ℕ) (deep : (t : Derived) → Every is_persisting (deeper t)) where
    within_persists : (d : ℕ) (own : Option ℕ) → (derived_at m d).datagroup ≡ own → Every is_persisting (or_within deeper (derived_at m d) own)
    within_persists d None is = deep (derived_at m d)
    within_persists d (Some g) is = both (is_persisting g) true (own_persists d g (some_there d g is) is) refl

    from_persists : (o : Origin) → Every is_persisting (datagroups_from m deeper o)
    from_persists (origin.Stored t) = refl
    from_persists (origin.Derived d) = within_persists d (derived_at m d).datagroup refl

  reached_persist : (n : ℕ) (t : Derived) → Every is_persisting (reached_by m n t)
  reached_persist zero t = refl
  reached_persist (suc n) t =
      every_flat is_persisting (datagroups_from m (reached_by m n)) (from_persists (reached_by m n) (reached_persist n))
      (origins_of (explore_at m t.explore) (derived_query (explore_at m t.explore) t).joins)

  pub all_persist : (e : ℕ) (joins : List ℕ) → Every is_persisting (reached_datagroups m (explore_at m e) joins)
  all_persist e joins =
      let n = length m.derived in
      every_flat is_persisting (datagroups_from m (reached_by m n)) (from_persists (reached_by m n) (reached_persist n)) (origins_of (explore_at m e) joins)

  -- a route that no aggregate table is found for
  leads_onward : (b : Bound) (builds : List ℕ) (now : ℕ) (gs : List ℕ) → Every is_persisting gs → LeadsTo m b (route_to_build builds now gs).from
  leads_onward b builds now [] all = tt
  leads_onward b builds now (g ∷ gs) all =
      let persisting = first (is_persisting g) (list_all is_persisting gs) all in
      (of_test g (length m.datagroups) (first (nat_lt g (length m.datagroups)) (persists m g) persisting), second (nat_lt g (length m.datagroups)) (persists m g) persisting)

  -- a route, where what is chosen leads
  leads_either : (b : Bound) (builds : List ℕ) (now : ℕ) (gs : List ℕ) → Every is_persisting gs → (chosen : Option ℕ) → ((r : ℕ) → chosen ≡ Some r → LeadsTo m b (from.Rollup r))
      → LeadsTo m b (route_or (explore_at m b.explore) builds chosen (route_to_build builds now gs)).from
  leads_either b builds now gs all None found = leads_onward b builds now gs all
  leads_either b builds now gs all (Some r) found = found r refl

  pub leads_to : (b : Bound) (builds : List ℕ) (now : ℕ) → LeadsTo m b (route_of m builds now b).from
  leads_to b builds now =
      let x = explore_at m b.explore in
      leads_either b builds now (reached_datagroups m x b.joins) (all_persist b.explore b.joins) (if b.fresh then None else best_rollup x (fitting x b)) (λ r is. chosen_fits x b r is)

-- ---- the snapshot of the route

-- an aggregate table of the model is built by one of its datagroups
pub rollup_within : (m : Model) → IsResolved m → (n r : ℕ) → nat_lt r (length (explore_at m n).rollups) ≡ true → (rollup_at (explore_at m n) r).datagroup < length m.datagroups
rollup_within m resolved n r there =
    elim (nat_lt n (length m.explores)) as (λ b. nat_lt n (length m.explores) ≡ b → (rollup_at (explore_at m n) r).datagroup < length m.datagroups) [
      | true ↦ λ less. rollup_group m resolved n r (of_test n (length m.explores) less) (of_test r (length (explore_at m n).rollups) there)
      | false ↦ λ more.
          let none : length (explore_at m n).rollups ≡ 0 = ap (λ (x : Explore). length x.rollups) (get_or_past m.explores n no_explore (ltb-false n (length m.explores) more)) in
          let less = of_test r (length (explore_at m n).rollups) there in
          absurd (omega (arith, none, less))
    ] refl

numbered_valid : (m : Model) (states : List State) (n : ℕ) → All (IsState m) states → list_any (λ (s : State). nat_eq s.number n) states ≡ true
    → are_valid_tables m.schema.tables (tables_at states n) ≡ true
numbered_valid m [] n all none = absurd (false≢true none)
numbered_valid m (s ∷ states) n all there =
    elim (nat_eq s.number n) as (λ b. (b || list_any (λ (t : State). nat_eq t.number n) states) ≡ true
    → are_valid_tables m.schema.tables (rows_of_each (if b then s else numbered states n).tables) ≡ true) [
      | true ↦ λ _. rows_valid m.schema.tables s.tables (All-head (IsState m) s states all).tables
      | false ↦ λ later. numbered_valid m states n (All-tail (IsState m) s states all) later
    ] there

module _ (e : Standing) (past : List State) (stands : Stands e past) where
  module _ (g : ℕ) (there : g < length e.model.datagroups) where
    within : g < length e.builds
    within = omega (arith, there, stands.each)

    number_is : slice_index (built_numbers e.builds) g ≡ (build_at e.builds g).number
    number_is = get_or-map (λ (build : Build). build.number) e.builds g no_build 0 within

    pub tables_are : tables_at (states_of e past) (slice_index (built_numbers e.builds) g) ≡ tables_built e past g
    tables_are = ap (tables_at (states_of e past)) number_is

    pub tables_valid : are_valid_tables e.model.schema.tables (tables_built e past g) ≡ true
    tables_valid =
        numbered_valid e.model (states_of e past) (build_at e.builds g).number stands.states
        (passes_at (is_built_at (states_of e past)) e.builds g no_build stands.built within)

  pub built_is : (g : ℕ) → is_persisting e.model stands.resolved g ≡ true → tables_at (states_of e past) (slice_index (built_numbers e.builds) g) ≡ slice_index_or e.keeps.tables g []
  built_is g persisting =
      let there : g < length e.model.datagroups = of_test g (length e.model.datagroups) (first (nat_lt g (length e.model.datagroups)) (persists e.model g) persisting) in
      let has : persists e.model g ≡ true = second (nat_lt g (length e.model.datagroups)) (persists e.model g) persisting in
      tables_are g there
      ∙ sym (ap (λ (k : Keeps). slice_index_or k.tables g []) stands.keeps
      ∙ at_below (λ n. if persists e.model n then tables_built e past n else []) (length e.model.datagroups) g [] there
      ∙ ap (λ b. if b then tables_built e past g else []) has)

  pub current_is : tables_at (states_of e past) e.state.number ≡ rows_of_each e.state.tables
  current_is = ap (λ b. rows_of_each (if b then e.state else numbered past e.state.number).tables) (numbers_equal.itself e.state.number)

-- each build of a history of one state is at it
module _ (e : Standing) (stands : Stands e []) where
  at_it : (build : Build) → is_built_at (e.state ∷ []) build ≡ true → build.number ≡ e.state.number
  at_it build h =
      elim (nat_eq e.state.number build.number) as (λ b. nat_eq e.state.number build.number ≡ b → (b || false) ≡ true → build.number ≡ e.state.number) [
        | true ↦ λ same _. sym (eqb-true e.state.number build.number same)
        | false ↦ λ _ none. absurd (false≢true none)
      ] refl h

  built_at_it : (g : ℕ) → g < length e.model.datagroups → slice_index (built_numbers e.builds) g ≡ e.state.number
  built_at_it g there =
      let within : g < length e.builds = omega (arith, there, stands.each) in
      get_or-map (λ (build : Build). build.number) e.builds g no_build 0 within
      ∙ at_it (build_at e.builds g) (passes_at (is_built_at (e.state ∷ [])) e.builds g no_build stands.built within)

  onward_named : (gs : List ℕ) → Every (is_persisting e.model stands.resolved) gs → (route_to_build (built_numbers e.builds) e.state.number gs).number ≡ e.state.number
  onward_named [] all = refl
  onward_named (g ∷ gs) all =
      let persisting = first (is_persisting e.model stands.resolved g) (list_all (is_persisting e.model stands.resolved) gs) all in
      built_at_it g (of_test g (length e.model.datagroups) (first (nat_lt g (length e.model.datagroups)) (persists e.model g) persisting))

  either_named : (b : Bound) (gs : List ℕ) → Every (is_persisting e.model stands.resolved) gs → (chosen : Option ℕ)
      → ((r : ℕ) → chosen ≡ Some r → nat_lt r (length (explore_at e.model b.explore).rollups) ≡ true)
      → (route_or (explore_at e.model b.explore) (built_numbers e.builds) chosen (route_to_build (built_numbers e.builds) e.state.number gs)).number ≡ e.state.number
  either_named b gs all None found = onward_named gs all
  either_named b gs all (Some r) found =
      built_at_it (rollup_at (explore_at e.model b.explore) r).datagroup (rollup_within e.model stands.resolved b.explore r (found r refl))

  pub one_named : (b : Bound) → (routed e b).number ≡ e.state.number
  one_named b =
      let x = explore_at e.model b.explore in
      either_named b (reached_datagroups e.model x b.joins) (all_persist e.model stands.resolved b.explore b.joins) (if b.fresh then None else best_rollup x (fitting x b))
      (λ r is. (chosen_fits x b r is).0)
