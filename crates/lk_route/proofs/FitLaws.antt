-- What was made ready of an aggregate table tells whether it fits a query.
use Rattle.std.proofs.Common.{◌≡◌, ℕ, Bool, true, false, ◌&&◌, ◌||◌, List, [], ◌∷◌, ◌++◌, map, length, refl, sym, ap, ◌∙◌}
use Rattle.std.specs.Prelude.{filter, flat_map, if◌then◌else◌, nat_eq, nat_lt, not}
use Rattle.std.specs.List.{list_all}
use Rattle.std.specs.Option.{is_some}
use Rattle.std.proofs.lemmas.Bool.{eqb-true}
use Rattle.std.proofs.lemmas.List.Folds.{list_all-append}
use Rattle.lk_types.specs.Expressions.{has_number}
use Rattle.lk_types.specs.declared.bound.Bound.{Bound}
use Rattle.lk_types.specs.declared.explore.Explore.{Explore}
use Rattle.lk_types.specs.declared.explore.Rollup.{Rollup}
use Rattle.lk_types.specs.declared.filter.Filter.{Filter}
use Rattle.lk_types.specs.declared.model.Model.{Model}
use Rattle.lk_types.specs.declared.model.Pick.{Pick}
use Rattle.lk_types.specs.declared.model.Pick.TheVariants.{Dim, Mea}
use Rattle.lk_semantics.specs.Answers.{components_of, dims_of, filtered, first_each, measure_at, parts_of_measure, picked_measures, query_components}
use Rattle.lk_semantics.specs.Derived.{explore_at}
use Rattle.lk_semantics.specs.Resolved.{IsInModel, are_measures, is_pick}
use Rattle.lk_semantics.specs.Rollups as rollups
use Rattle.lk_semantics.specs.Rollups.{filters_fit, fits, has_field, is_same_set, keeps_rows, regroups, rollup_at, rollup_joins}
use Rattle.lk_semantics.proofs.EveryLaws.{first, second}
use Rattle.lk_route.specs.Fits.{are_dims, are_had, do_regroup, does_regroup, fields_fit, fits_by, groups_fit, has_join, is_asked_or_keeps, is_had, is_picked, joins_fit, passes_dim, passes_filtered, passes_measure}
use Rattle.lk_route.specs.Ready.{has_component, ready_join, ready_measure, ready_rollup, regroups_component}
use Rattle.lk_route.specs.Unmet.{first_of, first_unmet}
use Rattle.lk_route.specs.declared.ready.ReadyMeasure.{ReadyMeasure}
use Rattle.lk_route.specs.declared.ready.ReadyRollup.{ReadyRollup}
use Rattle.lk_route.proofs.NumberLaws.{at_below}

-- ---- lists

and_true : (b : Bool) → (b && true) ≡ b
and_true true = refl
and_true false = refl

all_map : {A B : Type 0} (test : B → Bool) (f : A → B) (xs : List A) → list_all test (map f xs) ≡ list_all (λ x. test (f x)) xs
all_map test f [] = refl
all_map test f (x ∷ xs) = ap (λ b. test (f x) && b) (all_map test f xs)

all_flat : {A : Type 0} (test : ℕ → Bool) (f : A → List ℕ) (xs : List A) → list_all test (flat_map f xs) ≡ list_all (λ x. list_all test (f x)) xs
all_flat test f [] = refl
all_flat test f (x ∷ xs) = list_all-append test (f x) (flat_map f xs) ∙ ap (λ b. list_all test (f x) && b) (all_flat test f xs)

module _ (test : ℕ → Bool) where
  of_dims : (picks : List Pick) → list_all (passes_dim test) picks ≡ list_all test (dims_of picks)
  of_dims [] = refl
  of_dims (Dim f ∷ picks) = ap (λ b. test f && b) (of_dims picks)
  of_dims (Mea m ∷ picks) = of_dims picks

  of_measures : (picks : List Pick) → list_all (passes_measure test) picks ≡ list_all test (picked_measures picks)
  of_measures [] = refl
  of_measures (Dim f ∷ picks) = of_measures picks
  of_measures (Mea m ∷ picks) = ap (λ b. test m && b) (of_measures picks)

  of_filtered : (filters : List (ℕ × Filter)) → list_all (passes_filtered test) filters ≡ list_all test (filtered filters)
  of_filtered [] = refl
  of_filtered (f ∷ filters) = ap (λ b. test f.0 && b) (of_filtered filters)

  -- what is left of a list without a number that passes
  all_others : (n : ℕ) (ns : List ℕ) → test n ≡ true → list_all test (filter (λ m. not (nat_eq m n)) ns) ≡ list_all test ns
  all_others n [] h = refl
  all_others n (m ∷ ns) h =
      elim (nat_eq m n) as (λ b. nat_eq m n ≡ b → list_all test (if not b then m ∷ filter (λ k. not (nat_eq k n)) ns else filter (λ k. not (nat_eq k n)) ns) ≡ (test m && list_all test ns)) [
        | true ↦ λ same. all_others n ns h ∙ ap (λ b. b && list_all test ns) (sym (ap test (eqb-true m n same) ∙ h))
        | false ↦ λ _. ap (λ b. test m && b) (all_others n ns h)
      ] refl

  -- each number counts once
  all_first : (ns : List ℕ) → list_all test (first_each ns) ≡ list_all test ns
  all_first [] = refl
  all_first (n ∷ ns) =
      elim (test n) as (λ b. test n ≡ b → (b && list_all test (filter (λ m. not (nat_eq m n)) (first_each ns))) ≡ (b && list_all test ns)) [
        | true ↦ λ h. all_others n (first_each ns) h ∙ all_first ns
        | false ↦ λ _. refl
      ] refl

  -- what some measures are put together from is what each of them is
  all_components : (x : Explore) (ms : List ℕ) → list_all (λ m. list_all test (components_of x (m ∷ []))) ms ≡ list_all test (components_of x ms)
  all_components x ms =
      let parts = parts_of_measure x (length x.measures) in
      (λ i. list_all (λ m. (all_first (flat_map parts (m ∷ [])) ∙ all_flat test parts (m ∷ []) ∙ and_true (list_all test (parts m))) i) ms)
      ∙ sym (all_first (flat_map parts ms) ∙ all_flat test parts ms)

-- two tests that agree on what passes a third
all_same : {A : Type 0} (s t within : A → Bool) → ((x : A) → within x ≡ true → s x ≡ t x) → (xs : List A) → list_all within xs ≡ true → list_all s xs ≡ list_all t xs
all_same s t within same [] h = refl
all_same s t within same (x ∷ xs) h =
    let here = same x (first (within x) (list_all within xs) h) in
    let rest = all_same s t within same xs (second (within x) (list_all within xs) h) in
    λ i. here i && rest i

-- ---- joins

module _ (x : Explore) where
  joined_among : (joins : List ℕ) (j : ℕ) → has_join (map (ready_join x) joins) j ≡ has_number j joins
  joined_among [] j = refl
  joined_among (k ∷ joins) j = ap (λ b. nat_eq j k || b) (joined_among joins j)

  joins_are : (r : Rollup) (b : Bound) → joins_fit (map (ready_join x) (rollup_joins x r)) b.joins ≡ rollups.joins_fit x r b
  unfolding joins_fit
  joins_are r b =
      (λ i. list_all (λ j. joined_among (rollup_joins x r) j i) b.joins && all_map (is_asked_or_keeps b.joins) (ready_join x) (rollup_joins x r) i)

-- ---- fields

fields_are : (x : Explore) (r : Rollup) (b : Bound) → fields_fit x r b ≡ rollups.fields_fit x r b
unfolding fields_fit
fields_are x r b =
    let test = has_field x r in
    (λ i. of_dims test b.picks i && of_filtered test b.rows i && of_filtered test b.access i)
    ∙ ap (λ t. t && list_all test (filtered b.access)) (sym (list_all-append test (dims_of b.picks) (filtered b.rows)))
    ∙ sym (list_all-append test (dims_of b.picks ++ filtered b.rows) (filtered b.access))

-- ---- groups

picked_among : (picks : List Pick) (d : ℕ) → is_picked picks d ≡ has_number d (dims_of picks)
picked_among [] d = refl
picked_among (Dim f ∷ picks) d = ap (λ b. nat_eq d f || b) (picked_among picks d)
picked_among (Mea m ∷ picks) d = picked_among picks d

dims_are : (picks : List Pick) (dims : List ℕ) → are_dims picks dims ≡ is_same_set (dims_of picks) dims
unfolding are_dims
dims_are picks dims = λ i. of_dims (λ f. has_number f dims) picks i && list_all (λ d. picked_among picks d i) dims

-- ---- measures

-- each of two tests
all_both : {A : Type 0} (s t : A → Bool) (xs : List A) → list_all (λ x. s x && t x) xs ≡ (list_all s xs && list_all t xs)
all_both s t [] = refl
all_both s t (x ∷ xs) = ap (λ b. (s x && t x) && b) (all_both s t xs) ∙ swapped (s x) (t x) (list_all s xs) (list_all t xs)
  where
    swapped : (a b c d : Bool) → ((a && b) && (c && d)) ≡ ((a && c) && (b && d))
    swapped false b c d = refl
    swapped true true c d = refl
    swapped true false true d = refl
    swapped true false false d = refl

module _ (x : Explore) (r : Rollup) where
  abbrev ready : List ReadyMeasure
  ready = (ready_rollup x r).measures

  abbrev is_within : ℕ → Bool
  is_within m = nat_lt m (length x.measures)

  -- what is made ready of a measure is what its components have
  had_at : (m : ℕ) → is_within m ≡ true → is_had ready m ≡ list_all (has_component x r) (components_of x (m ∷ []))
  had_at m h = ap (λ (found : ReadyMeasure). found.is_had) (at_below (ready_measure x r) (length x.measures) m _ h)

  regroups_at : (m : ℕ) → is_within m ≡ true → does_regroup ready m ≡ list_all (regroups_component x r) (components_of x (m ∷ []))
  regroups_at m h = ap (λ (found : ReadyMeasure). found.regroups) (at_below (ready_measure x r) (length x.measures) m _ h)

  -- a test of measures that is one of their components, over those of a query
  module _ (test component : ℕ → Bool) (at : (m : ℕ) → is_within m ≡ true → test m ≡ list_all component (components_of x (m ∷ []))) where
    abbrev whole : ℕ → Bool
    whole m = list_all component (components_of x (m ∷ []))

    pick_at : (p : Pick) → is_pick x p ≡ true → passes_measure test p ≡ passes_measure whole p
    pick_at (Dim f) h = refl
    pick_at (Mea m) h = at m h

    over_query : (b : Bound) → list_all (is_pick x) b.picks ≡ true → are_measures x (filtered b.having) ≡ true
        → (list_all (passes_measure test) b.picks && list_all (passes_filtered test) b.having) ≡ list_all component (query_components x b)
    over_query b picks having =
        (λ i. (all_same (passes_measure test) (passes_measure whole) (is_pick x) pick_at b.picks picks ∙ of_measures whole b.picks) i
        && (all_same (passes_filtered test) (passes_filtered whole) (passes_filtered is_within) (λ f h. at f.0 h) b.having (of_filtered is_within b.having ∙ having) ∙ of_filtered whole b.having) i)
        ∙ sym (list_all-append whole (picked_measures b.picks) (filtered b.having))
        ∙ all_components component x (picked_measures b.picks ++ filtered b.having)

  had_are : (b : Bound) → list_all (is_pick x) b.picks ≡ true → are_measures x (filtered b.having) ≡ true → are_had ready b ≡ rollups.measures_fit x r b
  unfolding are_had
  had_are b picks having = over_query (is_had ready) (has_component x r) had_at b picks having

  regrouped_are : (b : Bound) → list_all (is_pick x) b.picks ≡ true → are_measures x (filtered b.having) ≡ true
      → do_regroup ready b ≡ (rollups.measures_fit x r b && list_all (λ m. regroups x r (measure_at x m)) (query_components x b))
  unfolding do_regroup
  regrouped_are b picks having =
      over_query (does_regroup ready) (regroups_component x r) regroups_at b picks having
      ∙ all_both (has_component x r) (λ m. regroups x r (measure_at x m)) (query_components x b)

  groups_are : (b : Bound) → list_all (is_pick x) b.picks ≡ true → are_measures x (filtered b.having) ≡ true
      → groups_fit r (ready_rollup x r) b
      ≡ (is_same_set (dims_of b.picks) r.dims || (rollups.measures_fit x r b && list_all (λ m. regroups x r (measure_at x m)) (query_components x b)))
  unfolding groups_fit
  groups_are b picks having = λ i. dims_are b.picks r.dims i || regrouped_are b picks having i

  pub fits_are : (b : Bound) → list_all (is_pick x) b.picks ≡ true → are_measures x (filtered b.having) ≡ true → fits_by x r (ready_rollup x r) b ≡ fits x r b
  fits_are b picks having =
      (λ i. joins_are x r b i && fields_are x r b i && filters_fit r b && had_are b picks having i && groups_are b picks having i)
      ∙ once (rollups.joins_fit x r b && rollups.fields_fit x r b && filters_fit r b) (rollups.measures_fit x r b) (is_same_set (dims_of b.picks) r.dims)
      (list_all (λ m. regroups x r (measure_at x m)) (query_components x b))
    where
      once : (before had same regrouped : Bool) → ((before && had) && (same || (had && regrouped))) ≡ ((before && had) && (same || regrouped))
      once false had same regrouped = refl
      once true true same regrouped = refl
      once true false same regrouped = refl

  -- whether the groups fit plays a part only where all measures are had
  pub unmet_are : (b : Bound) → list_all (is_pick x) b.picks ≡ true → are_measures x (filtered b.having) ≡ true
      → first_of (joins_fit (ready_rollup x r).joins b.joins) (fields_fit x r b) (filters_fit r b) (are_had ready b) (groups_fit r (ready_rollup x r) b)
      ≡ first_unmet x r b
  unmet_are b picks having =
      (λ i. first_of (joins_are x r b i) (fields_are x r b i) (filters_fit r b) (had_are b picks having i) (groups_are b picks having i))
      ∙ once (rollups.joins_fit x r b) (rollups.fields_fit x r b) (filters_fit r b) (rollups.measures_fit x r b) (is_same_set (dims_of b.picks) r.dims)
      (list_all (λ m. regroups x r (measure_at x m)) (query_components x b))
    where
      once : (joins fields filters had same regrouped : Bool)
          → first_of joins fields filters had (same || (had && regrouped)) ≡ first_of joins fields filters had (same || regrouped)
      once joins fields filters true same regrouped = refl
      once false fields filters false same regrouped = refl
      once true false filters false same regrouped = refl
      once true true false false same regrouped = refl
      once true true true false same regrouped = refl

-- a point that does not hold is there just where not all hold
pub some_unmet : (joins fields filters measures groups : Bool) → is_some (first_of joins fields filters measures groups) ≡ not (joins && fields && filters && measures && groups)
some_unmet false fields filters measures groups = refl
some_unmet true false filters measures groups = refl
some_unmet true true false measures groups = refl
some_unmet true true true false groups = refl
some_unmet true true true true false = refl
some_unmet true true true true true = refl

-- of a query and an aggregate table of a model, by what was made ready of the model
pub fits_at : (m : Model) (b : Bound) (n : ℕ) (x : Explore) (r : Rollup) (known : ReadyRollup) → IsInModel m b → x ≡ explore_at m b.explore → r ≡ rollup_at x n
    → known ≡ ready_rollup (explore_at m b.explore) (rollup_at (explore_at m b.explore) n)
    → fits_by x r known b ≡ fits (explore_at m b.explore) (rollup_at (explore_at m b.explore) n) b
fits_at m b n x r known query explore rollup own =
    (λ i. fits_by (explore i) ((rollup ∙ ap (λ y. rollup_at y n) explore) i) (own i) b)
    ∙ fits_are (explore_at m b.explore) (rollup_at (explore_at m b.explore) n) b query.picks query.measures

pub unmet_at : (m : Model) (b : Bound) (n : ℕ) (x : Explore) (r : Rollup) (known : ReadyRollup) → IsInModel m b → x ≡ explore_at m b.explore → r ≡ rollup_at x n
    → known ≡ ready_rollup (explore_at m b.explore) (rollup_at (explore_at m b.explore) n)
    → first_of (joins_fit known.joins b.joins) (fields_fit x r b) (filters_fit r b) (are_had known.measures b) (groups_fit r known b)
    ≡ first_unmet (explore_at m b.explore) (rollup_at (explore_at m b.explore) n) b
unmet_at m b n x r known query explore rollup own =
    (λ i. let y = (rollup ∙ ap (λ z. rollup_at z n) explore) i in
    first_of (joins_fit (own i).joins b.joins) (fields_fit (explore i) y b) (filters_fit y b) (are_had (own i).measures b) (groups_fit y (own i) b))
    ∙ unmet_are (explore_at m b.explore) (rollup_at (explore_at m b.explore) n) b query.picks query.measures
