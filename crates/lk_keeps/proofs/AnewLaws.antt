-- What is kept where some datagroups are built anew, and where all are.
use Rattle.std.proofs.Common.{◌≡◌, ℕ, ◌<◌, true, false, ◌&&◌, List, [], map, length, refl, ap, ◌∙◌}
use Rattle.std.specs.Prelude.{Option, None, Some, if◌then◌else◌, nat_lt, slice_index_or}
use Rattle.std.specs.List.{enumerate_from, list_all}
use Rattle.std.proofs.lemmas.List.{get_or-map}
use Rattle.lk_types.specs.Expressions.{has_number}
use Rattle.lk_types.specs.Tables.{Rows}
use Rattle.lk_types.specs.declared.explore.Explore.{Explore}
use Rattle.lk_types.specs.declared.explore.Rollup.{Rollup}
use Rattle.lk_types.specs.declared.model.Derived.{Derived}
use Rattle.lk_types.specs.declared.model.Model.{Model}
use Rattle.lk_semantics.specs.Derived.{explore_at, no_explore}
use Rattle.lk_semantics.specs.Joins.{numbers_below}
use Rattle.lk_semantics.specs.Resolved.{IsResolved, is_none_or_below, is_numbered_datagroup, is_numbered_derived, is_numbered_explore, is_numbered_rollup}
use Rattle.lk_semantics.specs.Rollups.{derived_at, no_derived, no_rollup, partials_of, rollup_at}
use Rattle.lk_semantics.proofs.EveryLaws.{first, second}
use Rattle.lk_regroup_laws.specs.Regroup.{RollupRow}
use Rattle.lk_fill.proofs.NumberedLaws.{map_numbered, map_unnumbered, numbered_at}
use Rattle.lk_keeps.specs.Anew.{derived_anew, keeps_anew, rollup_anew, tables_anew}
use Rattle.lk_keeps.specs.Keeps.{Keeps, is_of, keeps_of, no_keeps, persisted_rows, persists, sources_over}
use Rattle.lk_keeps.proofs.ListLaws.{at_below, below_there, map_below, of_test, passes_at}

-- ---- some datagroups built anew, where each was built before

module _ (m : Model) (groups : List ℕ) (stored : List Rows) (built : ℕ → List Rows) where
  abbrev kept : Keeps
  kept = keeps_of m built

  -- the stored tables of the builds that there are afterwards
  abbrev after : ℕ → List Rows
  after g = if has_number g groups then stored else built g

  abbrev kept_tables : (ℕ → List Rows) → ℕ → List Rows
  kept_tables of g = if persists m g then of g else []

  tables_at : (g : ℕ) → g < length m.datagroups → tables_anew m groups stored kept g ≡ kept_tables after g
  tables_at g there =
      elim (has_number g groups) as (λ b. (if b then (if persists m g then stored else []) else slice_index_or kept.tables g []) ≡ (if persists m g then (if b then stored else built g) else [])) [
        | true ↦ refl
        | false ↦ at_below (kept_tables built) (length m.datagroups) g [] there
      ]

  abbrev kept_rollup : (ℕ → List Rows) → Explore → Rollup → List RollupRow
  kept_rollup of x r = partials_of x (sources_over m (of r.datagroup)) r

  rollup_read : (n i : ℕ) → n < length m.explores → i < length (explore_at m n).rollups
      → slice_index_or (slice_index_or kept.rollups n []) i [] ≡ kept_rollup built (explore_at m n) (rollup_at (explore_at m n) i)
  rollup_read n i explore rollup =
      ap (λ rollups. slice_index_or rollups i []) (get_or-map (λ (x : Explore). map (kept_rollup built x) x.rollups) m.explores n no_explore [] explore)
      ∙ get_or-map (kept_rollup built (explore_at m n)) (explore_at m n).rollups i no_rollup [] rollup

  rollup_after : (n i : ℕ) → n < length m.explores → i < length (explore_at m n).rollups
      → rollup_anew m groups stored kept n (explore_at m n) (i, rollup_at (explore_at m n) i) ≡ kept_rollup after (explore_at m n) (rollup_at (explore_at m n) i)
  rollup_after n i explore rollup =
      let x = explore_at m n in
      let r = rollup_at x i in
      elim (has_number r.datagroup groups) as (λ b. (if b then partials_of x (sources_over m stored) r else slice_index_or (slice_index_or kept.rollups n []) i [])
      ≡ partials_of x (sources_over m (if b then stored else built r.datagroup)) r) [
        | true ↦ refl
        | false ↦ rollup_read n i explore rollup
      ]

  rollups_at : (n : ℕ) → n < length m.explores
      → map (rollup_anew m groups stored kept n (explore_at m n)) (enumerate_from 0 (explore_at m n).rollups) ≡ map (kept_rollup after (explore_at m n)) (explore_at m n).rollups
  rollups_at n explore =
      map_unnumbered (rollup_anew m groups stored kept n (explore_at m n)) (kept_rollup after (explore_at m n)) (explore_at m n).rollups no_rollup
      (λ i rollup. rollup_after n i explore rollup)

  persisted_after : (d : ℕ) (group : Option ℕ) → slice_index_or kept.derived d [] ≡ persisted_rows m built d group
      → (if is_of groups group then slice_index_or (sources_over m stored).derived d [] else slice_index_or kept.derived d []) ≡ persisted_rows m after d group
  persisted_after d None read = read
  persisted_after d (Some g) read =
      elim (has_number g groups) as (λ b. (if b then slice_index_or (sources_over m stored).derived d [] else slice_index_or kept.derived d [])
      ≡ slice_index_or (sources_over m (if b then stored else built g)).derived d []) [
        | true ↦ refl
        | false ↦ read
      ]

  derived_read : (d : ℕ) → d < length m.derived → slice_index_or kept.derived d [] ≡ persisted_rows m built d (derived_at m d).datagroup
  derived_read d there = numbered_at (λ (t : ℕ × Derived). persisted_rows m built t.0 t.1.datagroup) m.derived d no_derived [] there

  derived_after : (d : ℕ) → d < length m.derived → derived_anew m groups stored kept (d, derived_at m d) ≡ persisted_rows m after d (derived_at m d).datagroup
  derived_after d there = persisted_after d (derived_at m d).datagroup (derived_read d there)

  pub kept_after : keeps_anew m groups stored kept ≡ keeps_of m after
  kept_after = λ i. record {
    tables = map_below (tables_anew m groups stored kept) (kept_tables after) (length m.datagroups) tables_at i;
    rollups = map_unnumbered (λ (x : ℕ × Explore). map (rollup_anew m groups stored kept x.0 x.1) (enumerate_from 0 x.1.rollups))
        (λ (x : Explore). map (kept_rollup after x) x.rollups) m.explores no_explore rollups_at i;
    derived = map_numbered (derived_anew m groups stored kept) (λ (d : ℕ × Derived). persisted_rows m after d.0 d.1.datagroup) m.derived no_derived derived_after i;
  }

-- ---- numbers in a resolved model

module _ (m : Model) (resolved : IsResolved m) where
  pub explores_numbered : list_all (is_numbered_explore m) m.explores ≡ true
  explores_numbered =
      second (list_all (λ t. is_none_or_below (length t.columns) t.key) m.schema.tables) (list_all (is_numbered_explore m) m.explores)
      (first _ (list_all (is_numbered_derived m) m.derived) (first _ (list_all (is_numbered_datagroup m) m.datagroups) resolved.numbered))

  pub derived_numbered : list_all (is_numbered_derived m) m.derived ≡ true
  derived_numbered =
      second (list_all (λ t. is_none_or_below (length t.columns) t.key) m.schema.tables && list_all (is_numbered_explore m) m.explores)
      (list_all (is_numbered_derived m) m.derived) (first _ (list_all (is_numbered_datagroup m) m.datagroups) resolved.numbered)

  pub rollup_group : (n i : ℕ) → n < length m.explores → i < length (explore_at m n).rollups → (rollup_at (explore_at m n) i).datagroup < length m.datagroups
  rollup_group n i explore rollup =
      let x = explore_at m n in
      let r = rollup_at x i in
      let rollups = second _ (list_all (is_numbered_rollup m x) x.rollups) (passes_at (is_numbered_explore m) m.explores n no_explore explores_numbered explore) in
      of_test r.datagroup (length m.datagroups) (second _ (nat_lt r.datagroup (length m.datagroups)) (passes_at (is_numbered_rollup m x) x.rollups i no_rollup rollups rollup))

  pub derived_group : (d : ℕ) → d < length m.derived → is_none_or_below (length m.datagroups) (derived_at m d).datagroup ≡ true
  derived_group d there =
      second _ (is_none_or_below (length m.datagroups) (derived_at m d).datagroup) (passes_at (is_numbered_derived m) m.derived d no_derived derived_numbered there)

-- ---- all datagroups of a resolved model, where nothing is kept

module _ (m : Model) (stored : List Rows) (resolved : IsResolved m) where
  abbrev all : List ℕ
  all = numbers_below (length m.datagroups)

  tables_whole : (g : ℕ) → g < length m.datagroups → tables_anew m all stored no_keeps g ≡ (if persists m g then stored else [])
  tables_whole g there =
      ap (λ b. if b then (if persists m g then stored else []) else slice_index_or no_keeps.tables g []) (below_there (length m.datagroups) g there)

  rollup_whole : (n i : ℕ) → n < length m.explores → i < length (explore_at m n).rollups
      → rollup_anew m all stored no_keeps n (explore_at m n) (i, rollup_at (explore_at m n) i) ≡ partials_of (explore_at m n) (sources_over m stored) (rollup_at (explore_at m n) i)
  rollup_whole n i explore rollup =
      let x = explore_at m n in
      let r = rollup_at x i in
      ap (λ b. if b then partials_of x (sources_over m stored) r else slice_index_or (slice_index_or no_keeps.rollups n []) i [])
      (below_there (length m.datagroups) r.datagroup (rollup_group m resolved n i explore rollup))

  rollups_whole : (n : ℕ) → n < length m.explores
      → map (rollup_anew m all stored no_keeps n (explore_at m n)) (enumerate_from 0 (explore_at m n).rollups)
      ≡ map (λ (r : Rollup). partials_of (explore_at m n) (sources_over m stored) r) (explore_at m n).rollups
  rollups_whole n explore =
      map_unnumbered (rollup_anew m all stored no_keeps n (explore_at m n)) (λ (r : Rollup). partials_of (explore_at m n) (sources_over m stored) r)
      (explore_at m n).rollups no_rollup (λ i rollup. rollup_whole n i explore rollup)

  persisted_whole : (d : ℕ) (group : Option ℕ) → is_none_or_below (length m.datagroups) group ≡ true
      → (if is_of all group then slice_index_or (sources_over m stored).derived d [] else slice_index_or no_keeps.derived d []) ≡ persisted_rows m (λ g. stored) d group
  persisted_whole d None below = refl
  persisted_whole d (Some g) below =
      ap (λ b. if b then slice_index_or (sources_over m stored).derived d [] else slice_index_or no_keeps.derived d [])
      (below_there (length m.datagroups) g (of_test g (length m.datagroups) below))

  derived_whole : (d : ℕ) → d < length m.derived → derived_anew m all stored no_keeps (d, derived_at m d) ≡ persisted_rows m (λ g. stored) d (derived_at m d).datagroup
  derived_whole d there = persisted_whole d (derived_at m d).datagroup (derived_group m resolved d there)

  pub all_whole : keeps_anew m all stored no_keeps ≡ keeps_of m (λ g. stored)
  all_whole = λ i. record {
    tables = map_below (tables_anew m all stored no_keeps) (λ g. if persists m g then stored else []) (length m.datagroups) tables_whole i;
    rollups = map_unnumbered (λ (x : ℕ × Explore). map (rollup_anew m all stored no_keeps x.0 x.1) (enumerate_from 0 x.1.rollups))
        (λ (x : Explore). map (λ (r : Rollup). partials_of x (sources_over m stored) r) x.rollups) m.explores no_explore rollups_whole i;
    derived = map_numbered (derived_anew m all stored no_keeps) (λ (d : ℕ × Derived). persisted_rows m (λ g. stored) d.0 d.1.datagroup) m.derived no_derived derived_whole i;
  }
