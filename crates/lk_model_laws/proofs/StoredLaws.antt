-- What is stored of a model without a fault of what is stored: of its explores and its derived tables.
use Rattle.std.proofs.Common.{◌≡◌, ℕ, Bool, true, false, List, [], ◌∷◌, length, Option, Some, None, refl}
use Rattle.std.specs.Prelude.{if◌then◌else◌, not}
use Rattle.std.specs.Option.{option_or}
use Rattle.std.specs.List.{list_all}
use Rattle.lk_val.specs.declared.fault.FaultLine.{FaultLine}
use Rattle.lk_types.specs.declared.explore.Explore.{Explore}
use Rattle.lk_types.specs.declared.explore.Rollup.{Rollup}
use Rattle.lk_types.specs.declared.model.Derived.{Derived}
use Rattle.lk_types.specs.declared.model.Model.{Model}
use Rattle.lk_params.specs.declared.number.Number.TheVariants.{N7, N10, N12}
use Rattle.lk_params.specs.Findings.{named_line}
use Rattle.lk_scope.specs.Pieces.{first_at}
use Rattle.lk_semantics.specs.Answers.{components_of, measure_at, query_components}
use Rattle.lk_semantics.specs.Derived.{derived_query, explore_at}
use Rattle.lk_semantics.specs.Joins.{numbers_below}
use Rattle.lk_semantics.specs.Reading.{explore_datagroups, reads_itself}
use Rattle.lk_semantics.specs.Resolved.{are_one, may_be_derived}
use Rattle.lk_semantics.specs.Rollups.{derived_at, may_be_rolled_up, may_be_stored, rollup_joins}
use Rattle.lk_semantics.proofs.EveryLaws.{both}
use Rattle.lk_stored.specs.StoredFaults.{datagroups_line, derived_line, measure_line, rollup_line, rollups_line, self_read_line, stored_fault}
use Rattle.lk_model_laws.proofs.PieceLaws.{none_left, none_right}

-- ---- pieces without a fault

-- a fault stands where a test fails
passed : (b : Bool) (line : FaultLine) → (if b then None else Some line) ≡ None → b ≡ true
passed true line h = refl
passed false line h = cc

passed_not : (b : Bool) (line : FaultLine) → (if b then Some line else None) ≡ None → not b ≡ true
passed_not true line h = cc
passed_not false line h = refl

module _ {A : Type 0} (test : A → Option FaultLine) (p : A → Bool) where
  -- where no item has a fault, each passes
  none_at : ((x : A) → test x ≡ None → p x ≡ true) → (xs : List A) → first_at test xs ≡ None → list_all p xs ≡ true
  none_at f [] h = refl
  none_at f (x ∷ xs) h =
      both (p x) (list_all p xs) (f x (none_left (test x) (first_at test xs) h)) (none_at f xs (none_right (test x) (first_at test xs) h))

-- ---- measures that may be stored

module _ (x : Explore) (r : Rollup) where
  abbrev may : ℕ → Bool
  may n = may_be_stored x (rollup_joins x r) (measure_at x n)

  rollup_passed : rollup_line x r ≡ None → may_be_rolled_up x r ≡ true
  rollup_passed h =
      none_at (measure_line r.name x (rollup_joins x r)) may
      (λ n is. passed (may n) (named_line N12 r.name (measure_at x n).name) is) (components_of x r.measures) h

-- all aggregate tables of an explore may be stored
abbrev pub may_be_kept : Explore → Bool
may_be_kept x = list_all (may_be_rolled_up x) x.rollups

rollups_passed : (x : Explore) → rollups_line x ≡ None → may_be_kept x ≡ true
rollups_passed x h = none_at (rollup_line x) (may_be_rolled_up x) (rollup_passed x) x.rollups h

-- ---- what follows of a model

module _ (m : Model) where
  abbrev has_one : Explore → Bool
  has_one x = are_one (explore_datagroups m x)

  abbrev cycles : Option FaultLine
  cycles = first_at (self_read_line m) (numbers_below (length m.derived))

  abbrev datagroups : Option FaultLine
  datagroups = first_at (datagroups_line m) m.explores

  abbrev tables : Option FaultLine
  tables = first_at (derived_line m) m.derived

  abbrev rollups : Option FaultLine
  rollups = first_at rollups_line m.explores

  derived_passed : (d : Derived) → derived_line m d ≡ None → may_be_derived m d ≡ true
  unfolding derived_line
  derived_passed d h =
      let x = explore_at m d.explore in
      let joins = (derived_query x d).joins in
      none_at (measure_line d.name x joins) (λ n. may_be_stored x joins (measure_at x n))
      (λ n is. passed (may_be_stored x joins (measure_at x n)) (named_line N12 d.name (measure_at x n).name) is) (query_components x (derived_query x d)) h

  module _ (h : stored_fault m ≡ None) where
    after_cycles : option_or datagroups (option_or tables (option_or rollups None)) ≡ None
    after_cycles = none_right cycles (option_or datagroups (option_or tables (option_or rollups None))) h

    after_datagroups : option_or tables (option_or rollups None) ≡ None
    after_datagroups = none_right datagroups (option_or tables (option_or rollups None)) after_cycles

    -- no derived table reads itself
    pub follows-acyclic : list_all (λ d. not (reads_itself m d)) (numbers_below (length m.derived)) ≡ true
    follows-acyclic =
        none_at (self_read_line m) (λ d. not (reads_itself m d))
        (λ d is. passed_not (reads_itself m d) (named_line N7 (derived_at m d).name []) is) (numbers_below (length m.derived))
        (none_left cycles (option_or datagroups (option_or tables (option_or rollups None))) h)

    -- each explore reaches one datagroup
    pub follows-one_datagroup : list_all has_one m.explores ≡ true
    follows-one_datagroup =
        none_at (datagroups_line m) has_one (λ x is. passed (has_one x) (named_line N10 x.name []) is) m.explores
        (none_left datagroups (option_or tables (option_or rollups None)) after_cycles)

    -- the measures of each derived table may be stored
    pub follows-derived : list_all (may_be_derived m) m.derived ≡ true
    follows-derived =
        none_at (derived_line m) (may_be_derived m) derived_passed m.derived (none_left tables (option_or rollups None) after_datagroups)

    -- and those of each aggregate table
    pub follows-stored : list_all may_be_kept m.explores ≡ true
    follows-stored =
        none_at rollups_line may_be_kept rollups_passed m.explores (none_left rollups None (none_right tables (option_or rollups None) after_datagroups))
