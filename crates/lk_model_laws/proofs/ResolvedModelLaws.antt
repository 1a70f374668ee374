-- Over objects that texts spell and a schema that is read, a model is resolved.
use Rattle.std.proofs.Common.{◌≡◌, ℕ, Bool, true, ◌&&◌, List, length, inr, Some}
use Rattle.std.specs.Prelude.{Ok, nat_le, slice_get}
use Rattle.std.specs.List.{list_all}
use Rattle.lk_types.specs.declared.explore.Explore.{Explore}
use Rattle.lk_types.specs.declared.model.Derived.{Derived}
use Rattle.lk_types.specs.declared.model.Model.{Model}
use Rattle.lk_types.specs.declared.schema.Kind.TheVariants as kind
use Rattle.lk_types.specs.declared.schema.Schema.{Schema}
use Rattle.lk_merge.specs.declared.project.Merged.{Merged}
use Rattle.lk_schema.specs.Schemas.{schema_of}
use Rattle.lk_semantics.specs.Reading.{explore_datagroups, leaves_of}
use Rattle.lk_semantics.specs.Resolved.{HasGroupsOfOnePart, IsResolved, IsResolvedDerived, IsResolvedExplore, are_one, has_exact_keys, has_grounded_measures, has_part_for_each_join, has_typed_filters, has_typed_key, has_typed_sources, has_whole_forms, is_fixed_derived, is_fixed_rollup, is_none_or_typed, is_typed_explore, is_typed_field, is_typed_join, is_typed_measure, may_be_derived, names_numbers}
use Rattle.lk_semantics.specs.Rollups.{may_be_rolled_up}
use Rattle.lk_semantics.proofs.EveryLaws.{both}
use Rattle.lk_resolve.specs.Resolving.{HasModel}
use Rattle.lk_model_laws.specs.Typed.{has_raw_times}
use Rattle.lk_model_laws.specs.Spelled.{are_spelled}
use Rattle.lk_model_laws.specs.Tables.{HavePlainTables}
use Rattle.lk_model_laws.proofs.EntryLaws.{all_of_places}
use Rattle.lk_model_laws.proofs.FilterKindLaws.{every_at}
use Rattle.lk_model_laws.proofs.FilterModelLaws.{have_times, have_typed_filters, have_typed_sources}
use Rattle.lk_model_laws.proofs.FixedModelLaws.{are_fixed_tables, have_fixed_rollups}
use Rattle.lk_model_laws.proofs.JoinModelLaws.{have_whole_joins}
use Rattle.lk_model_laws.proofs.KindModelLaws.{have_coded_dimensions, have_coded_measures, have_number_names, have_truths, have_typed_keys}
use Rattle.lk_model_laws.proofs.ListLaws.{all_at}
use Rattle.lk_model_laws.proofs.ModelLaws.{are_acyclic, are_derived, are_numbered, are_whole, have_exact_keys, have_few_joins, have_grounded_measures, have_groups, have_one_datagroup, have_part_for_each_join, may_be_stored}
use Rattle.lk_model_laws.proofs.SpelledModelLaws.{have_codes, have_conditions, have_own_names}

module _ (text : List ℕ) (schema : Schema) (merged : Merged) (model : Model) (read : schema_of text ≡ Ok schema) (h : HasModel schema merged (Ok model)) (spelled : are_spelled merged ≡ true) where
  tables : HavePlainTables model h.declared
  tables = inr (have_own_names schema merged model h spelled, have_codes schema merged model h spelled)

  times : list_all has_raw_times model.explores ≡ true
  times = have_times schema merged model h tables (have_codes schema merged model h spelled)

  module _ (k : ℕ) (x : Explore) (at : slice_get model.explores k ≡ Some x) where
    holds : (t : Explore → Bool) → list_all t model.explores ≡ true → t x ≡ true
    holds t all = all_at (λ y. t y ≡ true) model.explores (every_at t model.explores all) k x at

    explore_typed : is_typed_explore model x ≡ true
    explore_typed =
        let a = list_all (has_typed_key (leaves_of model x)) x.parts in
        let b = list_all (is_typed_join (leaves_of model x)) x.joins in
        let c = list_all (is_typed_field (leaves_of model x)) x.fields in
        let d = list_all (is_typed_measure (leaves_of model x)) x.measures in
        let e = list_all (names_numbers x) x.measures in
        let f = is_none_or_typed (leaves_of model x) kind.Truth x.always_where in
        both (a && b && c && d && e) f
        (both (a && b && c && d) e
        (both (a && b && c) d
        (both (a && b) c
        (both a b (holds (λ y. list_all (has_typed_key (leaves_of model y)) y.parts) (have_typed_keys schema merged model h tables))
        (holds (λ y. list_all (is_typed_join (leaves_of model y)) y.joins) (have_whole_joins schema merged model h tables (have_conditions schema merged model h spelled))))
        (holds (λ y. list_all (is_typed_field (leaves_of model y)) y.fields) (have_coded_dimensions schema merged model h tables (have_codes schema merged model h spelled))))
        (holds (λ y. list_all (is_typed_measure (leaves_of model y)) y.measures) (have_coded_measures schema merged model h tables (have_codes schema merged model h spelled))))
        (holds (λ y. list_all (names_numbers y) y.measures) (have_number_names schema merged model h tables)))
        (holds (λ y. is_none_or_typed (leaves_of model y) kind.Truth y.always_where) (have_truths schema merged model h tables))

    explore_resolved : IsResolvedExplore model x
    explore_resolved = record {
      few_joins = holds (λ y. nat_le (length y.joins) 31) (have_few_joins schema merged model h);
      parts = holds has_part_for_each_join (have_part_for_each_join schema merged model h);
      whole = holds has_whole_forms (are_whole schema merged model h);
      typed = explore_typed;
      filters = holds has_typed_filters (have_typed_filters schema merged model h (have_own_names schema merged model h spelled) times);
      groups = all_at HasGroupsOfOnePart model.explores (have_groups schema merged model h) k x at;
      keys = holds (has_exact_keys model) (have_exact_keys schema merged model h);
      grounded = holds has_grounded_measures (have_grounded_measures schema merged model h);
      stored = holds (λ y. list_all (may_be_rolled_up y) y.rollups) (may_be_stored schema merged model h);
      fixed = holds (λ y. list_all (is_fixed_rollup y) y.rollups) (have_fixed_rollups schema merged model h);
      one_datagroup = holds (λ y. are_one (explore_datagroups model y)) (have_one_datagroup schema merged model h);
    }

  module _ (k : ℕ) (d : Derived) (at : slice_get model.derived k ≡ Some d) where
    holds_of : (t : Derived → Bool) → list_all t model.derived ≡ true → t d ≡ true
    holds_of t all = all_at (λ e. t e ≡ true) model.derived (every_at t model.derived all) k d at

    derived_resolved : IsResolvedDerived model d
    derived_resolved = record {
      filters = holds_of (has_typed_sources model) (have_typed_sources schema merged model h (have_own_names schema merged model h spelled) times);
      stored = holds_of (may_be_derived model) (are_derived schema merged model h);
      fixed = holds_of (is_fixed_derived model) (are_fixed_tables schema merged model h);
    }

  pub is_resolved_model : IsResolved model
  is_resolved_model = record {
    numbered = are_numbered schema merged model h text read;
    explores = all_of_places (IsResolvedExplore model) model.explores (λ k x less at. explore_resolved k x at);
    derived = all_of_places (IsResolvedDerived model) model.derived (λ k d less at. derived_resolved k d at);
    acyclic = are_acyclic schema merged model h;
  }
