use Rattle.std.proofs.Common.{◌≡◌, ◌∙◌, ap, length, subst, sym, true}
use Rattle.std.specs.Prelude.{nat_lt}
use Rattle.std.proofs.lemmas.Result.{IfOk-weaker}
use Rattle.lk_types.specs.declared.explore.Explore.{Explore}
use Rattle.lk_types.specs.declared.model.Derived.{Derived}
use Rattle.lk_semantics.specs.Derived.{explore_at}
use Rattle.lk_semantics.specs.Reading.{read_by}
use Rattle.lk_semantics.specs.Resolved.{are_filters_of, are_fixed}
use Rattle.lk_rollup.proofs.StoredLaws.{always_fixed, always_typed, derived_explore}
use Rattle.lk_fill.specs.Reads.{tables_read}
use Rattle.lk_fill.proofs.FillLaws.{reads_found}
use Rattle.lk_fill.proofs.reading.reads_of.Goals as goal

pub explore_of-explore-requires : goal.explore_of-explore-requires
explore_of-explore-requires c =
    let m = c.args.m.now in
    subst (λ (d : Derived). nat_lt d.explore (length m.explores) ≡ true) (sym c.derived_of-derived.ensures) (derived_explore m c.requires.model c.args.table c.requires.within)

pub derived_query-requires-clause-typed : goal.derived_query-requires-clause-typed
derived_query-requires-clause-typed c =
    let m = c.args.m.now in
    let x = c.explore_of-explore.ensures ∙ ap (λ (d : Derived). explore_at m d.explore) c.derived_of-derived.ensures in
    subst (λ (z : Explore). are_filters_of z z.always ≡ true) (sym x) (always_typed m c.requires.model c.args.table c.requires.within)

pub derived_query-requires-clause-fixed : goal.derived_query-requires-clause-fixed
derived_query-requires-clause-fixed c =
    let m = c.args.m.now in
    let x = c.explore_of-explore.ensures ∙ ap (λ (d : Derived). explore_at m d.explore) c.derived_of-derived.ensures in
    subst (λ (z : Explore). are_fixed z.always ≡ true) (sym x) (always_fixed m c.requires.model c.args.table c.requires.within)

pub returns : goal.returns
returns c =
    let m = c.args.m.now in
    let d = c.args.table in
    let x = c.explore_of-explore.result.now in
    let joins = c.as_slice.result.now in
    let reads = reads_found m d x c.derived_of-derived.result.now c.in_ok-query.query joins
    c.derived_of-derived.ensures c.explore_of-explore.ensures c.in_ok-query.ensures c.as_slice.ensures in
    IfOk-weaker c.tables_read.result (λ tables. tables ≡ tables_read x joins) (λ tables. tables ≡ read_by m d) (λ tables is. is ∙ reads) c.tables_read.ensures
