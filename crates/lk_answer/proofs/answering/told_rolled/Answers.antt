use Rattle.std.proofs.Common.{◌∙◌, ap, subst, sym}
use Rattle.std.specs.Prelude.{length, nat_lt}
use Rattle.std.specs.List.{list_all}
use Rattle.lk_val.specs.Memory.{IsUnlessMemory}
use Rattle.lk_types.specs.Dates.{is_dated}
use Rattle.lk_types.specs.declared.model.Model.{Model}
use Rattle.lk_semantics.specs.Derived.{explore_at}
use Rattle.lk_semantics.specs.Resolved.{IsInModel}
use Rattle.lk_semantics.specs.Rollups.{rollup_at}
use Rattle.lk_regroup_laws.specs.Regroup.{RollupRow, answer_regrouped}
use Rattle.lk_keeps.specs.Keeps.{Keeps}
use Rattle.lk_ask.specs.Asks.{is_no_memory, told_by}
use Rattle.lk_answer.specs.Answers.{rows_kept}
use Rattle.lk_answer.proofs.RollupLaws.{kept_dated}
use Rattle.lk_answer.proofs.answering.told_rolled.Goals as goal

pub answer_from_rollup-requires-clause-query : goal.answer_from_rollup-requires-clause-query
answer_from_rollup-requires-clause-query c = subst (λ (m : Model). IsInModel m c.args.bound) (sym c.model-m.ensures) c.requires.query

pub answer_from_rollup-requires-clause-rollup : goal.answer_from_rollup-requires-clause-rollup
answer_from_rollup-requires-clause-rollup c =
    ap (λ (m : Model). nat_lt c.args.r (length (explore_at m c.args.bound.explore).rollups)) c.model-m.ensures ∙ c.requires.rollup

pub answer_from_rollup-requires-clause-dated : goal.answer_from_rollup-requires-clause-dated
answer_from_rollup-requires-clause-dated c =
    let e = c.args.e.now in
    ap (list_all (λ (row : RollupRow). list_all is_dated row.0)) (c.rollup-rows.ensures ∙ ap (λ (k : Keeps). rows_kept k c.args.bound.explore c.args.r) c.keeps.ensures)
    ∙ kept_dated c.kept_groups_are_dated.ensures e.model e.keeps c.stands.ensures.model c.stands.ensures.kept c.args.bound.explore c.args.r c.requires.rollup

pub returns : goal.returns
returns c =
    let e = c.args.e.now in
    let b = c.args.bound in
    let rows = c.rollup-rows.ensures ∙ ap (λ (k : Keeps). rows_kept k b.explore c.args.r) c.keeps.ensures in
    let x = c.explore_of-x.ensures ∙ ap (λ (m : Model). explore_at m b.explore) c.model-m.ensures in
    let answer = c.in_ok-answer.ensures ∙ (λ i. answer_regrouped (explore_at (c.model-m.ensures i) b.explore) (rollup_at (explore_at (c.model-m.ensures i) b.explore) c.args.r) b (rows i)) in
    subst (IsUnlessMemory is_no_memory c.told_by.result) (λ i. told_by (x i) b 0 (answer i)) c.told_by.ensures
