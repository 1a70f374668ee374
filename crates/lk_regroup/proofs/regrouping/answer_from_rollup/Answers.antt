use Rattle.std.proofs.Common.{◌≡◌, List, ◌∙◌, ap, map, sym, subst}
use Rattle.std.specs.Prelude.{IfOk}
use Rattle.std.specs.List.Sorted.{IsStrictlySortedBy}
use Rattle.lk_val.specs.Values.{tuple_cmp}
use Rattle.lk_types.specs.declared.answer.Answer.{Answer}
use Rattle.lk_types.specs.declared.answer.GroupRow.{GroupRow}
use Rattle.lk_types.specs.declared.explore.Explore.{Explore}
use Rattle.lk_semantics.specs.Answers.{cut, lines_of}
use Rattle.lk_semantics.specs.Rollups.{rollup_at}
use Rattle.lk_regroup_laws.specs.Regroup.{answer_regrouped}
use Rattle.lk_regroup.proofs.RegroupedLaws.{regrouped_ascends}
use Rattle.lk_regroup.proofs.regrouping.answer_from_rollup.Goals as goal

pub returns : goal.returns
returns c =
    let x = c.explore_of-x.result.now in
    let r = c.rollup_of.result.now in
    let b = c.args.b.now in
    let rows = c.args.rows.now in
    let groups = c.in_ok-groups.ensures in
    let ascends = subst (λ (made : List GroupRow). IsStrictlySortedBy tuple_cmp (map (λ row. row.group) made)) (sym groups) (regrouped_ascends x r b rows) in
    let explore = c.explore_of-x.ensures in
    let rollup = c.rollup_of.ensures ∙ ap (λ (y : Explore). rollup_at y c.args.r) explore in
    let answer = ap (λ (made : List GroupRow). cut b.limit (lines_of x b made)) groups ∙ (λ i. answer_regrouped (explore i) (rollup i) b rows) in
    subst (λ (a : Answer). IfOk c.answer_lines.result (λ answer. answer ≡ a)) answer (c.answer_lines.ensures ascends)
