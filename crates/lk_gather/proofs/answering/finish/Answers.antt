use Rattle.std.proofs.Common.{◌≡◌, ◌∙◌, length, map, ap, subst, sym}
use Rattle.std.specs.Prelude.{IfOk, filter}
use Rattle.std.specs.List.Sorted.{IsStrictlySortedBy}
use Rattle.lk_val.specs.Values.{tuple_cmp}
use Rattle.lk_semantics.specs.Answers.{answer_unless, cut, dims_of, lines_of, ops_of, query_components, rows_grouped}
use Rattle.lk_semantics.specs.Measures.{first_conflict}
use Rattle.lk_filter.specs.PlacedModel.{placed_explore}
use Rattle.lk_gather.specs.Asked.{does_pass, given_of}
use Rattle.lk_gather.proofs.AnswerLaws.{rows_ascend}
use Rattle.lk_placed_laws.proofs.PlacedLaws.{lines_are, query_components_are}
use Rattle.lk_gather.proofs.answering.finish.Goals as goal

pub returns-in_ok-answer_lines-in-Ok-clause-answer :
    goal.returns-in_ok-answer_lines-in-Ok-clause-answer
returns-in_ok-answer_lines-in-Ok-clause-answer c = λ now count seen h.
    let x = placed_explore now c.args.explore.now in
    let plan = c.args.plan.now in
    let b = plan.bound in
    let dims = dims_of b.picks in
    let components = query_components x b in
    let passing = filter (does_pass plan) seen in
    let given = given_of x plan seen in
    let regular = c.given_rows_are_regular.ensures x dims components passing in
    let done = c.in-Ok.ensures.ok (length dims) (ops_of x components) given h.taken regular in
    let ascends =
    subst (λ groups. IsStrictlySortedBy tuple_cmp (map (λ row. row.group) groups)) (sym done.1) (rows_ascend (length dims) (ops_of x components) given) in
    c.in_ok-answer_lines-in-Ok.ensures ascends
    ∙ ap (cut b.limit) (sym (lines_are now c.args.explore.now b _))
    ∙ ap (λ groups. cut b.limit (lines_of x b groups)) done.1
    ∙ sym (ap (λ conflict. answer_unless components conflict (cut b.limit (lines_of x b (rows_grouped x dims components passing)))) done.0)

pub returns-in_ok-components-in-Err-clause-answer : goal.returns-in_ok-components-in-Err-clause-answer
returns-in_ok-components-in-Err-clause-answer c = λ now count seen h.
    let x = placed_explore now c.args.explore.now in
    let plan = c.args.plan.now in
    let b = plan.bound in
    let dims = dims_of b.picks in
    let components = query_components x b in
    let passing = filter (does_pass plan) seen in
    let given = given_of x plan seen in
    let regular = c.given_rows_are_regular.ensures x dims components passing in
    let lines = cut b.limit (lines_of x b (rows_grouped x dims components passing)) in
    let conflict = first_conflict (length dims) (ops_of x components) given in
    let numbers = c.as_slice.ensures ∙ c.in_ok-components-in-Err.ensures ∙ sym (query_components_are now c.args.explore.now b) in
    subst (λ ns. IfOk c.refused_by.result (λ answer. answer ≡ answer_unless ns conflict lines)) numbers
    (c.refused_by.ensures.answer conflict lines (c.in-Err.ensures.conflict (length dims) (ops_of x components) given h.taken regular))
