use Rattle.std.proofs.Common.{◌∙◌, [], ap, subst, sym, w64}
use Rattle.std.proofs.lemmas.Int.{to_z-of_z}
use Rattle.std.specs.Prelude.{slice_index_or}
use Rattle.lk_semantics.specs.Resolved.{IsInModel}
use Rattle.lk_fill.specs.Reads.{HasRowsOf, tables_read}
use Rattle.lk_keeps.specs.Keeps.{Keeps}
use Rattle.lk_answer.proofs.AnswerLaws.{told_over_all}
use Rattle.lk_answer.proofs.answering.told_built.Goals as goal

pub answer_bound-requires-clause-bound : goal.answer_bound-requires-clause-bound
answer_bound-requires-clause-bound c = subst (λ m. IsInModel m c.args.bound) (sym c.model-m.ensures) c.requires.query

pub answer_bound-requires-clause-tables : goal.answer_bound-requires-clause-tables
answer_bound-requires-clause-tables c =
    let wanted = c.as_slice-2.ensures ∙ c.in_ok-wanted.ensures ∙ (λ i. tables_read (c.explore_of.ensures i) (c.as_slice.ensures i)) in
    c.wanted_rows_are_read.ensures c.model-m.result.now c.in_ok-set.set c.args.bound
    (subst (HasRowsOf c.model-m.result.now c.in_ok-set.set) wanted c.in_ok-set.ensures.rows)

pub returns : goal.returns
returns c =
    let wanted = c.as_slice-2.ensures ∙ c.in_ok-wanted.ensures ∙ (λ i. tables_read (c.explore_of.ensures i) (c.as_slice.ensures i)) in
    let has = c.wanted_rows_are_read.ensures c.model-m.result.now c.in_ok-set.set c.args.bound
    (subst (HasRowsOf c.model-m.result.now c.in_ok-set.set) wanted c.in_ok-set.ensures.rows) in
    let stored = c.in_ok-set.ensures.stored ∙ ap (λ (k : Keeps). slice_index_or k.tables c.args.group []) c.keeps.ensures in
    told_over_all c.rows_read_decide_what_is_told.ensures c.model-m.result.now c.args.e.now.model _ c.args.now c.in_ok-set.set _ c.args.bound c.answer_bound.result
    c.model-m.ensures (to_z-of_z w64 c.args.now c.ranges.now) stored has c.answer_bound.ensures
