use Rattle.std.proofs.Common.{◌∙◌, [], ap, subst, sym, w64}
use Rattle.std.proofs.lemmas.Int.{to_z-of_z}
use Rattle.lk_types.specs.Tables.{are_valid_tables}
use Rattle.lk_types.specs.declared.model.Model.{Model}
use Rattle.lk_types.specs.declared.rows.Sources.{Sources}
use Rattle.lk_semantics.specs.Resolved.{IsInModel}
use Rattle.lk_table.specs.Contents.{rows_of_each}
use Rattle.lk_fill.specs.Reads.{HasRowsOf, tables_read}
use Rattle.lk_state.proofs.ContentLaws.{rows_valid}
use Rattle.lk_answer.proofs.AnswerLaws.{none_wanted, stored_alone, told_over_all}
use Rattle.lk_answer.proofs.answering.told_currently.Goals as goal

pub answer_bound-requires-clause-tables : goal.answer_bound-requires-clause-tables
answer_bound-requires-clause-tables c =
    let e = c.args.e.now in
    let wanted = c.in_ok-wanted.ensures ∙ (λ i. tables_read (c.explore_of.ensures i) (c.as_slice.ensures i)) in
    let none = none_wanted c.in_ok-wanted.wanted (sym c.is_empty.ensures ∙ c.if-is_empty.true) in
    c.wanted_rows_are_read.ensures c.model-m.result.now c.set.result.now c.args.bound
    (subst (HasRowsOf c.model-m.result.now c.set.result.now) (sym none ∙ wanted)
    (subst (λ (m : Model). HasRowsOf m c.set.result.now []) (sym c.model-m.ensures)
    (subst (λ (s : Sources). HasRowsOf e.model s []) (sym c.set.ensures) (stored_alone e c.stands.ensures))))

pub returns-then-is_empty : goal.returns-then-is_empty
returns-then-is_empty c =
    let e = c.args.e.now in
    let wanted = c.in_ok-wanted.ensures ∙ (λ i. tables_read (c.explore_of.ensures i) (c.as_slice.ensures i)) in
    let none = none_wanted c.in_ok-wanted.wanted (sym c.is_empty.ensures ∙ c.if-is_empty.true) in
    let has = c.wanted_rows_are_read.ensures c.model-m.result.now c.set.result.now c.args.bound
    (subst (HasRowsOf c.model-m.result.now c.set.result.now) (sym none ∙ wanted)
    (subst (λ (m : Model). HasRowsOf m c.set.result.now []) (sym c.model-m.ensures)
    (subst (λ (s : Sources). HasRowsOf e.model s []) (sym c.set.ensures) (stored_alone e c.stands.ensures)))) in
    told_over_all c.rows_read_decide_what_is_told.ensures c.model-m.result.now e.model _ c.args.now c.set.result.now (rows_of_each e.state.tables) c.args.bound c.answer_bound.result
    c.model-m.ensures (to_z-of_z w64 c.args.now c.ranges.now) (ap (λ (s : Sources). s.stored) c.set.ensures) has c.answer_bound.ensures

pub fill-requires-clause-tables : goal.fill-requires-clause-tables
fill-requires-clause-tables c =
    let e = c.args.e.now in
    (λ i. are_valid_tables (c.model-m.ensures i).schema.tables (rows_of_each (c.tables.ensures.tables i)))
    ∙ rows_valid e.model.schema.tables e.state.tables c.stands.ensures.tables

pub answer_bound-requires-2-clause-bound : goal.answer_bound-requires-2-clause-bound
answer_bound-requires-2-clause-bound c = subst (λ m. IsInModel m c.args.bound) (sym c.model-m.ensures) c.requires

pub answer_bound-requires-2-clause-tables : goal.answer_bound-requires-2-clause-tables
answer_bound-requires-2-clause-tables c =
    let wanted = c.as_slice-2.ensures ∙ c.in_ok-wanted.ensures ∙ (λ i. tables_read (c.explore_of.ensures i) (c.as_slice.ensures i)) in
    c.wanted_rows_are_read.ensures c.model-m.result.now c.in_ok-set.set c.args.bound
    (subst (HasRowsOf c.model-m.result.now c.in_ok-set.set) wanted c.in_ok-set.ensures.rows)

pub returns : goal.returns
returns c =
    let e = c.args.e.now in
    let wanted = c.as_slice-2.ensures ∙ c.in_ok-wanted.ensures ∙ (λ i. tables_read (c.explore_of.ensures i) (c.as_slice.ensures i)) in
    let has = c.wanted_rows_are_read.ensures c.model-m.result.now c.in_ok-set.set c.args.bound
    (subst (HasRowsOf c.model-m.result.now c.in_ok-set.set) wanted c.in_ok-set.ensures.rows) in
    let stored = c.in_ok-set.ensures.stored ∙ ap rows_of_each c.tables.ensures.tables in
    told_over_all c.rows_read_decide_what_is_told.ensures c.model-m.result.now e.model _ c.args.now c.in_ok-set.set (rows_of_each e.state.tables) c.args.bound c.answer_bound-2.result
    c.model-m.ensures (to_z-of_z w64 c.args.now c.ranges.now) stored has c.answer_bound-2.ensures
