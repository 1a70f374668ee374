use Rattle.std.proofs.Common.{◌≡◌, ◌∙◌, List, ℤ, map, sym, subst, ap, w64, to_z, of_z}
use Rattle.std.specs.Arc.{arc_value}
use Rattle.std.specs.Prelude.{Err, Ok, Result}
use Rattle.std.proofs.lemmas.Int.{to_z-of_z}
use Rattle.std.proofs.lemmas.Result.{err_from_is_err_and}
use Rattle.lk_val.specs.Memory.{IsUnlessMemory}
use Rattle.lk_types.specs.Tables.{are_valid_tables}
use Rattle.lk_types.specs.declared.schema.TableDef.{TableDef}
use Rattle.lk_table.specs.Contents.{Content, rows_of_each}
use Rattle.lk_keeps.specs.Anew.{all_kept}
use Rattle.lk_ledger.specs.declared.kept.KeptId.{KeptId}
use Rattle.lk_state.proofs.ContentLaws.{rows_valid}
use Rattle.lk_state.specs.Openings.{is_no_memory, opened}
use Rattle.lk_state.specs.States.{AreTables}
use Rattle.lk_state.specs.declared.fault.OpenFault.{OpenFault}
use Rattle.lk_edition.proofs.OpeningLaws.{opening_fails, opening_is, unless_so}
use Rattle.lk_edition.specs.Editions.{standing_of, state_of}
use Rattle.lk_edition.specs.Openings.{standing_built, standing_opened}
use Rattle.lk_edition.specs.Standings.{Standing}
use Rattle.lk_edition.specs.declared.edition.Base.{Base}
use Rattle.lk_edition.proofs.opening.edition_over.Goals as goal

pub made_over-requires-clause-tables : goal.made_over-requires-clause-tables
made_over-requires-clause-tables c =
    let base = arc_value c.args.base in
    let defs = c.as_slice.ensures ∙ (λ i. (c.deref.ensures i).model.schema.tables) in
    (λ i. are_valid_tables (c.deref-2.ensures i).model.schema.tables (rows_of_each (c.as_slice-2.ensures i)))
    ∙ rows_valid base.model.schema.tables c.in_ok-tables.tables
    (subst (λ (all : List TableDef). AreTables all c.in_ok-tables.tables) defs c.in_ok-tables.ensures.tables)

pub returns-in_err-made-clause-value : goal.returns-in_err-made-clause-value
returns-in_err-made-clause-value c =
    let base = arc_value c.args.base in
    let kept = c.args.kept in
    let seeds = c.args.seeds.now in
    let why = c.in_err-made.field-0.0 in
    let defs = c.as_slice.ensures ∙ (λ i. (c.deref.ensures i).model.schema.tables) in
    let same = to_z-of_z w64 c.args.now c.ranges.now in
    let opens = ap (λ (all : List TableDef). opened all kept seeds) (sym defs) ∙ c.in_ok-tables.ensures.ok in
    let failed = err_from_is_err_and c.from_residual-in_err-made.result c.from_residual-in_err-made.ensures.1 in
    let over = λ (base : Base) (tables : List Content) (now : ℤ) (ids : List KeptId).
    standing_built base.model base.users (state_of kept.number tables ids) now (all_kept base.model (rows_of_each tables)) in
    subst (λ (r : Result Standing OpenFault). IsUnlessMemory is_no_memory r (standing_opened base.model base.users kept seeds c.args.now)) (sym (failed.1 ∙ ap Err failed.2))
    (opening_fails base kept seeds c.args.now c.in_ok-tables.tables opens why (is_no_memory why)
    (unless_so (is_no_memory why) (λ (fails : (ids : List KeptId) → Err why ≡ over c.deref-2.result.now c.as_slice-2.result.now (to_z w64 (of_z w64 c.args.now)) ids) (ids : List KeptId).
    fails ids ∙ (λ i. over (c.deref-2.ensures i) (c.as_slice-2.ensures i) (same i) ids)) c.in_err-made.ensures.err))

pub returns-clause-value : goal.returns-clause-value
returns-clause-value c =
    let base = arc_value c.args.base in
    let kept = c.args.kept in
    let seeds = c.args.seeds.now in
    let tables = c.in_ok-tables.tables in
    let ids = c.in_ok-loads.ensures in
    let defs = c.as_slice.ensures ∙ (λ i. (c.deref.ensures i).model.schema.tables) in
    let same = to_z-of_z w64 c.args.now c.ranges.now in
    let opens = ap (λ (all : List TableDef). opened all kept seeds) (sym defs) ∙ c.in_ok-tables.ensures.ok in
    opening_is base kept seeds c.args.now tables opens (arc_value c.in_ok-made.made) (map arc_value c.in_ok-loads.loads) c.in_ok-new.field-0
    c.in_ok-new.ensures ids
    (λ (ids : List KeptId).
    (λ i. standing_built (sym c.deref-2.ensures i).model (sym c.deref-2.ensures i).users (state_of kept.number (sym c.as_slice-2.ensures i) ids) (sym same i)
    (all_kept (sym c.deref-2.ensures i).model (rows_of_each (sym c.as_slice-2.ensures i))))
    ∙ c.in_ok-made.ensures.ok ids ∙ (λ i. Ok (standing_of (c.deref-2.ensures i) (state_of kept.number (c.as_slice-2.ensures i) ids) (arc_value c.in_ok-made.made))))
