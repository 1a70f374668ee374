use Rattle.std.proofs.Common.{◌≡◌, ◌∙◌, [], ap, sym, arith, false, below_more, Some}
use Rattle.std.specs.Prelude.{slice_index_or}
use Rattle.std.proofs.lemmas.List.{get_or-map, length-map}
use Rattle.lk_types.specs.Tables.{Cells}
use Rattle.lk_val.specs.ValueRefs.{value_of_ref}
use Rattle.lk_val.specs.declared.value.Value.TheVariants as value
use Rattle.lk_table.specs.Contents.{cell_at, keys_at}
use Rattle.lk_table.specs.Loads.{is_conflict}
use Rattle.lk_table.specs.Versions.{rows_of}
use Rattle.lk_table.proofs.VersionLaws.{conflict_by, found_first, found_none}
use Rattle.lk_table.proofs.load.conflict_at.Goals as goal

pub returns-then-branch : goal.returns-then-branch
returns-then-branch c =
    let keys = keys_at c.args.column c.args.part.now.rows in
    let held = keys_at c.args.column (rows_of c.args.parts.now) in
    let here = c.cell-key.ensures ∙ sym (get_or-map (λ (row : Cells). cell_at row c.args.column) c.args.part.now.rows c.loop-row.row [] value.Null (omega arith)) in
    let conflict = conflict_by c.args.column (value_of_ref c.cell-key.result) c.args.parts.now c.in_ok-again.again keys c.in_ok-again.ensures c.requires.parts
    ∙ sym c.in_ok-stands_again.ensures ∙ c.if-branch.true in
    ap Some (c.in_ok-to_value.ensures ∙ here)
    ∙ found_first (is_conflict held keys) keys c.loop-row.row value.Null
    (omega (arith, c.len-row-end.ensures, length-map c.args.part.now.rows (λ (row : Cells). cell_at row c.args.column)))
    c.loop-row.invariant (ap (is_conflict held keys) (sym here) ∙ conflict)

pub loop-row-preserved : goal.loop-row-preserved
loop-row-preserved c =
    let keys = keys_at c.args.column c.args.part.now.rows in
    let held = keys_at c.args.column (rows_of c.args.parts.now) in
    let here = c.cell-key.ensures ∙ sym (get_or-map (λ (row : Cells). cell_at row c.args.column) c.args.part.now.rows c.loop-row.row [] value.Null (omega arith)) in
    let free = conflict_by c.args.column (value_of_ref c.cell-key.result) c.args.parts.now c.in_ok-again.again keys c.in_ok-again.ensures c.requires.parts
    ∙ sym c.in_ok-stands_again.ensures ∙ c.if-branch.false in
    below_more (λ k. is_conflict held keys (slice_index_or keys k value.Null) ≡ false) c.loop-row.row c.loop-row.invariant (ap (is_conflict held keys) (sym here) ∙ free)

pub returns : goal.returns
returns c =
    let keys = keys_at c.args.column c.args.part.now.rows in
    let held = keys_at c.args.column (rows_of c.args.parts.now) in
    found_none (is_conflict held keys) keys value.Null
    (λ k below. c.loop-row.invariant k (omega (arith, below, c.len-row-end.ensures, length-map c.args.part.now.rows (λ (row : Cells). cell_at row c.args.column))))
