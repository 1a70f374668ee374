use Rattle.std.proofs.Common.{◌≡◌, ◌∙◌, ◌++◌, ap, sym, Option, Ok}
use Rattle.std.specs.Arc.{arc_value}
use Rattle.lk_val.specs.declared.value.Value.{Value}
use Rattle.lk_table.specs.Contents.{Content}
use Rattle.lk_table.specs.Loads.{unless_conflict}
use Rattle.lk_table.specs.Versions.{rows_of}
use Rattle.lk_table.proofs.VersionLaws.{loaded_behind}
use Rattle.lk_table.proofs.load.append.Goals as goal

pub returns-in-Some-clause-value : goal.returns-in-Some-clause-value
returns-in-Some-clause-value c =
    let part = c.in_ok-part.part in
    let t = c.args.t.now in
    let rows : rows_of c.deref.result.now ≡ t.rows = ap rows_of c.deref.ensures.value ∙ ap (λ (content : Content). content.rows) c.t.view_is in
    ap (λ (found : Option Value). unless_conflict found t (t.rows ++ part.rows)) (sym c.in-Some.is)
    ∙ loaded_behind t part (arc_value c.args.block.now) c.deref.result.now _ c.in_ok-part.ensures c.requires.1 rows c.in_ok-key.ensures

pub returns-in_ok-with_part-in-None-clause-value : goal.returns-in_ok-with_part-in-None-clause-value
returns-in_ok-with_part-in-None-clause-value c =
    let part = c.in_ok-part.part in
    let t = c.args.t.now in
    let rows : rows_of c.deref.result.now ≡ t.rows = ap rows_of c.deref.ensures.value ∙ ap (λ (content : Content). content.rows) c.t.view_is in
    ap Ok c.in_ok-with_part-in-None.ensures
    ∙ ap (λ (found : Option Value). unless_conflict found t (t.rows ++ part.rows)) (sym c.in-None.is)
    ∙ loaded_behind t part (arc_value c.args.block.now) c.deref.result.now _ c.in_ok-part.ensures c.requires.1 rows c.in_ok-key.ensures
