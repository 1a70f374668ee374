use Rattle.std.proofs.Common.{◌∙◌, ap, sym}
use Rattle.std.specs.List.{position}
use Rattle.lk_val.specs.Texts.{is_same_text}
use Rattle.lk_resolved.specs.DerivedTables.{datagroup_of}
use Rattle.lk_resolved.proofs.derived_table.position_if.Goals as goal

pub returns-in-Some : goal.returns-in-Some
returns-in-Some c =
    let datagroups = c.args.datagroups.now in
    c.position_of.ensures
    ∙ ap (λ name. position (λ datagroup. is_same_text datagroup name) datagroups) c.as_str.ensures
    ∙ ap (datagroup_of datagroups) (sym c.in-Some.is)
