use Rattle.std.proofs.Common.{◌∙◌, List, sym, subst, ap, w64}
use Rattle.std.specs.List.{All}
use Rattle.std.specs.Prelude.{map}
use Rattle.std.proofs.lemmas.Int.{to_z-of_z}
use Rattle.lk_val.specs.Years.{IsMomentInYears}
use Rattle.lk_table.specs.Contents.{rows_of_each}
use Rattle.lk_trigger.specs.Builds.{built_at}
use Rattle.lk_trigger.specs.declared.build.Build.{Build}
use Rattle.lk_edition.proofs.StandingLaws.{all_at}
use Rattle.lk_edition.proofs.opening.made_over.Goals as goal

pub returns-in-Ok-clause-years : goal.returns-in-Ok-clause-years
returns-in-Ok-clause-years c =
    let stored = rows_of_each c.args.tables.now in
    let datagroups = c.as_slice.result.now in
    let same = to_z-of_z w64 c.args.now c.ranges.now in
    subst (λ (builds : List Build). All (λ (build : Build). IsMomentInYears build.moment) builds)
    (sym (ap (λ made. made.builds) c.in_ok-new-in-Ok.ensures.ok ∙ c.in_ok-builds.ensures ∙ ap (λ now. map (built_at stored c.args.number now) datagroups) same))
    (all_at stored c.args.number c.args.now datagroups c.requires.years)
