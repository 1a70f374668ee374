use Rattle.std.proofs.Common.{List, sym, subst, ap, ◌∙◌, w64}
use Rattle.std.proofs.lemmas.Int.{to_z-of_z}
use Rattle.lk_trigger.specs.declared.build.Build.{Build}
use Rattle.lk_edition.proofs.StandingLaws.{checked_stands}
use Rattle.lk_edition.specs.Checks.{rebuilt}
use Rattle.lk_edition.specs.Editions.{standing_with}
use Rattle.lk_edition.specs.Standings.{IsStanding}
use Rattle.lk_edition.specs.declared.edition.Made.{Made}
use Rattle.lk_edition.proofs.checking.edition_checked.Goals as goal

pub next_made-requires : goal.next_made-requires
next_made-requires c =
    let e = c.args.edition.now in
    let groups = c.args.groups.now in
    let stands = checked_stands e c.stands.ensures groups c.args.now c.requires.years c.args.keeps c.requires.next c.requires.kept in
    subst (λ (made : Made). IsStanding (standing_with e made)) (sym c.in_ok-made.ensures.ok)
    (subst (λ (builds : List Build). IsStanding (standing_with e (record { builds = builds; keeps = c.args.keeps })))
    (sym (c.in_ok-builds.ensures ∙ ap (rebuilt e groups) (to_z-of_z w64 c.args.now c.ranges.now))) stands)
