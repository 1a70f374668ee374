use Rattle.std.proofs.lemmas.Int.{to_z-of_z}
use Rattle.std.proofs.Common.{w64, ap, subst}
use Rattle.lk_edition.specs.Checks.{check_planned}
use Rattle.lk_bureau.specs.Steps.{CheckShows}
use Rattle.lk_bureau.proofs.StepLaws.{check_carried, check_told, load_carried, load_told}
use Rattle.lk_bureau.proofs.acting.act.Goals as goal

pub returns-in-Ok-copy_call-clause-told : goal.returns-in-Ok-copy_call-clause-told
returns-in-Ok-copy_call-clause-told g c reply note is =
    load_told _ _ _ _ _ reply note c.args.bureau.now c.pad.new.self c.load.new.self _ _ _ c.pad.ensures.keeper c.pad.ensures.standing c.pad.ensures.padded
    (ap g.K.Keeper.held c.pad.ensures.keeper) _ _ _ c.in-Ok-copy_call.call c.in-Load.is c.in-Ok-copy_call.ensures c.last.ensures c.in-Ok.ensures.ok
    (c.load.ensures.done reply note is)

pub returns-in-Ok-copy_call-clause-done : goal.returns-in-Ok-copy_call-clause-done
returns-in-Ok-copy_call-clause-done g c reply note is =
    load_carried c.args.least _ _ _ _ reply note c.args.bureau.now c.pad.new.self c.load.new.self _ _ _ c.pad.ensures.keeper c.pad.ensures.standing c.pad.ensures.padded
    (ap g.K.Keeper.held c.pad.ensures.keeper) _ _ _ c.in-Ok-copy_call.call c.in-Load.is c.in-Ok-copy_call.ensures (c.load.ensures.done reply note is)

pub returns-in-Check-clause-told : goal.returns-in-Check-clause-told
returns-in-Check-clause-told g c reply note is =
    check_told _ _ _ _ _ reply note c.args.bureau.now c.pad.new.self c.check.new.self _ _ _ c.pad.ensures.keeper c.pad.ensures.standing c.pad.ensures.padded
    (ap g.K.Keeper.held c.pad.ensures.keeper) c.in-Check.is c.last.ensures c.in-Ok.ensures.ok
    (subst (λ z. CheckShows {K = g.row.K.Denot} (check_planned c.pad.new.self.standing c.args.user.now z) reply note c.pad.new.self c.check.new.self
    (g.K.Keeper.held c.pad.new.self.keeper) (g.K.Keeper.held c.check.new.self.keeper)) (to_z-of_z w64 c.args.now c.ranges.now) (c.check.ensures.done reply note is))

pub returns-in-Check-clause-done : goal.returns-in-Check-clause-done
returns-in-Check-clause-done g c reply note is =
    check_carried c.args.least _ _ _ _ reply note c.args.bureau.now c.pad.new.self c.check.new.self _ _ _ c.pad.ensures.keeper c.pad.ensures.standing c.pad.ensures.padded
    (ap g.K.Keeper.held c.pad.ensures.keeper) c.in-Check.is
    (subst (λ z. CheckShows {K = g.row.K.Denot} (check_planned c.pad.new.self.standing c.args.user.now z) reply note c.pad.new.self c.check.new.self
    (g.K.Keeper.held c.pad.new.self.keeper) (g.K.Keeper.held c.check.new.self.keeper)) (to_z-of_z w64 c.args.now c.ranges.now) (c.check.ensures.done reply note is))
