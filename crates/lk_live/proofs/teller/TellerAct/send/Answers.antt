use Rattle.std.proofs.Common.{w64, length, subst}
use Rattle.std.proofs.lemmas.Int.{to_z-of_z}
use Rattle.lk_bureau.specs.Told.{IsTold}
use Rattle.lk_live.proofs.TellerLaws.{learnt, same_reply}
use Rattle.lk_live.proofs.teller.TellerAct.send.Goals as goal

pub returns-in-Done-clause-done : goal.returns-in-Done-clause-done
returns-in-Done-clause-done g c reply is =
    subst (λ r. IsTold (length c.args.desk.now.seen) c.args.user.now c.args.target.now c.args.body.now c.args.now r c.learn.new.self.seen) (same_reply c.in-Done.reply reply is)
    (learnt _ _ _ _ _ _ _ _ _ c.in-Done.reply c.len-least.ensures.length (to_z-of_z w64 c.args.now c.ranges.now)
    (c.act-acted.ensures.told c.in-Done.reply c.in-Done.note c.in-Done.is) c.learn.ensures.seen)
