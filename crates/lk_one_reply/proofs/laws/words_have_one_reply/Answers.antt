use Rattle.lk_edition.specs.Offices.{Begins}
use Rattle.lk_one_reply.proofs.OneProject.{one_load}
use Rattle.lk_one_reply.proofs.OneReply.{line_told, one_reply, told_one, usage_told}
use Rattle.lk_one_reply.proofs.laws.words_have_one_reply.Goals as goal

pub returns-clause-loads : goal.returns-clause-loads
returns-clause-loads g c = one_load c.objects_say_one_thing.ensures

pub returns-clause-replies : goal.returns-clause-replies
returns-clause-replies g c = λ says words files input now a b.
    one_reply (one_load c.objects_say_one_thing.ensures) c.bodies_are_replied_one_thing.ensures words files
    (Begins (g.K.Keeper.held c.args.store.now) (g.K.Keeper.handed c.args.store.now)) input now a b says

pub returns-clause-usage : goal.returns-clause-usage
returns-clause-usage g c = λ words files input now a.
    usage_told (one_load c.objects_say_one_thing.ensures) c.bodies_are_replied_one_thing.ensures words files
    (Begins (g.K.Keeper.held c.args.store.now) (g.K.Keeper.handed c.args.store.now)) input now a

pub returns-clause-closed : goal.returns-clause-closed
returns-clause-closed g c = λ says files user explore input now moment line a.
    line_told (one_load c.objects_say_one_thing.ensures) c.bodies_are_replied_one_thing.ensures files
    (Begins (g.K.Keeper.held c.args.store.now) (g.K.Keeper.handed c.args.store.now)) user explore input now moment line a says

pub returns-clause-told : goal.returns-clause-told
returns-clause-told g c = told_one (g.K.Keeper.held c.args.store.now) (g.K.Keeper.handed c.args.store.now)
