use Rattle.std.proofs.Common.{of_z, to_z, w64}
use Rattle.std.proofs.lemmas.Int.{to_z-of_z}
use Rattle.lk_serve.proofs.QueryLaws.{replied_unless, tells_if}
use Rattle.lk_serve.proofs.querying.ask_edition.Goals as goal

pub returns-clause-told : goal.returns-clause-told
returns-clause-told c =
    replied_unless c.answers_are_of_one_snapshot.ensures c.args.edition.now c.args.user.now c.args.explore.now c.args.body.now (to_z w64 (of_z w64 c.args.now)) c.args.now
    c.ask.result c.requires.stands c.requires.moment (to_z-of_z w64 c.args.now c.ranges.now) c.ask.ensures.answer

pub returns-clause-tells : goal.returns-clause-tells
returns-clause-tells c =
    tells_if c.args.edition.now c.args.user.now c.args.explore.now c.args.body.now c.args.now c.ask.result
    (replied_unless c.answers_are_of_one_snapshot.ensures c.args.edition.now c.args.user.now c.args.explore.now c.args.body.now (to_z w64 (of_z w64 c.args.now)) c.args.now
    c.ask.result c.requires.stands c.requires.moment (to_z-of_z w64 c.args.now c.ranges.now) c.ask.ensures.answer)
