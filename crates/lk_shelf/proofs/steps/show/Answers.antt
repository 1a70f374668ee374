use Rattle.std.proofs.Common.{◌≡◌, ◌≤◌, length, fold, subst, sym}
use Rattle.left_right.specs.Sides.{view}
use Rattle.lk_shelf.proofs.KnowingLaws.{looks}
use Rattle.lk_shelf.proofs.steps.show.Goals as goal

-- the copy that is shown next has the list of the stand, which is no shorter
pub publish_as-after-requires : goal.publish_as-after-requires
publish_as-after-requires g c =
    let before = length c.loop-2.writer.desk.shown.value in
    let place = c.loop-2.writer.desk.place in
    λ next absorbed knowing all there.
    let counted : length next ≡ length c.args.stand = subst (λ pending. length next ≡ fold (λ count stand. length stand) before pending) c.loop-2.invariant.2 absorbed in
    looks before (length next) place.id (view place) knowing (subst (λ count. before ≤ count) (sym counted) c.loop-2.invariant.3) all there
