use Rattle.std.proofs.Common.{length, le_refl}
use Rattle.left_right.specs.Sides.{view}
use Rattle.lk_shelf.proofs.KnowingLaws.{looks}
use Rattle.lk_shelf.proofs.desk.look.Goals as goal

pub enter_as-requires : goal.enter_as-requires
enter_as-requires g c = let place = c.args.reader.place in λ stand knowing all there. looks (length stand) (length stand) place.id (view place) knowing (le_refl (length stand)) all there
