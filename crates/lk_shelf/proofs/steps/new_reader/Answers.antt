use Rattle.std.proofs.Common.{length, zero-le}
use Rattle.left_right.specs.Sides.{view}
use Rattle.lk_shelf.proofs.KnowingLaws.{joins, tells, takes_over}
use Rattle.lk_shelf.proofs.steps.new_reader.Goals as goal

pub reader-requires : goal.reader-requires
reader-requires g c = λ stand knowing all. joins (length stand) 0 knowing all zero-le

pub tell-requires : goal.tell-requires
tell-requires g c = let place = c.args.writer.now.desk.place in λ stand knowing all there. tells (length stand) place.id (view place) knowing all there

pub learn-requires-clause-rule : goal.learn-requires-clause-rule
learn-requires-clause-rule g c = λ stand knowing all there apart told. takes_over (length stand) c.in_ok-reader.reader.place.id c.tell.result.id (view c.tell.result) knowing all apart told
