use Rattle.std.proofs.Common.{◌≡◌, map, take}
use Rattle.lk_model.specs.ViewKinds.{part_kinds}
use Rattle.lk_model.proofs.view_kinds.ViewKinds.columns_in.Given as goal

abbrev pub invariant-loop-part : goal.invariant-loop-part
invariant-loop-part l = l.parts ≡ map (part_kinds l.self) (take l.part-index l.part-items)
