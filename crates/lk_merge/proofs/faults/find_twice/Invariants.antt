use Rattle.std.proofs.Common.{◌≡◌, ◌≤◌, [], drop, take, length}
use Rattle.lk_params.specs.Picking.{first_along}
use Rattle.lk_merge.specs.MergeFaults.{declared_twice}
use Rattle.lk_merge.proofs.faults.find_twice.Given as goal

abbrev pub invariant-loop-place : goal.invariant-loop-place
invariant-loop-place l = record {
  within : l.place ≤ length l.all;
  rest : first_along declared_twice (take l.place l.all) (drop l.place l.all) ≡ first_along declared_twice [] l.all;
}
