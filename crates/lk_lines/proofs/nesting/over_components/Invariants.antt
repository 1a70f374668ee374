use Rattle.std.proofs.Common.{◌≡◌, ◌-◌}
use Rattle.lk_lines.specs.Nesting.{put_in_times}
use Rattle.lk_lines.proofs.nesting.over_components.Given as goal

abbrev pub invariant-loop : goal.invariant-loop
invariant-loop l = put_in_times l.x (l.most - l.counter) l.over ≡ put_in_times l.x l.most l.e
