use Rattle.std.proofs.Common.{◌≡◌, drop}
use Rattle.std.specs.List.{list_any}
use Rattle.lk_include.specs.Gathering.{matches_if}
use Rattle.lk_include.proofs.matching.matches_some.Given as goal

abbrev pub invariant-loop-path : goal.invariant-loop-path
invariant-loop-path l = list_any (matches_if l.pattern) (drop l.path-index l.paths) ≡ list_any (matches_if l.pattern) l.paths
