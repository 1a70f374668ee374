use Rattle.std.proofs.Common.{◌≡◌, ◌++◌, drop}
use Rattle.std.specs.Prelude.{filter}
use Rattle.lk_include.specs.Gathering.{matches_if}
use Rattle.lk_include.proofs.matching.matched.Given as goal

abbrev pub invariant-loop-path : goal.invariant-loop-path
invariant-loop-path l =
    l.found ++ filter (matches_if l.pattern) (drop l.path-index l.paths) ≡ filter (matches_if l.pattern) l.paths
