use Rattle.std.proofs.Common.{◌≡◌, ◌++◌, drop}
use Rattle.std.specs.Prelude.{filter, not}
use Rattle.lk_include.specs.Gathering.{matches_if}
use Rattle.lk_include.proofs.matching.unmatched.Given as goal

abbrev pub invariant-loop-path : goal.invariant-loop-path
invariant-loop-path l =
    l.left ++ filter (λ path. not (matches_if l.pattern path)) (drop l.path-index l.paths)
    ≡ filter (λ path. not (matches_if l.pattern path)) l.paths
