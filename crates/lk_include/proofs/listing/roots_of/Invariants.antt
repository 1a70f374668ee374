use Rattle.std.proofs.Common.{◌≡◌, ◌++◌, drop}
use Rattle.std.specs.Prelude.{filter}
use Rattle.lk_include.specs.Patterns.{is_root}
use Rattle.lk_include.proofs.listing.roots_of.Given as goal

abbrev pub invariant-loop-path : goal.invariant-loop-path
invariant-loop-path l = l.found ++ filter is_root (drop l.path-index l.paths) ≡ filter is_root l.paths
