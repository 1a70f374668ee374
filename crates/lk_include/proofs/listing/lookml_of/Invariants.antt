use Rattle.std.proofs.Common.{◌≡◌, ◌++◌, drop}
use Rattle.std.specs.Prelude.{filter}
use Rattle.lk_include.specs.Patterns.{is_lookml}
use Rattle.lk_include.proofs.listing.lookml_of.Given as goal

abbrev pub invariant-loop-path : goal.invariant-loop-path
invariant-loop-path l = l.found ++ filter is_lookml (drop l.path-index l.paths) ≡ filter is_lookml l.paths
