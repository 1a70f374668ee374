use Rattle.std.proofs.Common.{◌≡◌, drop}
use Rattle.lk_include.specs.Patterns.{names_behind}
use Rattle.lk_include.proofs.matching.names_behind.Given as goal

-- what is left behind the rest of the folder
abbrev pub invariant-loop-name : goal.invariant-loop-name
invariant-loop-name l = names_behind (drop l.name-index l.folder) l.left ≡ names_behind l.folder l.names
