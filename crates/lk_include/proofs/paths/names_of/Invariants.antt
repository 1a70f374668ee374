use Rattle.std.proofs.Common.{◌≡◌, ◌++◌, drop}
use Rattle.lk_include.specs.Patterns.{names_of, with_front}
use Rattle.lk_include.proofs.paths.names_of.Given as goal

-- the names so far, and those of what is left behind the name that has begun, are all names
abbrev pub invariant-loop-byte : goal.invariant-loop-byte
invariant-loop-byte l = l.names ++ with_front l.name (names_of (drop l.byte-index l.path)) ≡ names_of l.path
