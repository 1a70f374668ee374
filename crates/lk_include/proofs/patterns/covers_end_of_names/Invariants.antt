use Rattle.std.proofs.Common.{◌≡◌, ◌+◌, length}
use Rattle.lk_include.specs.Patterns.{is_any_folders, matches_name}
use Rattle.lk_include.specs.Patterns.{some_end, covers}
use Rattle.lk_include.proofs.patterns.covers_end_of_names.Given as goal

-- what is left of the pattern covers some end of what is left as the whole covers some end of the whole
abbrev pub invariant-loop-further : goal.invariant-loop-further
invariant-loop-further l =
    some_end (covers is_any_folders matches_name l.left) l.rest ≡ some_end (covers is_any_folders matches_name l.pattern) l.names

abbrev pub decreases-loop-further : goal.decreases-loop-further
decreases-loop-further l = length l.left + length l.rest
