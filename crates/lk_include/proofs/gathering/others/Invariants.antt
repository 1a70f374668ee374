use Rattle.std.proofs.Common.{◌≡◌, ◌++◌, drop}
use Rattle.std.specs.Prelude.{filter, not}
use Rattle.lk_val.specs.Texts.{is_same_text}
use Rattle.lk_include.proofs.gathering.others.Given as goal

abbrev pub invariant-loop-other : goal.invariant-loop-other
invariant-loop-other l =
    l.left ++ filter (λ other. not (is_same_text other l.path)) (drop l.other-index l.paths)
    ≡ filter (λ other. not (is_same_text other l.path)) l.paths
