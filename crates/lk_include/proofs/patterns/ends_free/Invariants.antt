use Rattle.std.proofs.Common.{◌≡◌, false, drop}
use Rattle.std.specs.List.{fold}
use Rattle.lk_include.specs.Patterns.{is_any_folders}
use Rattle.lk_include.proofs.patterns.ends_free.Given as goal

abbrev pub invariant-loop-name : goal.invariant-loop-name
invariant-loop-name l =
    fold (λ free name. is_any_folders name) l.free (drop l.name-index l.names)
    ≡ fold (λ free name. is_any_folders name) false l.names
