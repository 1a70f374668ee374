use Rattle.std.proofs.Common.{◌≡◌, ◌++◌, drop}
use Rattle.std.specs.Prelude.{map, codes}
use Rattle.std.specs.List.{flat_map}
use Rattle.lk_params.specs.Parameters.{named}
use Rattle.lk_include.specs.Gathering.{included, patterns_in}
use Rattle.lk_include.proofs.includes.includes_of.Given as goal

abbrev pub invariant-loop-item : goal.invariant-loop-item
invariant-loop-item l =
    l.found ++ flat_map (λ item. map (included item.place) (patterns_in item.value)) (named (codes "include") (drop l.item-index l.item-items))
    ≡ flat_map (λ item. map (included item.place) (patterns_in item.value)) (named (codes "include") l.item-items)
