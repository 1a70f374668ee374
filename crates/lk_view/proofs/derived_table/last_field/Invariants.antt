use Rattle.std.proofs.Common.{◌≡◌, option_map, drop}
use Rattle.std.specs.Option.{option_or}
use Rattle.lk_view.specs.DerivedTables.{last_field}
use Rattle.lk_view.proofs.derived_table.last_field.Given as goal

abbrev pub invariant-loop-item : goal.invariant-loop-item
invariant-loop-item l =
    option_or (last_field l.name (drop l.item-index l.source)) (option_map (λ item. item.now) l.last) ≡ last_field l.name l.source
