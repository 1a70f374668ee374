use Rattle.std.proofs.Common.{◌≡◌, ◌++◌, drop}
use Rattle.std.specs.Prelude.{map}
use Rattle.lk_params.proofs.overlay.add_names.Given as goal

abbrev pub invariant-loop-item : goal.invariant-loop-item
invariant-loop-item l = l.all ++ map (λ item. item.name) (drop l.item-index l.items) ≡ l.fn.all ++ map (λ item. item.name) l.items
