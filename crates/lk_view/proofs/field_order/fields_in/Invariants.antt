use Rattle.std.proofs.Common.{◌≡◌, map, drop}
use Rattle.std.specs.List.{filter, fold}
use Rattle.lk_view.specs.FieldOrder.{fields_in, is_field, put_in}
use Rattle.lk_view.proofs.field_order.fields_in.Given as goal

abbrev pub invariant-loop-item : goal.invariant-loop-item
invariant-loop-item l =
    fold put_in (map (λ f. f.now) l.fields.items) (filter is_field (drop l.item-index l.items)) ≡ fields_in l.items
