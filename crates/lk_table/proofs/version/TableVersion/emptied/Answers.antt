use Rattle.std.proofs.Common.{◌∙◌, ap, arith, length, List}
use Rattle.lk_types.specs.declared.schema.Kind.{Kind}
use Rattle.lk_table.proofs.VersionLaws.{no_parts}
use Rattle.lk_table.proofs.version.TableVersion.emptied.Goals as goal

pub invariant_of-result : goal.invariant_of-result
invariant_of-result c =
    no_parts c.in_ok-from_slice.field-0.items c.self.inside.key c.new.result.items c.new.ensures.items
    (omega (arith, c.self.invariant.narrow, ap (λ (kinds : List Kind). length kinds) (c.in_ok-from_slice.ensures.items ∙ c.deref.ensures.value)))
