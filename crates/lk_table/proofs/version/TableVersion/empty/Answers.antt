use Rattle.std.proofs.Common.{ap, arith, length, List}
use Rattle.std.proofs.lemmas.List.{length-map}
use Rattle.lk_types.specs.declared.schema.Kind.{Kind}
use Rattle.lk_types.specs.declared.schema.ColumnDef.{ColumnDef}
use Rattle.lk_table.specs.Contents.{kind_of}
use Rattle.lk_table.proofs.VersionLaws.{no_parts}
use Rattle.lk_table.proofs.version.TableVersion.empty.Goals as goal

pub invariant_of-result : goal.invariant_of-result
invariant_of-result c =
    no_parts c.in_ok-kinds_of.field-0.items c.args.def.now.key c.new.result.items c.new.ensures.items
    (omega (
      arith,
      c.len.ensures,
      ap (λ (kinds : List Kind). length kinds) c.in_ok-kinds_of.ensures,
      length-map c.as_slice.result.now kind_of,
      ap (λ (columns : List ColumnDef). length columns) c.as_slice.ensures,
    ))
