use Rattle.std.proofs.Common.{◌∙◌, ◌++◌, ◌∷◌, [], ap, arith}
use Rattle.lk_table.specs.declared.column.Column.{Column}
use Rattle.lk_table.proofs.BlockLaws.{nothing_held}
use Rattle.lk_table.proofs.WidenLaws.{none_empty, none_kinds, none_marked}
use Rattle.lk_table.proofs.builder.BlockBuilder.new.Goals as goal

pub loop-kind-preserved : goal.loop-kind-preserved
loop-kind-preserved c =
    let kinds = c.args.kinds.now in
    let i = c.loop-kind.kind-index in
    let columns = c.loop-kind.columns.items in
    let more = c.push.new.self.items in
    let kept = c.loop-kind.invariant in
    let is = c.in_ok-push.ensures.items ∙ ap (λ (one : Column). columns ++ one ∷ []) c.nulls.ensures in
    record {
      kinds = none_kinds kinds i columns more (omega arith) is kept.kinds;
      empty = none_empty kinds i columns more (omega arith) is kept.empty;
      marked = none_marked kinds i columns more (omega arith) is kept.marked;
    }

pub returns-clause-held : goal.returns-clause-held
returns-clause-held c =
    nothing_held c.new.result c.loop-kind.columns.items c.new.ensures c.loop-kind.invariant.empty c.loop-kind.invariant.marked
