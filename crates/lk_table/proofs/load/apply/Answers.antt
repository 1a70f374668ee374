use Rattle.std.proofs.Common.{◌∙◌, ap, ap₂, sym, subst, Bool, false}
use Rattle.std.specs.Prelude.{Result}
use Rattle.lk_val.specs.Memory.{IsUnlessMemory}
use Rattle.lk_table.specs.Contents.{Content}
use Rattle.lk_table.specs.Faults.{is_no_memory}
use Rattle.lk_table.specs.Loads.{loaded}
use Rattle.lk_table.specs.declared.fault.BatchFault.{BatchFault}
use Rattle.lk_table.proofs.VersionLaws.{loaded_emptied}
use Rattle.lk_table.proofs.load.apply.Goals as goal

pub returns-in_ok-emptied-clause-value : goal.returns-in_ok-emptied-clause-value
returns-in_ok-emptied-clause-value c =
    subst (λ (r : Result Content BatchFault). IsUnlessMemory is_no_memory c.append.result r)
    (ap₂ (λ (t b : Content). loaded t b false) c.in_ok-emptied.ensures c.block.ensures
    ∙ loaded_emptied c.args.t.now c.args.b.now
    ∙ ap (λ (replace : Bool). loaded c.args.t.now c.args.b.now replace) (sym c.if-replace.true))
    c.append.ensures.value

pub returns-else-replace-clause-value : goal.returns-else-replace-clause-value
returns-else-replace-clause-value c =
    subst (λ (r : Result Content BatchFault). IsUnlessMemory is_no_memory c.append-else-replace.result r)
    (ap (λ (b : Content). loaded c.args.t.now b false) c.block-else-replace.ensures
    ∙ ap (λ (replace : Bool). loaded c.args.t.now c.args.b.now replace) (sym c.if-replace.false))
    c.append-else-replace.ensures.value
