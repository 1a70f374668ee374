use Rattle.std.proofs.Common.{◌≡◌, ◌<◌, ◌∙◌, ℕ, Bool, arith, length, of_z, to_z, w64}
use Rattle.std.proofs.lemmas.List.{get_or_read}
use Rattle.lk_table.specs.Contents.{rows_of_each}
use Rattle.lk_trigger.specs.Builds.{build_at, datagroup_at, does_trigger, no_build, no_datagroup}
use Rattle.lk_trigger.proofs.NumberLaws.{kept_next}
use Rattle.lk_trigger.proofs.trigger.triggered.Goals as goal

pub loop-number-preserved : goal.loop-number-preserved
loop-number-preserved c =
    let n = c.loop-number.number in
    let rows = rows_of_each c.args.tables.now in
    let below : n < length c.args.datagroups.now = omega (arith, c.loop-number-test.true) in
    let built : n < length c.args.builds.now = omega (arith, below, c.requires.one_each) in
    let build : c.index-builds-number.result ≡ build_at c.args.builds.now n = get_or_read c.args.builds.now n _ built c.index-builds-number.is no_build in
    let datagroup : c.index-datagroups-number.result ≡ datagroup_at c.args.datagroups.now n = get_or_read c.args.datagroups.now n _ below c.index-datagroups-number.is no_datagroup in
    let now = to_z w64 (of_z w64 c.args.now) in
    let test : ℕ → Bool = λ g. does_trigger rows now (build_at c.args.builds.now g) (datagroup_at c.args.datagroups.now g) in
    kept_next test n c.loop-number.numbers _ c.does_trigger-triggers.result c.loop-number.invariant
    (c.does_trigger-triggers.ensures ∙ (λ i. does_trigger rows now (build i) (datagroup i))) c.in_ok-add_if.ensures
