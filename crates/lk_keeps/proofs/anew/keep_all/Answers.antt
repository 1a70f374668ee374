use Rattle.std.proofs.Common.{◌∙◌, ap, length, subst}
use Rattle.lk_val.specs.Memory.{IsUnlessMemory}
use Rattle.lk_semantics.specs.Joins.{numbers_below}
use Rattle.lk_table.specs.Contents.{rows_of_each}
use Rattle.lk_rollup.specs.Builds.{is_no_memory}
use Rattle.lk_keeps.specs.Anew.{kept_anew, unless_large}
use Rattle.lk_keeps.specs.Keeps.{Keeps, sources_over}
use Rattle.lk_keeps.specs.Large.{large_builds}
use Rattle.lk_keeps.proofs.anew.keep_all.Goals as goal

pub returns : goal.returns
returns c =
    let m = c.args.m.now in
    let stored = rows_of_each c.args.tables.now in
    let groups = c.as_slice.ensures ∙ c.in_ok-groups.ensures ∙ ap numbers_below c.len.ensures in
    subst (IsUnlessMemory is_no_memory c.keep_anew.result)
    ((λ i. kept_anew m (groups i) stored (c.none-keeps.ensures i))
    ∙ ap (λ (keeps : Keeps). unless_large keeps (large_builds m (numbers_below (length m.datagroups)) (sources_over m stored))) (c.all_built_anew_are_whole.ensures m stored c.requires.model)) c.keep_anew.ensures
