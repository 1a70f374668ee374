use Rattle.std.proofs.Common.{List, subst}
use Rattle.lk_val.specs.Memory.{IsUnlessMemory}
use Rattle.lk_types.specs.Tables.{Rows}
use Rattle.lk_rollup.specs.Builds.{is_no_memory}
use Rattle.lk_keeps.specs.Anew.{kept_anew}
use Rattle.lk_keeps.proofs.anew.keep_anew.Goals as goal

pub returns : goal.returns
returns c =
    subst (λ (stored : List Rows). IsUnlessMemory is_no_memory c.kept.result (kept_anew c.args.m.now c.args.groups.now stored c.args.keeps.now))
    c.in_ok-set.ensures.stored c.kept.ensures
