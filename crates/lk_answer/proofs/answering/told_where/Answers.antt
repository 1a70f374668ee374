use Rattle.std.proofs.Common.{subst, sym, w64}
use Rattle.std.proofs.lemmas.Int.{to_z-of_z}
use Rattle.std.specs.Prelude.{[], slice_index_or}
use Rattle.lk_val.specs.Memory.{IsUnlessMemory}
use Rattle.lk_table.specs.Contents.{rows_of_each}
use Rattle.lk_ask.specs.Asks.{is_no_memory}
use Rattle.lk_answer.specs.Answers.{told_at, told_where}
use Rattle.lk_answer.specs.Routes.{LeadsTo}
use Rattle.lk_answer.proofs.answering.told_where.Goals as goal

pub told_rolled-requires-clause-rollup : goal.told_rolled-requires-clause-rollup
told_rolled-requires-clause-rollup c =
    (subst (LeadsTo c.args.e.now.model c.args.bound) c.in-Rollup.is c.requires.leads).0

pub told_built-requires-clause-group : goal.told_built-requires-clause-group
told_built-requires-clause-group c =
    (subst (LeadsTo c.args.e.now.model c.args.bound) c.in-Build.is c.requires.leads).0

pub told_built-requires-clause-persists : goal.told_built-requires-clause-persists
told_built-requires-clause-persists c =
    (subst (LeadsTo c.args.e.now.model c.args.bound) c.in-Build.is c.requires.leads).1

pub returns-in-Rollup : goal.returns-in-Rollup
returns-in-Rollup c =
    subst (λ route. IsUnlessMemory is_no_memory c.told_rolled.result (told_where c.args.e.now c.args.now c.args.bound route)) (sym c.in-Rollup.is) c.told_rolled.ensures

pub returns-in-Build : goal.returns-in-Build
returns-in-Build c =
    let e = c.args.e.now in
    subst (λ route. IsUnlessMemory is_no_memory c.told_built.result (told_where e c.args.now c.args.bound route)) (sym c.in-Build.is)
    (subst (λ now. IsUnlessMemory is_no_memory c.told_built.result (told_at e.model now (slice_index_or e.keeps.tables c.in-Build.group []) c.args.bound))
    (to_z-of_z w64 c.args.now c.ranges.now) c.told_built.ensures)

pub returns-in-Current : goal.returns-in-Current
returns-in-Current c =
    let e = c.args.e.now in
    subst (λ route. IsUnlessMemory is_no_memory c.told_currently.result (told_where e c.args.now c.args.bound route)) (sym c.in-Current.is)
    (subst (λ now. IsUnlessMemory is_no_memory c.told_currently.result (told_at e.model now (rows_of_each e.state.tables) c.args.bound))
    (to_z-of_z w64 c.args.now c.ranges.now) c.told_currently.ensures)
