use Rattle.std.proofs.Common.{rules, arith}
use Rattle.std.proofs.lemmas.Grind.{common_steps}
use Rattle.lk_include.specs.Gathering.{matches_if}
use Rattle.lk_include.proofs.ReadSteps.{fewer_if}
use Rattle.lk_include.proofs.reading.reach.Goals as goal

pub returns-clause-fewer : goal.returns-clause-fewer
returns-clause-fewer c =
    fewer_if c.read_first.result (matches_if c.in_ok-pattern.pattern) c.args.reading.now.left c.in_ok-paths.paths
    c.in_ok-reading.field-0 c.args.reading.now.tasks.items c.read_first.new.tasks.items
    (first_of (search rules, grind (arith, common_steps))) (first_of (search rules, grind (arith, common_steps)))
    c.read_first.ensures
