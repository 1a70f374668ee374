use Rattle.std.proofs.Common.{sym, ap}
use Rattle.lk_read.specs.Outcome as outcome
use Rattle.lk_include.specs.Gathering.{tree_in}
use Rattle.lk_include.proofs.ReadingLaws.{only_reading}
use Rattle.lk_include.proofs.ReadSteps.{refused_as}
use Rattle.lk_include.proofs.reading.read_tree.Goals as goal

pub returns-in-Ok-clause-tree : goal.returns-in-Ok-clause-tree
returns-in-Ok-clause-tree c =
    sym (ap (tree_in c.args.path.now) (only_reading c.args.body.now (outcome.tree c.in-Ok.tree) c.in-Ok.ensures.outcome))

pub returns-in-Err-clause-tree : goal.returns-in-Err-clause-tree
returns-in-Err-clause-tree c =
    refused_as c.args.path.now c.args.body.now c.in-Err.fault c.refusal.result c.in-Err.ensures.outcome c.refusal.ensures.told

pub returns-in-Ok-clause-read : goal.returns-in-Ok-clause-read
returns-in-Ok-clause-read c = record { text = c.args.body.now; spells = c.in-Ok.ensures.found }
