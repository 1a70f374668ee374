use Rattle.std.proofs.Common.{[], arith, rules}
use Rattle.lk_table.specs.Contents.{lacks_key}
use Rattle.lk_table.proofs.ReadLaws.{first_place, no_place}
use Rattle.lk_table.proofs.batch.null_row.Goals as goal

pub returns-then-lacks_key-clause-value : goal.returns-then-lacks_key-clause-value
returns-then-lacks_key-clause-value c =
    let content = c.args.block.now in
    first_place (lacks_key content.key) content.rows c.loop-row.row [] (omega arith) c.loop-row.invariant (search rules)

pub returns-clause-value : goal.returns-clause-value
returns-clause-value c =
    let content = c.args.block.now in
    no_place (lacks_key content.key) content.rows [] (λ k below. c.loop-row.invariant k (omega (arith, below)))
