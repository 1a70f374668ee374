use Rattle.std.proofs.Common.{subst, List}
use Rattle.lk_val.specs.Memory.{IsUnlessMemory}
use Rattle.lk_table.specs.Batches.{Fields, batch_from}
use Rattle.lk_table.specs.Faults.{is_no_memory}
use Rattle.lk_table.proofs.batch.read_batch.Goals as goal

pub returns-clause-value : goal.returns-clause-value
returns-clause-value c =
    subst (λ (records : List Fields). IsUnlessMemory is_no_memory c.read_headed.result (batch_from c.args.def.now records))
    c.reader_over-reader.ensures.records c.read_headed.ensures.value
