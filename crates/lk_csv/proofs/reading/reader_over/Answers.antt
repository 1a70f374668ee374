use Rattle.std.proofs.Common.{refl}
use Rattle.lk_csv.specs.Records.{records_of}
use Rattle.lk_csv.specs.Reading.{records_after}
use Rattle.lk_csv.proofs.reading.reader_over.Goals as goal

pub returns-clause-records : goal.returns-clause-records
unfolding records_of records_after
returns-clause-records c =
    let made = c.from_reader.ensures in
    rw (made.source, made.state) refl
