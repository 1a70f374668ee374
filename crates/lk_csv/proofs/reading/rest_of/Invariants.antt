use Rattle.std.proofs.Common.{◌≡◌, ◌++◌}
use Rattle.lk_csv.specs.Reading.{IsReading, bytes_left, records_left}
use Rattle.lk_csv.proofs.reading.rest_of.Given as goal

abbrev pub invariant-loop-rows : goal.invariant-loop-rows
invariant-loop-rows l = record {
  reading : IsReading l.reader;
  rest : l.rows ++ records_left l.reader ≡ records_left l.fn.reader;
}

abbrev pub decreases-loop-rows : goal.decreases-loop-rows
decreases-loop-rows l = bytes_left l.reader
