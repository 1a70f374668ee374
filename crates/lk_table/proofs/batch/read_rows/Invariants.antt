use Rattle.std.proofs.Common.{◌≡◌, map}
use Rattle.lk_csv.specs.Reading.{IsReading, bytes_left, records_left}
use Rattle.lk_table.specs.Columns.{IsBuilt, built}
use Rattle.lk_table.specs.Contents.{kind_of}
use Rattle.lk_table.specs.Reading.{no_rows, rows_added}
use Rattle.lk_table.proofs.batch.read_rows.Given as goal

abbrev pub invariant-loop-record : goal.invariant-loop-record
invariant-loop-record l = record {
  reading : IsReading l.reader;
  held : IsBuilt l.rows;
  kinds : (built l.rows).kinds ≡ map kind_of (map (λ column. column.now) l.named);
  rest : rows_added (map (λ column. column.now) l.named) (built l.rows) (records_left l.reader)
      ≡ rows_added (map (λ column. column.now) l.named) (no_rows (map (λ column. column.now) l.named)) (records_left l.initial.reader);
}

abbrev pub decreases-loop-record : goal.decreases-loop-record
decreases-loop-record l = bytes_left l.reader
