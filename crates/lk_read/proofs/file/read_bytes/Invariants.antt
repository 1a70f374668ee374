use Rattle.std.proofs.Common.{◌≡◌, drop}
use Rattle.lk_read.specs.Reading.{read_from}
use Rattle.lk_read.proofs.file.read_bytes.Given as goal

-- what is left, read from here, is the text, read from the front
abbrev pub invariant-loop-byte : goal.invariant-loop-byte
invariant-loop-byte l = record {
  count : l.place ≡ l.byte-index;
  rest : read_from 32 l.place l.reader (drop l.byte-index l.bytes) ≡ read_from 32 0 l.fn.first l.bytes;
}
