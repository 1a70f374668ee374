use Rattle.std.proofs.Common.{◌≡◌, ◌+◌, drop}
use Rattle.lk_sql_read.specs.Tokens.{number_length}
use Rattle.lk_sql_read.proofs.token.number_length.Given as goal

abbrev pub invariant-loop-byte : goal.invariant-loop-byte
invariant-loop-byte l = record {
  few : l.count ≡ l.byte-index;
  rest : l.count + number_length (drop l.byte-index l.text) ≡ number_length l.text;
}
