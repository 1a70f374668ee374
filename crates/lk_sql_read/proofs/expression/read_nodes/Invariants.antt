use Rattle.std.proofs.Common.{◌≡◌, drop}
use Rattle.lk_sql_read.specs.Machine.{read, start}
use Rattle.lk_sql_read.proofs.expression.read_nodes.Given as goal

abbrev pub invariant-loop-byte : goal.invariant-loop-byte
invariant-loop-byte l = read (drop l._byte-index l.text) l.reader l.rest ≡ read l.text start l.text
