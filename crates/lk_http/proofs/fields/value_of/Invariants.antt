-- The first field of the name is among those that are left.
use Rattle.std.proofs.Common.{◌≡◌, map, drop}
use Rattle.httparse.specs.Borrowed.{header_parts}
use Rattle.lk_http.specs.Fields.{value_of}
use Rattle.lk_http.proofs.fields.value_of.Given as goal

abbrev pub invariant-loop-header : goal.invariant-loop-header
invariant-loop-header l =
    value_of l.name (map header_parts (drop l.header-index l.headers)) ≡ value_of l.name (map header_parts l.headers)
