use Rattle.std.proofs.Common.{◌≡◌, drop}
use Rattle.std.specs.List.{list_any}
use Rattle.lk_fields.specs.Rows.{is_marked}
use Rattle.lk_fields.proofs.marks.is_any_marked.Given as goal

abbrev pub invariant-loop-number : goal.invariant-loop-number
invariant-loop-number l =
    list_any (is_marked l.marks) (drop l.number-index l.names) ≡ list_any (is_marked l.marks) l.names
