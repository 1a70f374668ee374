use Rattle.std.proofs.Common.{◌≡◌, drop}
use Rattle.std.specs.List.{list_all}
use Rattle.lk_fields.specs.Rows.{is_marked}
use Rattle.lk_fields.proofs.marks.are_all_marked.Given as goal

abbrev pub invariant-loop-number : goal.invariant-loop-number
invariant-loop-number l =
    list_all (is_marked l.marks) (drop l.number-index l.names) ≡ list_all (is_marked l.marks) l.names
