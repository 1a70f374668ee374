use Rattle.std.proofs.Common.{◌≡◌, drop}
use Rattle.std.specs.List.{list_any}
use Rattle.lk_fields.specs.Rows.{is_lacking}
use Rattle.lk_fields.proofs.rows.lacks_one.Given as goal

abbrev pub invariant-loop-name : goal.invariant-loop-name
invariant-loop-name l = list_any (is_lacking l.rule l.all) (drop l.name-index l.found) ≡ list_any (is_lacking l.rule l.all) l.found
