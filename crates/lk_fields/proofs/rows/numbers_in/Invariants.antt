use Rattle.std.proofs.Common.{◌≡◌, ◌++◌, drop}
use Rattle.lk_fields.specs.Rows.{numbers_in}
use Rattle.lk_fields.proofs.rows.numbers_in.Given as goal

abbrev pub invariant-loop-name : goal.invariant-loop-name
invariant-loop-name l = l.numbers ++ numbers_in l.all (drop l.name-index l.found) ≡ numbers_in l.all l.found
