use Rattle.std.proofs.Common.{◌≡◌, drop}
use Rattle.std.specs.Option.{option_and_then}
use Rattle.std.specs.List.{find}
use Rattle.lk_schema.specs.Users.{gives, value_in}
use Rattle.lk_schema.proofs.users.attribute_of.Given as goal

abbrev pub invariant-loop-row : goal.invariant-loop-row
invariant-loop-row l = option_and_then value_in (find (gives l.user l.attribute) (drop l.row-index l.row-items))
    ≡ option_and_then value_in (find (gives l.user l.attribute) l.row-items)
