-- The value that a field has in a group, lent or made.
use Rattle.lk_val.specs.declared.value.Value.{Value}
use Rattle.lk_regroup.specs.declared.value.Had.{Had}
use Rattle.lk_regroup.specs.declared.value.Had.TheVariants.{Lent, Made}

abbrev pub had_value : Had → Value
had_value (Lent v) = v.now
had_value (Made v) = v
