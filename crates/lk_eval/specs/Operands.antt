-- Values of the parts of an expression.
use Rattle.lk_val.specs.ValueRefs.{value_of_ref}
use Rattle.lk_val.specs.declared.value.Value.{Value}
use Rattle.lk_eval.specs.declared.operand.Operand.{Operand}
use Rattle.lk_eval.specs.declared.operand.Operand.TheVariants.{Held, Made}

-- the value, borrowed or made
abbrev pub operand_value : Operand → Value
operand_value (Held v) = value_of_ref v
operand_value (Made v) = v
