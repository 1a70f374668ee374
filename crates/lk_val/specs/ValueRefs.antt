-- What a borrowed value is.
use Rattle.lk_val.specs.declared.value.Value.{Value}
use Rattle.lk_val.specs.declared.value.Value.TheVariants as value
use Rattle.lk_val.specs.declared.value_ref.ValueRef.{ValueRef}
use Rattle.lk_val.specs.declared.value_ref.ValueRef.TheVariants.{Null, Text, Num, Truth, Day, Moment}

-- the value that is lent
abbrev pub value_of_ref : ValueRef → Value
value_of_ref Null = value.Null
value_of_ref (Text text) = value.Text text.now
value_of_ref (Num number) = value.Num number
value_of_ref (Truth truth) = value.Truth truth
value_of_ref (Day day) = value.Day day
value_of_ref (Moment moment) = value.Moment moment
