-- The order of values.
use Rattle.std.specs.Prelude.{ℕ, Bool, ◌==◌, List}
use Rattle.std.specs.Ordering.{nat_cmp, int_cmp, bool_cmp, is_eq, ordering_then}
use Rattle.std.specs.Cmp.Lexicographic.{slice_cmp}
use Rattle.std.specs.declared.cmp.Ordering.{Ordering}
use Rattle.lk_val.specs.declared.value.Value.{Value}
use Rattle.lk_val.specs.declared.value.Value.TheVariants.{Null, Text, Num, Truth, Day, Moment}

-- the place of a value's kind among the kinds
abbrev pub rank : Value → ℕ
rank Null = 0
rank (Text t) = 1
rank (Num n) = 2
rank (Truth b) = 3
rank (Day d) = 4
rank (Moment m) = 5

-- null first, then by kind, then within the kind: texts by bytes, `no` before `yes` (lookd)
abbrev pub value_cmp : Value → Value → Ordering
value_cmp (Text a) (Text b) = slice_cmp nat_cmp a b
value_cmp (Num a) (Num b) = int_cmp a.0 b.0
value_cmp (Truth a) (Truth b) = bool_cmp a b
value_cmp (Day a) (Day b) = int_cmp a b
value_cmp (Moment a) (Moment b) = int_cmp a b
value_cmp a b = nat_cmp (rank a) (rank b)

-- tuples of values, by their first difference
abbrev pub tuple_cmp : List Value → List Value → Ordering
tuple_cmp = slice_cmp value_cmp

-- two values are the same in a group, a key or a set: neither is before the other
abbrev pub is_same : Value → Value → Bool
is_same a b = is_eq (value_cmp a b)

abbrev pub is_same_tuple : List Value → List Value → Bool
is_same_tuple a b = is_eq (tuple_cmp a b)

abbrev pub is_null : Value → Bool
is_null v = rank v == 0

-- the order in which null stands last
abbrev pub null_last_cmp : Value → Value → Ordering
null_last_cmp a b = ordering_then (bool_cmp (is_null a) (is_null b)) (value_cmp a b)
