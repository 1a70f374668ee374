-- What each node has of a tree that a text spells.
use Rattle.std.specs.Prelude.{ℕ, zero, suc, ◌-◌, Bool, true, false, ◌&&◌, nat_lt, is_some}
use Rattle.lk_expr_tree.specs.declared.raw.RawNode.{RawNode}
use Rattle.lk_expr_tree.specs.declared.raw.RawNode.TheVariants as raw
use Rattle.lk_written.specs.SkeletonNodes.{is_named}
use Rattle.lk_written.specs.MeasureNodes.{joint_arithmetic}

-- so many are one pair or more
abbrev pub are_pairs : ℕ → Bool
are_pairs zero = false
are_pairs (suc zero) = false
are_pairs (suc (suc zero)) = true
are_pairs (suc (suc (suc n))) = are_pairs (suc n)

-- the node has as many operands as one of its kind has
abbrev pub has_operands : RawNode → Bool
has_operands (raw.Call name place count) = nat_lt 0 count
has_operands (raw.Case count) = are_pairs count
has_operands (raw.CaseElse count) = are_pairs (count - 1)
has_operands (raw.In negated count) = nat_lt 1 count
has_operands n = true

-- it has them, and its name is a text
abbrev pub is_formed : RawNode → Bool
is_formed n = has_operands n && is_named n

-- ---- measures

-- the node may stand in a measure, and has as many operands as one of its kind has
abbrev pub is_of_measure : RawNode → Bool
is_of_measure (raw.Number number) = true
is_of_measure (raw.Field name) = true
is_of_measure (raw.FieldOf view name) = true
is_of_measure raw.Group = true
is_of_measure (raw.Call name place count) = nat_lt 0 count
is_of_measure raw.Negate = true
is_of_measure (raw.Chain j) = is_some (joint_arithmetic j)
is_of_measure other = false
