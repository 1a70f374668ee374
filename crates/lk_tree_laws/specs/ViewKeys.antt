-- The keys of views in joined rows.
use Rattle.std.specs.Prelude.{ℕ, Option, None, Some}
use Rattle.lk_val.specs.declared.value.Value.{Value}
use Rattle.lk_val.specs.declared.value.Value.TheVariants as value
use Rattle.lk_types.specs.Expressions.{column_of}
use Rattle.lk_types.specs.declared.explore.Explore.{Explore}
use Rattle.lk_types.specs.declared.rows.Joined.{Joined}
use Rattle.lk_semantics.specs.Joins.{part_at}

-- the value in a column of a view, if there is one
abbrev pub value_at : Option ℕ → ℕ → Joined → Value
value_at None v row = value.Null
value_at (Some column) v row = column_of row v column

-- a joined row's value in the enforced key of a view: null where the view is null, or has no enforced key
abbrev pub view_key : Explore → ℕ → Joined → Value
view_key x v row = value_at (part_at x v).enforced v row
