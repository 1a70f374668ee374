-- What is told of a side of a comparison without its expression: its kinds, and of a text literal what it writes.
use Rattle.std.specs.Prelude.{ℕ, Bool, not, ◌&&◌, if◌then◌else◌, List, [], map, drop, Option, Some, None, is_some, option_map, slice_index_or}
use Rattle.std.specs.List.{list_all}
use Rattle.lk_val.specs.declared.value.Value.{Value}
use Rattle.lk_val.specs.declared.value.Value.TheVariants as value
use Rattle.lk_types.specs.Formula.{Formula}
use Rattle.lk_types.specs.Kinds.{shared, comparable, do_compare, is_empty, kinds_of_value, only, text_if, truth_if}
use Rattle.lk_types.specs.declared.expr.Node.{Node}
use Rattle.lk_types.specs.declared.expr.Node.TheVariants as node
use Rattle.lk_types.specs.declared.kind_set.KindSet.{KindSet}
use Rattle.lk_types.specs.declared.kind_set.Leaves.{Leaves}
use Rattle.lk_types.specs.declared.schema.Kind.{Kind}
use Rattle.lk_types.specs.declared.schema.Kind.TheVariants as kind
use Rattle.lk_eval.specs.NodeKinds.{kinds_made}
use Rattle.lk_cell.specs.Days.{day_cell}
use Rattle.lk_cell.specs.Moments.{moment_cell}
use Rattle.lk_dated.specs.declared.side.Readings.{Readings}
use Rattle.lk_dated.specs.declared.side.Side.{Side}
use Rattle.lk_dated.specs.Dated.{is_time, text_of, text_of_value}
use Rattle.lk_dated.specs.FormulaKinds.{kinds_by}

-- ---- of an expression

abbrev pub readings_of_text : List ℕ → Readings
readings_of_text text = record { as_day = is_some (day_cell text); as_moment = is_some (moment_cell text) }

-- what a text literal writes; none of any other expression
abbrev pub readings_of_value : Value → Option Readings
readings_of_value v = option_map readings_of_text (text_of_value v)

abbrev pub readings_of : Formula → Option Readings
readings_of e = option_map readings_of_text (text_of e)

-- given the kinds of each column
abbrev pub side_of : (ℕ → ℕ → KindSet) → Formula → Side
side_of leaf e = record { kinds = kinds_by leaf e; literal = readings_of e }

-- of what is no text literal
abbrev pub no_literal : KindSet → Side
no_literal kinds = record { kinds = kinds; literal = None }

abbrev pub side_of_value : Value → Side
side_of_value v = record { kinds = kinds_of_value v; literal = readings_of_value v }

abbrev pub null_side : Side
null_side = side_of_value value.Null

-- ---- beside another

abbrev pub kind_where : Bool → Kind → Option Kind
kind_where condition k = if condition then Some k else None

-- the kind of what a text literal writes beside these kinds
abbrev pub kind_beside : KindSet → Readings → Option Kind
kind_beside kinds text =
    if is_time kinds then (if kinds.moment then kind_where text.as_moment kind.Moment else kind_where text.as_day kind.Day) else None

abbrev pub or_own : KindSet → Option Kind → KindSet
or_own own None = own
or_own own (Some k) = only k

abbrev pub read_kinds : KindSet → KindSet → Option Readings → KindSet
read_kinds kinds own None = own
read_kinds kinds own (Some text) = or_own own (kind_beside kinds text)

-- the kinds of a side beside one of these kinds
abbrev pub kinds_beside : KindSet → Side → KindSet
kinds_beside kinds side = read_kinds kinds side.kinds side.literal

-- the two compare, each as it is beside the other
abbrev pub do_sides_compare : Side → Side → Bool
do_sides_compare a b = do_compare (kinds_beside b.kinds a) (kinds_beside a.kinds b)

-- ---- node by node

-- a side by its place; where there is none it is null
abbrev pub side_at : List Side → ℕ → Side
side_at sides i = slice_index_or sides i null_side

abbrev pub no_leaves : Leaves
no_leaves = record { kinds = [] }

-- NULLIF of a text literal gives the text as it was written
abbrev pub null_if_kinds : Option Readings → Side → Side → KindSet
null_if_kinds None a b = shared a.kinds (comparable (kinds_beside a.kinds b))
null_if_kinds (Some text) a b = text_if (do_sides_compare a b)

-- the kinds that a node may have, given its sides
abbrev pub kinds_of_node : Node → List Side → KindSet
kinds_of_node (node.Compare c) sides = truth_if (do_sides_compare (side_at sides 0) (side_at sides 1))
kinds_of_node (node.In count) sides =
    truth_if (not (is_empty (side_at sides 0).kinds) && list_all (do_sides_compare (side_at sides 0)) (drop 1 sides))
kinds_of_node node.Between sides =
    truth_if (do_sides_compare (side_at sides 0) (side_at sides 1) && do_sides_compare (side_at sides 0) (side_at sides 2))
kinds_of_node node.NullIf sides = null_if_kinds (side_at sides 0).literal (side_at sides 0) (side_at sides 1)
kinds_of_node n sides = kinds_made no_leaves n (map (λ side. side.kinds) sides)

-- what is told of a node, given what is told of what stands for the column of each number
abbrev pub side_made : List Side → Node → List Side → Side
side_made by (node.Column part column) sides = side_at by column
side_made by (node.Literal v) sides = side_of_value v
side_made by n sides = no_literal (kinds_of_node n sides)
