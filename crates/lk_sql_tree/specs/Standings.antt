-- What an expression stands over, node by node.
use Rattle.std.specs.Prelude.{ℕ, Bool, true, false, ◌&&◌, List, drop, slice_index_or}
use Rattle.std.specs.List.{list_all}
use Rattle.std.specs.Str.{is_utf8}
use Rattle.lk_sql_tree.specs.declared.node.SqlNode.{SqlNode}
use Rattle.lk_sql_tree.specs.declared.node.SqlNode.TheVariants as node
use Rattle.lk_sql_tree.specs.declared.standing.Standing.{Standing}
use Rattle.lk_sql_tree.specs.Trees.{Sql}
use Rattle.lk_sql_tree.specs.Texts.{pattern_text}
use Rattle.lk_sql_tree.specs.Forms.{is_literal, over_rows, over_groups}

-- what an expression stands over
abbrev pub standing_of : Sql → Standing
standing_of e = record { rows = over_rows e; groups = over_groups e }

-- that of an operand by its place, and of null where there is none
abbrev pub at : List Standing → ℕ → Standing
at xs i = slice_index_or xs i (record { rows = true; groups = true })

abbrev pub all_rows : List Standing → Bool
all_rows xs = list_all (λ s. s.rows) xs

abbrev pub all_groups : List Standing → Bool
all_groups xs = list_all (λ s. s.groups) xs

-- over what all operands stand but the first so many
abbrev pub all_behind : ℕ → List Standing → Standing
all_behind count xs = record { rows = all_rows (drop count xs); groups = all_groups (drop count xs) }

-- both stand over the rows, and both over the groups
abbrev pub both : Standing → Standing → Standing
both a b = record { rows = a.rows && b.rows; groups = a.groups && b.groups }

-- what can't stand over groups, and what can't stand over rows
abbrev pub rows_if : Bool → Standing
rows_if b = record { rows = b; groups = false }

abbrev pub groups_if : Bool → Standing
groups_if b = record { rows = false; groups = b }

abbrev pub either_if : Bool → Standing
either_if b = record { rows = b; groups = b }

-- what a node stands over, given what its operands do
abbrev pub standing_made : SqlNode → List Standing → Standing
standing_made (node.Column part name) xs = rows_if (is_utf8 part && is_utf8 name)
standing_made (node.Literal v) xs = either_if (is_literal v)
standing_made (node.Framed f) xs = rows_if (at xs 0).rows
standing_made node.Not xs = at xs 0
standing_made node.And xs = both (at xs 0) (at xs 1)
standing_made node.Or xs = both (at xs 0) (at xs 1)
standing_made (node.Compare c) xs = both (at xs 0) (at xs 1)
standing_made node.IsNull xs = at xs 0
standing_made (node.In count) xs = rows_if ((at xs 0).rows && (at xs 1).rows && all_rows (drop 2 xs))
standing_made (node.Like pieces) xs = both (at xs 0) (either_if (is_utf8 (pattern_text pieces)))
standing_made (node.Number op) xs = both (at xs 0) (at xs 1)
standing_made node.Negate xs = at xs 0
standing_made node.Concat xs = rows_if ((at xs 0).rows && (at xs 1).rows)
standing_made node.Lower xs = rows_if (at xs 0).rows
standing_made node.Upper xs = rows_if (at xs 0).rows
standing_made (node.Case count) xs = rows_if ((at xs 0).rows && (at xs 1).rows && all_rows (drop 2 xs))
standing_made (node.Coalesce count) xs = both (at xs 0) (all_behind 1 xs)
standing_made node.NullIf xs = both (at xs 0) (at xs 1)
standing_made node.CountRows xs = groups_if true
standing_made (node.Folded f) xs = groups_if (at xs 0).rows
standing_made (node.ByKey f) xs = groups_if ((at xs 0).rows && (at xs 1).rows)
