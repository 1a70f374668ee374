-- The calculation of a `number`, node by node, with the numbers of measures.
use Rattle.std.specs.Prelude.{ℕ, List, slice_index_or}
use Rattle.lk_types.specs.declared.number.NumNode.{NumNode}
use Rattle.lk_types.specs.declared.number.NumNode.TheVariants as node

-- a node with the number of its measure, if it is one
abbrev pub node_renumbered : (ℕ → ℕ) → NumNode → NumNode
node_renumbered s (node.Measure i) = node.Measure (s i)
node_renumbered s n = n

-- the number at a place, and 0 past the end
abbrev pub number_at : List ℕ → ℕ → ℕ
number_at numbers i = slice_index_or numbers i 0
