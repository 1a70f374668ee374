-- How the nodes of an expression over measures are counted: node by node of its list.
use Rattle.std.specs.Prelude.{ℕ, List, slice_index_or}
use Rattle.lk_types.specs.declared.number.NumNode.{NumNode}
use Rattle.lk_types.specs.declared.number.NumNode.TheVariants as node

-- what a node adds to the number of nodes, given how many stand for the measure of each number
abbrev pub count_number : List ℕ → NumNode → ℕ
count_number counts (node.Measure m) = slice_index_or counts m 1
count_number counts n = 1
