-- The measures that stand in a calculation, node by node, and those that are still to be put in.
use Rattle.std.specs.Prelude.{ℕ, List, [], ◌∷◌, ◌++◌}
use Rattle.lk_types.specs.declared.number.NumNode.{NumNode}
use Rattle.lk_types.specs.declared.number.NumNode.TheVariants as node

-- the measure that a node is, if it is one
abbrev pub node_measures : NumNode → List ℕ
node_measures (node.Measure m) = m ∷ []
node_measures other = []

-- some measures, each with how many `number`s lead on from it at most, the first one last
abbrev pub stacked : ℕ → List ℕ → List (ℕ × ℕ)
stacked most [] = []
stacked most (m ∷ measures) = stacked most measures ++ (most, m) ∷ []
