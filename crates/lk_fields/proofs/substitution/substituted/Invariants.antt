use Rattle.lk_fields.specs.Substituted.{replacement}
use Rattle.lk_fields.proofs.SubstitutionLaws.{IsAt}
use Rattle.lk_fields.proofs.substitution.substituted.Given as goal

abbrev pub invariant-loop-node : goal.invariant-loop-node
invariant-loop-node l = IsAt (replacement l.by) l.old l.node-index l.nodes
