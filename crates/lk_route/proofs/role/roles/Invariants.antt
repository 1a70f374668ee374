use Rattle.std.proofs.Common.{◌≡◌, [], take}
use Rattle.lk_postfix.specs.Postfix.{after_nodes}
use Rattle.lk_types.specs.FormulaNodes.{arity}
use Rattle.lk_route.specs.Roles.{role_made}
use Rattle.lk_route.proofs.role.roles.Given as goal

abbrev pub invariant-loop-node : goal.invariant-loop-node
invariant-loop-node l = l.stack ≡ after_nodes arity (role_made l.x l.others l.view) [] (take l.node-index l.nodes)
