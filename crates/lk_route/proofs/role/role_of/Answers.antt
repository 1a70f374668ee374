use Rattle.std.proofs.Common.{◌∙◌, ap}
use Rattle.lk_route.specs.Roles.{operand, role_of}
use Rattle.lk_route.proofs.RoleLaws.{role_nodes}
use Rattle.lk_route.proofs.role.role_of.Goals as goal

pub returns : goal.returns
returns c =
    c.operand.ensures
    ∙ ap (λ roles. operand roles 0) (c.as_slice.ensures ∙ c.in_ok-stack.ensures)
    ∙ role_nodes c.args.x.now c.args.others.now c.args.view c.nodes.result.now
    ∙ ap (role_of c.args.x.now c.args.others.now c.args.view) c.nodes.ensures.value
