use Rattle.std.proofs.Common.{◌∙◌, ap}
use Rattle.lk_route.proofs.RoleLaws.{finds_earlier}
use Rattle.lk_route.proofs.keeping.equates_key.Goals as goal

pub returns : goal.returns
returns c =
    ap (λ role. role.finds) c.in_ok-role_of.ensures
    ∙ finds_earlier c.args.x.now c.args.j c.as_slice.result.now c.in-Some.on c.args.on.now (c.as_slice.ensures ∙ c.in_ok-earlier.ensures) c.in-Some.is
