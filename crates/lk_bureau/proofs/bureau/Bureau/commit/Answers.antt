use Rattle.std.proofs.Common.{◌≡◌, ap, subst, sym}
use Rattle.lk_edition.specs.Offices.{IsPlanned, standing_in}
use Rattle.lk_bureau.proofs.StepLaws.{may_publish}
use Rattle.lk_bureau.proofs.bureau.Bureau.commit.Goals as goal

pub publish-requires : goal.publish-requires
publish-requires g c =
    let same : c.args.self.now.standing ≡ standing_in c.self.inside.office = sym (ap (λ held. held.standing) c.self.view_is) in
    let planned : IsPlanned (standing_in c.self.inside.office) c.args.pending = subst (λ e. IsPlanned e c.args.pending) same c.requires in
    may_publish _ (standing_in c.self.inside.office) _ c.args.pending _ c.in-Ok-offer.ensures.ok c.in-Ok.ensures c.self.invariant planned
