use Rattle.std.proofs.Common.{◌≡◌, ◌∙◌, subst, sym}
use Rattle.lk_types.specs.declared.model.Model.{Model}
use Rattle.lk_types.specs.declared.answer.Route.{Route}
use Rattle.lk_semantics.specs.Resolved.{IsInModel, IsResolved}
use Rattle.lk_semantics.specs.Rollups.{route_of}
use Rattle.lk_route.specs.Ready.{IsReadyFor}
use Rattle.lk_route.specs.Routes.{built_numbers}
use Rattle.lk_answer.specs.Routes.{LeadsTo, routed}
use Rattle.lk_answer.proofs.RouteLaws.{leads_to}
use Rattle.lk_answer.proofs.answering.route_of.Goals as goal

pub route-requires-clause-model : goal.route-requires-clause-model
route-requires-clause-model c = subst IsResolved (sym c.model.ensures) c.stands.ensures.model

pub route-requires-clause-ready : goal.route-requires-clause-ready
route-requires-clause-ready c = subst (λ (m : Model). IsReadyFor m c.ready.result.now) (sym c.model.ensures) c.ready.ensures

pub route-requires-clause-query : goal.route-requires-clause-query
route-requires-clause-query c = subst (λ (m : Model). IsInModel m c.args.bound.now) (sym c.model.ensures) c.requires

pub returns-clause-route : goal.returns-clause-route
returns-clause-route c = c.route.ensures ∙ (λ i. route_of (c.model.ensures i) (built_numbers (c.builds.ensures i)) (c.number.ensures i) c.args.bound.now)

pub returns-clause-leads : goal.returns-clause-leads
returns-clause-leads c =
    let e = c.args.e.now in
    let is : c.route.result ≡ routed e c.args.bound.now = c.route.ensures ∙ (λ i. route_of (c.model.ensures i) (built_numbers (c.builds.ensures i)) (c.number.ensures i) c.args.bound.now) in
    subst (λ (r : Route). LeadsTo e.model c.args.bound.now r.from) (sym is) (leads_to e.model c.stands.ensures.model c.args.bound.now (built_numbers e.builds) e.state.number)
