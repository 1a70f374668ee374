use Rattle.std.proofs.Common.{◌≡◌, ◌∙◌, Bor, List, map, sym, ap, subst, ℕ}
use Rattle.std.specs.Prelude.{IfOk}
use Rattle.matchit.specs.Router.{RouteOf}
use Rattle.matchit.specs.Rows.{RowsOf}
use Rattle.matchit.specs.Seek.{first}
use Rattle.lk_http.specs.Routes.{target_by}
use Rattle.lk_http.specs.declared.routes.Route.{Route}
use Rattle.lk_http.proofs.RouteLemmas.{router_finds, router_lacks}
use Rattle.lk_http.proofs.route.find_target.Goals as goal

pub returns-in_default : goal.returns-in_default
returns-in_default c =
    sym (router_lacks c.args.path.now c.type_inv.path (ap (λ (rows : RowsOf (RouteOf Route)). first rows c.args.path.now) (sym c.requires) ∙ c.in_default.ensures.missing))

pub returns : goal.returns
returns c =
    let found = ap (λ (rows : RowsOf (RouteOf Route)). first rows c.args.path.now) (sym c.requires) ∙ c.in-Ok.ensures.found in
    let same = ap (λ (items : List (Bor (List ℕ))). map (λ p. p.now) items) c.as_slice.ensures.value ∙ c.in_ok-pieces.ensures in
    subst (λ answer. IfOk c.target_by.result (λ target. target ≡ answer))
    (ap (λ (pieces : List (List ℕ)). target_by pieces c.in-Ok.found.value.now) same ∙ sym (router_finds c.args.path.now c.type_inv.path _ found)) c.target_by.ensures
