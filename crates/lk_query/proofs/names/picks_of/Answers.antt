use Rattle.std.proofs.Common.{◌∙◌, ap, sym, arith}
use Rattle.std.specs.Prelude.{Err}
use Rattle.std.proofs.lemmas.List.{drop_all}
use Rattle.lk_body.specs.declared.fault.QueryFault.TheVariants.{Q4}
use Rattle.lk_types.specs.declared.explore.Explore.{Explore}
use Rattle.lk_query.specs.Names.{pick_named, picks_of}
use Rattle.lk_query.proofs.FoundLaws.{item_here, next_found, next_refused, all_found}
use Rattle.lk_query.proofs.names.picks_of.Goals as goal

pub loop-name-preserved : goal.loop-name-preserved
loop-name-preserved c =
    let x = c.args.x.now in
    let names = c.args.names.now in
    let l = c.loop-name in
    let name = c.name-item.result in
    next_found Q4 (pick_named x) (picks_of x names) _ _ l.picks c.push.new.self name c.in-Some.pick
    (item_here names l.name-index name c.loop-name-test.true c.name-item.is)
    (sym c.in-Some.is ∙ c.in_ok-pick.ensures ∙ ap (λ (y : Explore). pick_named y name) c.of-known.ensures) c.in_ok-push.ensures.ok l.invariant

pub returns : goal.returns
returns c =
    let x = c.args.x.now in
    let names = c.args.names.now in
    let l = c.loop-name in
    all_found Q4 (pick_named x) (picks_of x names) _ l.picks
    (drop_all l.name-index names (omega (arith, c.loop-name-test.false))) l.invariant

pub returns-in_default : goal.returns-in_default
returns-in_default c =
    let x = c.args.x.now in
    let names = c.args.names.now in
    let l = c.loop-name in
    let name = c.name-item.result in
    ap (λ n. Err (Q4 n)) c.in_ok-copy.ensures
    ∙ next_refused Q4 (pick_named x) (picks_of x names) _ _ l.picks name
    (item_here names l.name-index name c.loop-name-test.true c.name-item.is)
    (sym c.in_default.is ∙ c.in_ok-pick.ensures ∙ ap (λ (y : Explore). pick_named y name) c.of-known.ensures) l.invariant
