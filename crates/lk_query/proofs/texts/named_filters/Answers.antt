use Rattle.std.proofs.Common.{◌∙◌, map, ap, sym, arith}
use Rattle.std.specs.Prelude.{Err}
use Rattle.std.proofs.lemmas.List.{drop_all}
use Rattle.lk_body.specs.declared.fault.QueryFault.TheVariants.{Q4}
use Rattle.lk_query.specs.Names.{named_filter, unknown_filter}
use Rattle.lk_query.specs.Refusals.{each_found}
use Rattle.lk_query.proofs.FoundLaws.{item_here, next_found, next_refused, all_found}
use Rattle.lk_query.proofs.texts.named_filters.Goals as goal

pub loop-filter-preserved : goal.loop-filter-preserved
loop-filter-preserved c =
    let x = c.args.known.now.x.now in
    let fs = c.args.filters.now in
    let l = c.loop-filter in
    let f = c.filter-item.result in
    next_found unknown_filter (named_filter x) (each_found unknown_filter (named_filter x) (map (λ f. f.now) fs)) _ _ l.texts c.push.new.self f.now c.in-Some.text
    (ap (λ gs. map (λ f. f.now) gs) (item_here fs l.filter-index f c.loop-filter-test.true c.filter-item.is))
    (sym c.in-Some.is ∙ c.in_ok-text.ensures) c.in_ok-push.ensures.ok l.invariant

pub returns : goal.returns
returns c =
    let x = c.args.known.now.x.now in
    let fs = c.args.filters.now in
    let l = c.loop-filter in
    all_found unknown_filter (named_filter x) (each_found unknown_filter (named_filter x) (map (λ f. f.now) fs)) _ l.texts
    (ap (λ gs. map (λ f. f.now) gs) (drop_all l.filter-index fs (omega (arith, c.loop-filter-test.false)))) l.invariant

pub returns-in_default : goal.returns-in_default
returns-in_default c =
    let x = c.args.known.now.x.now in
    let fs = c.args.filters.now in
    let l = c.loop-filter in
    let f = c.filter-item.result in
    ap (λ name. Err (Q4 name)) c.in_ok-copy.ensures
    ∙ next_refused unknown_filter (named_filter x) (each_found unknown_filter (named_filter x) (map (λ f. f.now) fs)) _ _ l.texts f.now
    (ap (λ gs. map (λ f. f.now) gs) (item_here fs l.filter-index f c.loop-filter-test.true c.filter-item.is))
    (sym c.in_default.is ∙ c.in_ok-text.ensures) l.invariant
