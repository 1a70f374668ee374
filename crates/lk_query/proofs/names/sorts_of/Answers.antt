use Rattle.std.proofs.Common.{◌∙◌, ap, sym, arith}
use Rattle.std.specs.Prelude.{Err}
use Rattle.std.proofs.lemmas.List.{drop_all}
use Rattle.lk_body.specs.declared.fault.QueryFault.TheVariants.{Q4}
use Rattle.lk_query.specs.Names.{named_sort, sorts_of}
use Rattle.lk_query.proofs.FoundLaws.{item_here, next_found, next_refused, all_found}
use Rattle.lk_query.proofs.names.sorts_of.Goals as goal

pub loop-sort-preserved : goal.loop-sort-preserved
loop-sort-preserved c =
    let fields = c.args.fields.now in
    let sorts = c.args.sorts.now in
    let l = c.loop-sort in
    next_found (λ s. Q4 s.0) (named_sort fields) (sorts_of fields sorts) _ _ l.made c.push.new.self c.sort-item.result c.in-Some.named
    (item_here sorts l.sort-index c.sort-item.result c.loop-sort-test.true c.sort-item.is)
    (sym c.in-Some.is ∙ c.in_ok-named.ensures) c.in_ok-push.ensures.ok l.invariant

pub returns : goal.returns
returns c =
    let fields = c.args.fields.now in
    let sorts = c.args.sorts.now in
    let l = c.loop-sort in
    all_found (λ s. Q4 s.0) (named_sort fields) (sorts_of fields sorts) _ l.made
    (drop_all l.sort-index sorts (omega (arith, c.loop-sort-test.false))) l.invariant

pub returns-in_default : goal.returns-in_default
returns-in_default c =
    let fields = c.args.fields.now in
    let sorts = c.args.sorts.now in
    let l = c.loop-sort in
    ap (λ name. Err (Q4 name)) c.in_ok-copy.ensures
    ∙ next_refused (λ s. Q4 s.0) (named_sort fields) (sorts_of fields sorts) _ _ l.made c.sort-item.result
    (item_here sorts l.sort-index c.sort-item.result c.loop-sort-test.true c.sort-item.is)
    (sym c.in_default.is ∙ c.in_ok-named.ensures) l.invariant
