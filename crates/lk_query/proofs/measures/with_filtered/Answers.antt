use Rattle.std.proofs.Common.{◌++◌, map, refl}
use Rattle.lk_types.specs.declared.model.Pick.TheVariants.{Mea}
use Rattle.lk_semantics.specs.Answers.{filtered}
use Rattle.lk_query.proofs.FoundLaws.{item_here, next_made}
use Rattle.lk_query.proofs.measures.with_filtered.Goals as goal

pub loop-filter-preserved : goal.loop-filter-preserved
loop-filter-preserved c =
    let having = c.args.having.now in
    let l = c.loop-filter in
    next_made (λ fs. map Mea (filtered fs)) (λ f rest. refl) (c.args.picks.now ++ map Mea (filtered having)) _ _ l.all c.push.new.self c.filter-item.result
    (item_here having l.filter-index c.filter-item.result c.loop-filter-test.true c.filter-item.is) c.in_ok-push.ensures.ok l.invariant
