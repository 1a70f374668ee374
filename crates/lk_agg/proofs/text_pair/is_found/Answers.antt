use Rattle.std.proofs.Common.{rules}
use Rattle.std.proofs.lemmas.Fn.{always_returns_same}
use Rattle.lk_agg.specs.TextPair.{text_pair_cmp, text_pair_lent, text_pairs_ordered}
use Rattle.lk_agg.proofs.SortedLaws.{found_at}
use Rattle.lk_agg.proofs.text_pair.is_found.Goals as goal

pub returns-in-Ok : goal.returns-in-Ok
returns-in-Ok c = λ _.
    let pair = text_pair_lent c.args.pair in
    let compared = always_returns_same _ _ _ (λ other order f k. search rules) in
    found_at text_pairs_ordered pair c.args.pairs.now c.in-Ok.field-0 pair c.in-Ok.ensures.bound (c.in-Ok.ensures.position (λ other. text_pair_cmp other pair) compared pair)
