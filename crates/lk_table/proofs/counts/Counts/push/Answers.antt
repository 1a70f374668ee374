use Rattle.std.proofs.Common.{◌≡◌, ◌∙◌, ◌++◌, ◌∷◌, [], ap, rules, to_z, of_z, w64, ℤ}
use Rattle.lk_table.proofs.CountLaws.{count_pushed}
use Rattle.lk_table.proofs.counts.Counts.push.Goals as goal

pub returns-in-Ok-push-clause-ok : goal.returns-in-Ok-push-clause-ok
returns-in-Ok-push-clause-ok c =
    let kept = c.self.inside in
    let count = c.unwrap_or.result in
    let same : to_z w64 (of_z w64 count) ≡ count = search rules in
    count_pushed kept.nulls kept.present.items c.push-2.new.self.items kept.counts.items c.push.new.self.items c.args.count c.args.self.now
    c.self.view_is c.self.invariant
    (c.in-Ok.ensures.items ∙ ap (λ (n : ℤ). kept.counts.items ++ n ∷ []) (same ∙ c.unwrap_or.ensures))
    (c.in-Ok-push.ensures.items ∙ ap (λ p. kept.present.items ++ p ∷ []) c.is_some.ensures)
