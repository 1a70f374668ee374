use Rattle.std.proofs.Common.{sym, ap, ◌∙◌}
use Rattle.lk_filter_text.specs.TextReading.{without_end}
use Rattle.lk_filter_text.proofs.TextTrimLaws.{drops_last, keeps_last}
use Rattle.lk_filter_text.proofs.reading.without_end.Goals as goal

pub returns-then-not-is_space : goal.returns-then-not-is_space
returns-then-not-is_space c =
    let split = c.in-Some.ensures.cases.0 in
    split ∙ sym (keeps_last c.in-Some.before.now c.in-Some.last.now (sym c.is_space.ensures ∙ c.if-not-is_space.true))
    ∙ sym (ap without_end split) ∙ c.loop-last.invariant

pub loop-last-preserved : goal.loop-last-preserved
loop-last-preserved c =
    let split = c.in-Some.ensures.cases.0 in
    sym (drops_last c.in-Some.before.now c.in-Some.last.now (sym c.is_space.ensures ∙ c.if-not-is_space.false))
    ∙ sym (ap without_end split) ∙ c.loop-last.invariant
