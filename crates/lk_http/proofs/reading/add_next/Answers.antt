use Rattle.std.proofs.Common.{◌∙◌, length, refl, subst, sym}
use Rattle.lk_http.specs.Heads.{AreOpenBefore}
use Rattle.lk_http.proofs.ReadingLemmas.{answered_bad, answered_fault, answered_over, answered_whole, early_more, stays_open}
use Rattle.lk_http.proofs.reading.add_next.Goals as goal

pub judge_next-requires-clause-early : goal.judge_next-requires-clause-early
judge_next-requires-clause-early c =
    subst (λ x. AreOpenBefore (length x) x) (sym c.as_slice.ensures.value) (early_more c.args.head.now.items c.push_within.new.head.items c.in-Ok-Some.byte c.requires.early c.push_within.ensures.pushed)

pub judge_next-requires-clause-behind : goal.judge_next-requires-clause-behind
judge_next-requires-clause-behind c = (c.args.head.now.items, c.as_slice.ensures.value ∙ c.push_within.ensures.pushed, c.requires.at)

pub returns-in-Open-clause-stays : goal.returns-in-Open-clause-stays
returns-in-Open-clause-stays c = λ _.
    stays_open c.args.head.now.items c.push_within.new.head.items c.as_slice.result.now c.in-Ok-Some.byte c.judge_next.new.place c.requires.early c.push_within.ensures.pushed c.as_slice.ensures.value c.in-Open.ensures.seen (c.in-Open.ensures.place refl)

pub returns-in-Whole-clause-answer : goal.returns-in-Whole-clause-answer
returns-in-Whole-clause-answer c =
    answered_whole c.args.head.now.items c.push_within.new.head.items c.as_slice.result.now c.in-Ok-Some.byte c.args.next c.requires.early c.push_within.ensures.pushed c.as_slice.ensures.value c.in-Whole.ensures.seen

pub returns-in-TooLong-clause-answer : goal.returns-in-TooLong-clause-answer
returns-in-TooLong-clause-answer c =
    answered_over c.args.head.now.items c.push_within.new.head.items c.as_slice.result.now c.in-Ok-Some.byte c.args.next c.requires.early c.push_within.ensures.pushed c.as_slice.ensures.value c.in-TooLong.ensures.seen

pub returns-in-Invalid-clause-answer : goal.returns-in-Invalid-clause-answer
returns-in-Invalid-clause-answer c =
    answered_bad c.args.head.now.items c.push_within.new.head.items c.as_slice.result.now c.in-Ok-Some.byte c.args.next c.requires.early c.push_within.ensures.pushed c.as_slice.ensures.value c.in-Invalid.ensures.seen

pub returns-in-Err-clause-answer : goal.returns-in-Err-clause-answer
returns-in-Err-clause-answer c = answered_fault c.args.head.now.items c.args.next c.in-Err.fault c.in-Err.is c.requires.early
