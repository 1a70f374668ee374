use Rattle.lk_grammar.proofs.ReadingLaws.{place_of_judged}
use Rattle.lk_filter_text.specs.Texts.{IsTexts}
use Rattle.lk_filter.proofs.reading.place_of.Goals as goal

pub returns-in_ok-judge_texts-in-Text : goal.returns-in_ok-judge_texts-in-Text
returns-in_ok-judge_texts-in-Text c = rw (c.in-Text.is, c.unwrap_or.ensures) (place_of_judged IsTexts c.args.text.now c.in_ok-judge_texts-in-Text.field-0 c.in_ok-judge_texts-in-Text.ensures)
