use Rattle.std.proofs.lemmas.Result.{IfOk-weaker}
use Rattle.lk_grammar.specs.Forms.{IsText}
use Rattle.lk_grammar.specs.Places.{Judges}
use Rattle.lk_filter_text.specs.Texts.{IsTexts}
use Rattle.lk_filter_text.specs.TextReading.{text_form}
use Rattle.lk_filter_text.proofs.TextFormLaws.{texts_judged}
use Rattle.lk_filter_text.proofs.place.judge_texts.Goals as goal

pub returns : goal.returns
returns c = IfOk-weaker c.judge_text_form.result (Judges (IsText text_form) c.args.text.now) (Judges IsTexts c.args.text.now) (texts_judged c.args.text.now) c.judge_text_form.ensures
