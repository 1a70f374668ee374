use Rattle.std.proofs.lemmas.Result.{IfOk-weaker}
use Rattle.lk_grammar.specs.Forms.{IsText}
use Rattle.lk_grammar.specs.Places.{Judges}
use Rattle.lk_filter_number.specs.Numbers.{IsNumbers}
use Rattle.lk_filter_number.specs.NumberReading.{number_form}
use Rattle.lk_filter_number.proofs.NumberFormLaws.{numbers_judged}
use Rattle.lk_filter_number.proofs.number.place.judge_numbers.Goals as goal

pub returns : goal.returns
returns c = IfOk-weaker c.judge_number_form.result (Judges (IsText number_form) c.args.text.now) (Judges IsNumbers c.args.text.now) (numbers_judged c.args.text.now) c.judge_number_form.ensures
