use Rattle.std.proofs.lemmas.Result.{IfOk-weaker}
use Rattle.lk_grammar.specs.Forms.{IsText}
use Rattle.lk_grammar.specs.Places.{Judges}
use Rattle.lk_filter_date.specs.Dates.{IsDates}
use Rattle.lk_filter_date.specs.DateReading.{dates_form}
use Rattle.lk_filter_date.proofs.DateFormLaws.{dates_judged}
use Rattle.lk_filter_date.proofs.place.judge_dates.Goals as goal

pub returns : goal.returns
returns c = IfOk-weaker c.judge_dates_form.result (Judges (IsText dates_form) c.args.text.now) (Judges IsDates c.args.text.now) (dates_judged c.args.text.now) c.judge_dates_form.ensures
