use Rattle.std.proofs.lemmas.Result.{IfOk-weaker}
use Rattle.lk_grammar.specs.Forms.{IsText}
use Rattle.lk_grammar.specs.Places.{Judges}
use Rattle.lk_filter_number.specs.Truths.{IsTruth}
use Rattle.lk_filter_number.specs.TruthReading.{truth_form}
use Rattle.lk_filter_number.proofs.TruthLaws.{truths_judged}
use Rattle.lk_filter_number.proofs.truth.judge_truths.Goals as goal

pub returns : goal.returns
returns c = IfOk-weaker c.judge_truth_form.result (Judges (IsText truth_form) c.args.text.now) (Judges IsTruth c.args.text.now) (truths_judged c.args.text.now) c.judge_truth_form.ensures
