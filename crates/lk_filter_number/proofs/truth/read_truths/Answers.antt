use Rattle.std.proofs.Common.{◌≡◌, Some, IfSome, option_map}
use Rattle.std.proofs.lemmas.Result.{IfOk-weaker}
use Rattle.lk_types.specs.declared.filter.Filter.{Filter}
use Rattle.lk_filter_number.specs.Truths.{IsTruthFilter, truth_filter}
use Rattle.lk_filter_number.specs.TruthReading.{truths_of}
use Rattle.lk_filter_number.proofs.TruthLaws.{truths_are_spelled, truths_are_read, no_truths}
use Rattle.lk_filter_number.proofs.truth.read_truths.Goals as goal

pub returns-in_default-clause-every : goal.returns-in_default-clause-every
returns-in_default-clause-every c = no_truths c.args.text.now (rw c.in_default.is at c.in_ok-words.ensures.every)

pub returns-clause-spelled : goal.returns-clause-spelled
returns-clause-spelled c =
    let spelled = rw c.in-Some.is at c.in_ok-words.ensures.spelled in
    IfOk-weaker c.read_tests.result (λ found. found ≡ option_map truth_filter (truths_of c.as_slice.result.now)) (λ found. IfSome found (λ f. IsTruthFilter f c.args.text.now))
    (λ found e. truths_are_spelled c.in-Some.words c.args.text.now spelled found (rw c.as_slice.ensures at e)) c.read_tests.ensures

pub returns-clause-every : goal.returns-clause-every
returns-clause-every c =
    let every = rw c.in-Some.is at c.in_ok-words.ensures.every in
    IfOk-weaker c.read_tests.result (λ found. found ≡ option_map truth_filter (truths_of c.as_slice.result.now)) (λ found. (f : Filter) → IsTruthFilter f c.args.text.now → found ≡ Some f)
    (λ found e. truths_are_read c.in-Some.words c.args.text.now every found (rw c.as_slice.ensures at e)) c.read_tests.ensures
