use Rattle.std.proofs.Common.{◌≡◌, Some, IfSome}
use Rattle.std.specs.Option.{option_and_then}
use Rattle.std.proofs.lemmas.Result.{IfOk-weaker}
use Rattle.lk_types.specs.declared.filter.Filter.{Filter}
use Rattle.lk_grammar.specs.Numbers.{begins_no_digit}
use Rattle.lk_filter_date.specs.DateTexts.{date_literal, is_of_date}
use Rattle.lk_filter_date.specs.Dates.{IsDateFilter, date_filter}
use Rattle.lk_filter_date.specs.DateReading.{items_of}
use Rattle.lk_filter_date.proofs.DateLiteralLaws.{date_reader}
use Rattle.lk_filter_date.proofs.DateTokenLaws.{no_dates, dates_are_spelled, dates_are_read}
use Rattle.lk_filter_date.proofs.reading.read_dates.Goals as goal

pub returns-in_default-clause-every : goal.returns-in_default-clause-every
returns-in_default-clause-every c =
    no_dates c.args.text.now (rw c.in_default.is at c.in_ok-tokens.ensures.every date_literal is_of_date begins_no_digit date_reader)

pub returns-clause-spelled : goal.returns-clause-spelled
returns-clause-spelled c =
    let spelled = rw c.in-Some.is at c.in_ok-tokens.ensures.spelled date_literal is_of_date begins_no_digit date_reader in
    let literals = rw c.in-Some.is at c.in_ok-tokens.ensures.literals date_literal is_of_date begins_no_digit date_reader in
    IfOk-weaker c.read_tokens.result (λ found. found ≡ option_and_then date_filter (items_of c.as_slice.result.now)) (λ found. IfSome found (λ f. IsDateFilter f c.args.text.now))
    (λ found e. dates_are_spelled c.in-Some.tokens c.args.text.now spelled literals found (rw c.as_slice.ensures at e)) c.read_tokens.ensures

pub returns-clause-every : goal.returns-clause-every
returns-clause-every c =
    let every = rw c.in-Some.is at c.in_ok-tokens.ensures.every date_literal is_of_date begins_no_digit date_reader in
    IfOk-weaker c.read_tokens.result (λ found. found ≡ option_and_then date_filter (items_of c.as_slice.result.now)) (λ found. (f : Filter) → IsDateFilter f c.args.text.now → found ≡ Some f)
    (λ found e. dates_are_read c.in-Some.tokens c.args.text.now every found (rw c.as_slice.ensures at e)) c.read_tokens.ensures
