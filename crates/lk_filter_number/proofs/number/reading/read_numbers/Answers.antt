use Rattle.std.proofs.Common.{refl, [], ◌∷◌, ◌≡◌, Some, IfSome}
use Rattle.std.specs.Option.{option_and_then}
use Rattle.std.proofs.lemmas.Result.{IfOk-weaker}
use Rattle.lk_types.specs.declared.filter.Filter.{Filter}
use Rattle.lk_grammar.specs.Numbers.{number, is_of_number, begins_no_number}
use Rattle.lk_grammar.proofs.NumberLaws.{number_reader}
use Rattle.lk_filter_number.specs.Numbers.{IsNumberFilter, number_filter}
use Rattle.lk_filter_number.specs.NumberReading.{items_of}
use Rattle.lk_filter_number.proofs.NumberTokenLaws.{no_numbers, numbers_are_spelled, numbers_are_read}
use Rattle.lk_filter_number.proofs.number.reading.read_numbers.Goals as goal

pub returns-in_default-clause-every : goal.returns-in_default-clause-every
returns-in_default-clause-every c =
    no_numbers c.args.text.now (rw c.in_default.is at c.in_ok-tokens.ensures.every number is_of_number begins_no_number (number_reader (32 ∷ []) refl))

pub returns-clause-spelled : goal.returns-clause-spelled
returns-clause-spelled c =
    let spelled = rw c.in-Some.is at c.in_ok-tokens.ensures.spelled number is_of_number begins_no_number (number_reader (32 ∷ []) refl) in
    let literals = rw c.in-Some.is at c.in_ok-tokens.ensures.literals number is_of_number begins_no_number (number_reader (32 ∷ []) refl) in
    IfOk-weaker c.read_tokens.result (λ found. found ≡ option_and_then number_filter (items_of c.as_slice.result.now)) (λ found. IfSome found (λ f. IsNumberFilter f c.args.text.now))
    (λ found e. numbers_are_spelled c.in-Some.tokens c.args.text.now spelled literals found (rw c.as_slice.ensures at e)) c.read_tokens.ensures

pub returns-clause-every : goal.returns-clause-every
returns-clause-every c =
    let every = rw c.in-Some.is at c.in_ok-tokens.ensures.every number is_of_number begins_no_number (number_reader (32 ∷ []) refl) in
    IfOk-weaker c.read_tokens.result (λ found. found ≡ option_and_then number_filter (items_of c.as_slice.result.now)) (λ found. (f : Filter) → IsNumberFilter f c.args.text.now → found ≡ Some f)
    (λ found e. numbers_are_read c.in-Some.tokens c.args.text.now every found (rw c.as_slice.ensures at e)) c.read_tokens.ensures
