use Rattle.std.proofs.Common.{◌≡◌, Some, IfSome, option_map}
use Rattle.std.proofs.lemmas.Result.{IfOk-weaker}
use Rattle.lk_types.specs.declared.filter.Filter.{Filter}
use Rattle.lk_filter_text.specs.Characters.{plain_form, goes_on, begins_mark}
use Rattle.lk_filter_text.specs.Texts.{IsTextFilter, text_filter}
use Rattle.lk_filter_text.specs.TextReading.{read_all}
use Rattle.lk_filter_text.proofs.CharacterLaws.{character_reader}
use Rattle.lk_filter_text.proofs.TextTokenLaws.{no_texts, texts_are_spelled, texts_are_read}
use Rattle.lk_filter_text.proofs.reading.read_texts.Goals as goal

pub returns-in_default-clause-every : goal.returns-in_default-clause-every
returns-in_default-clause-every c =
    no_texts c.args.text.now (rw c.in_default.is at c.in_ok-tokens.ensures.every plain_form goes_on begins_mark character_reader)

pub returns-clause-spelled : goal.returns-clause-spelled
returns-clause-spelled c =
    let spelled = rw c.in-Some.is at c.in_ok-tokens.ensures.spelled plain_form goes_on begins_mark character_reader in
    let literals = rw c.in-Some.is at c.in_ok-tokens.ensures.literals plain_form goes_on begins_mark character_reader in
    IfOk-weaker c.read_all.result (λ found. found ≡ option_map text_filter (read_all c.as_slice.result.now)) (λ found. IfSome found (λ f. IsTextFilter f c.args.text.now))
    (λ found e. texts_are_spelled c.in-Some.tokens c.args.text.now spelled literals found (rw c.as_slice.ensures at e)) c.read_all.ensures

pub returns-clause-every : goal.returns-clause-every
returns-clause-every c =
    let every = rw c.in-Some.is at c.in_ok-tokens.ensures.every plain_form goes_on begins_mark character_reader in
    IfOk-weaker c.read_all.result (λ found. found ≡ option_map text_filter (read_all c.as_slice.result.now)) (λ found. (f : Filter) → IsTextFilter f c.args.text.now → found ≡ Some f)
    (λ found e. texts_are_read c.in-Some.tokens c.args.text.now every found (rw c.as_slice.ensures at e)) c.read_all.ensures
