use Rattle.std.proofs.Common.{◌≡◌, ◌∷◌, option_map, sym, ◌∙◌}
use Rattle.std.proofs.lemmas.Result.{IfOk-weaker}
use Rattle.lk_filter_date.specs.DateReading.{further_from, items_of}
use Rattle.lk_filter_date.proofs.DateReadingLaws.{items_behind}
use Rattle.lk_filter_date.proofs.reading.items_of.Goals as goal

pub returns-in-Some : goal.returns-in-Some
returns-in-Some c =
    IfOk-weaker c.further_items.result (λ items. items ≡ option_map (λ more. c.in-Some.first ∷ more) (further_from c.args.tokens.now c.in-Some.rest.now)) (λ items. items ≡ items_of c.args.tokens.now)
    (λ items e. e ∙ sym (items_behind c.args.tokens.now (c.in-Some.first, c.in-Some.rest.now) (sym (rw c.in-Some.is at c.in_ok-item_of.ensures)))) c.further_items.ensures
