use Rattle.std.proofs.Common.{min, ap, sym, ◌∙◌}
use Rattle.lk_filter_number.specs.NumberReading.{before_place}
use Rattle.lk_filter_number.proofs.UnreadLaws.{numbers_place}
use Rattle.lk_filter_number.proofs.number.place.place_of_numbers.Goals as goal

pub returns-in-None : goal.returns-in-None
returns-in-None c =
    numbers_place c.args.text.now c.in_ok-judge_numbers.field-0 _ c.in_ok-judge_numbers.ensures
    (c.unwrap_or-place.ensures ∙ ap (before_place _) (sym c.in-None.is ∙ c.unread_from.ensures))

pub returns-in-Some : goal.returns-in-Some
returns-in-Some c =
    numbers_place c.args.text.now c.in_ok-judge_numbers.field-0 _ c.in_ok-judge_numbers.ensures
    (c.min.ensures ∙ ap (λ z. min z c.in-Some.unread) c.unwrap_or-place.ensures ∙ ap (before_place _) (sym c.in-Some.is ∙ c.unread_from.ensures))
