use Rattle.std.proofs.Common.{◌≡◌, ◌∙◌, ◌∷◌, [], arith, append_assoc, sym}
use Rattle.std.proofs.lemmas.Int.{to_z-of_z, ints}
use Rattle.lk_types.specs.Calendar.{day_of_moment, from_year_one, second_of_moment}
use Rattle.lk_types.specs.Printing.{date_text, time_text}
use Rattle.lk_types.proofs.printing.print_moment.Goals as goal

pub returns : goal.returns
returns c =
    let moment = c.args.moment in
    let day : c.from_year_one.result ≡ from_year_one (day_of_moment moment) = grind (arith, ints, to_z-of_z, c.from_year_one.ensures.day, c.day_of_moment.ensures.day, c.ranges.moment) in
    let second : c.second_of_moment.result ≡ second_of_moment moment = simp (to_z-of_z, c.ranges.moment) at c.second_of_moment.ensures in
    c.from_string.ensures
    ∙ c.in_ok-format.ensures.ok
    ∙ rw (c.in_ok-date.ensures, c.in_ok-time.ensures, day, second)
    (sym (append_assoc (date_text (from_year_one (day_of_moment moment))) (32 ∷ []) (time_text (second_of_moment moment))))
