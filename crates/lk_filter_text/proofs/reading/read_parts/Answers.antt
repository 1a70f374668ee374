use Rattle.std.proofs.Common.{◌≡◌, None, Some, option_map, sym, ap, ◌∙◌}
use Rattle.lk_filter_text.specs.TextReading.{with_part, parts_left, behind_comma, read_part}
use Rattle.lk_filter_text.proofs.TextPartLaws.{left_is, less_left, one_more, none_left, grown_filter}
use Rattle.lk_filter_text.proofs.reading.read_parts.Goals as goal

pub returns-in_default-read_part : goal.returns-in_default-read_part
returns-in_default-read_part c =
    let none : read_part c.before_comma.result.now ≡ None = sym c.read_part.ensures ∙ ap (option_map (λ p. (p.0, p.1.now))) c.in_default-read_part.is in
    let left = rw c.in-Some.is at c.loop-left.invariant in
    sym (none_left c.loop-left.include c.loop-left.exclude c.in-Some.rest.now (ap read_part (sym c.before_comma.ensures) ∙ none)) ∙ left

pub loop-left-smaller : goal.loop-left-smaller
loop-left-smaller c =
    rw (c.behind_comma-left.ensures, c.in-Some.is) (less_left c.in-Some.rest.now)

pub loop-left-preserved : goal.loop-left-preserved
loop-left-preserved c =
    let found : read_part c.before_comma.result.now ≡ Some (c.in-Some-read_part.excluded, c.in-Some-read_part.content.now) = sym c.read_part.ensures ∙ ap (option_map (λ p. (p.0, p.1.now))) c.in-Some-read_part.is in
    let left = rw c.in-Some.is at c.loop-left.invariant in
    let part = ap read_part (sym c.before_comma.ensures) ∙ found in
    rw (c.in_ok-push_test.ensures.includes, c.in_ok-push_test.ensures.excludes, c.behind_comma-left.ensures, c.in_ok-test.ensures)
    (one_more c.loop-left.include c.loop-left.exclude c.in-Some-read_part.excluded c.in-Some-read_part.content.now (parts_left (behind_comma c.in-Some.rest.now))
    ∙ sym (ap (option_map (grown_filter c.loop-left.include c.loop-left.exclude)) (left_is c.in-Some.rest.now ∙ ap (λ z. with_part z (parts_left (behind_comma c.in-Some.rest.now))) part))
    ∙ left)
