use Rattle.std.proofs.Common.{ap, ◌∙◌, ◌-◌}
use Rattle.std.specs.Arc.{arc_value}
use Rattle.shelf_tests.proofs.NumberLaws.{offers_again}
use Rattle.shelf_tests.proofs.numbers.publish_again.Goals as goal

pub publish-requires : goal.publish-requires
publish-requires g c =
    offers_again c.args.publisher.now.0 (arc_value c.in_ok-new.field-0) c.offer.new.self c.in_ok-offer.ensures.ok c.requires
    (ap (λ counted. counted.number) c.in_ok-new.ensures.ok ∙ (c.saturating_sub-number.ensures ∙ ap (λ count. count - 1) c.len.ensures.length))
