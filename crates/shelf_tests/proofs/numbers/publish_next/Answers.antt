use Rattle.std.proofs.Common.{ap, ◌∙◌}
use Rattle.std.specs.Arc.{arc_value}
use Rattle.shelf_tests.proofs.NumberLaws.{offers_next, published_counts}
use Rattle.shelf_tests.proofs.numbers.publish_next.Goals as goal

pub publish-requires : goal.publish-requires
publish-requires g c =
    offers_next c.args.publisher.now.0 (arc_value c.in_ok-new.field-0) c.offer.new.self c.in_ok-offer.ensures.ok c.requires (ap (λ counted. counted.number) c.in_ok-new.ensures.ok ∙ c.len-number.ensures.length)

pub returns : goal.returns
returns g c =
    published_counts c.args.publisher.now.0 (arc_value c.in_ok-new.field-0) c.offer.new.self c.publish.new.self c.in_ok-offer.ensures.ok c.publish.ensures.list (ap (λ counted. counted.number) c.in_ok-new.ensures.ok ∙ c.len-number.ensures.length)
