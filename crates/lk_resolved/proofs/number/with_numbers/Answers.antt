use Rattle.std.proofs.Common.{◌≡◌, ◌∙◌, ap}
use Rattle.lk_postfix.specs.Postfix.{is_whole}
use Rattle.lk_types.specs.CalculationNodes.{arity, calculation_of}
use Rattle.lk_resolved.specs.Fields.{renumbered}
use Rattle.lk_resolved.specs.NumberNodes.{number_at}
use Rattle.lk_resolved.proofs.NumberLaws.{calculation_renumbered, still_whole, value_some}
use Rattle.lk_resolved.proofs.number.with_numbers.Goals as goal

pub unwrap-requires : goal.unwrap-requires
unwrap-requires c =
    c.from_nodes.ensures.some ∙ ap (is_whole arity) c.in_ok-nodes.ensures ∙ still_whole (number_at c.args.numbers.now) c.nodes.result.now ∙ c.nodes.ensures.whole

pub returns : goal.returns
returns c =
    let s = number_at c.args.numbers.now in
    value_some c.from_nodes.result c.unwrap.result c.unwrap.ensures c.from_nodes.ensures.value
    ∙ ap calculation_of c.in_ok-nodes.ensures
    ∙ calculation_renumbered s c.nodes.result.now
    ∙ ap (renumbered s) c.nodes.ensures.value
