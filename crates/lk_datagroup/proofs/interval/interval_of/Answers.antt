use Rattle.std.proofs.Common.{◌∙◌, Some, ap, arith, pos, sym}
use Rattle.std.specs.Option.{option_map}
use Rattle.lk_datagroup.proofs.IntervalLaws.{interval_is, product_is}
use Rattle.lk_datagroup.proofs.interval.interval_of.Goals as goal

pub returns : goal.returns
returns c =
    let number = c.in_ok-number.number.now in
    let count = c.in_ok-count.count in
    let seconds = c.in_ok-seconds.seconds in
    let parts = c.in_ok-number.ensures.byte (omega arith) (λ w o h. h) in
    ap Some (product_is number count seconds c.from.result c.from-2.result c.in_ok-count.ensures c.in_ok-seconds.ensures.few c.from.ensures c.from-2.ensures)
    ∙ ap (option_map pos) (sym (interval_is c.args.text.now number c.in_ok-number.unit.now count seconds parts.2 parts.0 parts.1 c.in_ok-count.ensures c.in_ok-seconds.ensures.of))
